use Rattle.std.proofs.Common.{◌≡◌, ◌-◌, ◌≤◌, ◌++◌, length, take, drop}
use Rattle.iddqd_ord_index.specs.Listed.{occupied_slots}
use Rattle.iddqd_ord_index.specs.Shape.{IsDense}
use Rattle.iddqd_ord_index.proofs.ord_index.retain_occupied.move_occupied.Given as goal

abbrev pub invariant-read : goal.invariant-read
invariant-read g l = record {
  slots : take l.kept l.root.slots ++ occupied_slots l.store (drop l.at l.root.slots) ≡ occupied_slots l.store l.initial.root.slots;
  most : l.kept ≤ l.at;
  within : l.at ≤ l.len;
  len : length l.root.slots ≡ length l.initial.root.slots;
  height : l.root.height ≡ l.initial.root.height;
  width : l.root.width ≡ l.initial.root.width;
  dense : IsDense l.root;
}

abbrev pub decreases-read : goal.decreases-read
decreases-read g l = l.len - l.at
