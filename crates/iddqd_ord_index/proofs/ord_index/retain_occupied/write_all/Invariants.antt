use Rattle.std.proofs.Common.{◌≡◌, ◌+◌, ◌-◌, ◌≤◌, ◌++◌, length, take, drop}
use Rattle.iddqd_ord_index.specs.Shape.{IsDense}
use Rattle.iddqd_ord_index.proofs.ord_index.retain_occupied.write_all.Given as goal

abbrev pub invariant-write : goal.invariant-write
invariant-write l = record {
  front : take (l.at + l.done) l.root.slots ≡ take l.at l.initial.root.slots ++ take l.done l.slots;
  back : drop (l.at + l.done) l.root.slots ≡ drop (l.at + l.done) l.initial.root.slots;
  within : l.done ≤ length l.slots;
  len : length l.root.slots ≡ length l.initial.root.slots;
  height : l.root.height ≡ l.initial.root.height;
  width : l.root.width ≡ l.initial.root.width;
  dense : IsDense l.root;
}

abbrev pub decreases-write : goal.decreases-write
decreases-write l = length l.slots - l.done
