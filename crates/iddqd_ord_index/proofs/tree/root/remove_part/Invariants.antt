use Rattle.std.proofs.Common.{◌≡◌, ◌+◌, ◌<◌, ◌≤◌, ◌^◌, ◌++◌, length, take, drop}
use Rattle.iddqd_ord_index.specs.Changes.{WantsFor}
use Rattle.iddqd_ord_index.specs.Shape.{IsDense}
use Rattle.iddqd_ord_index.proofs.tree.root.remove_part.Given as goal

abbrev pub invariant-cut : goal.invariant-cut
invariant-cut l = record {
  slots : take l.at l.root.slots ++ drop (l.at + l.left) l.root.slots ≡ take l.at l.initial.root.slots ++ drop (l.at + l.count) l.initial.root.slots;
  in_list : l.at + l.left ≤ length l.root.slots;
  room : length l.root.slots < 2 ^ 32;
  levels : l.levels ≡ l.root.height;
  dense : IsDense l.root;
  top : 1 < l.root.height → 1 ≤ l.root.width;
  wanted : 1 < l.levels → WantsFor l.levels l.pool;
}

abbrev pub decreases-cut : goal.decreases-cut
decreases-cut l = l.left
