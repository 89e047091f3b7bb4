use Rattle.std.proofs.Common.{◌≡◌, ◌+◌, ◌-◌, ◌<◌, length, take, drop}
use Rattle.iddqd_ord_index.specs.Shape.{starts, lists}
use Rattle.iddqd_ord_index.specs.Nodes.{below}
use Rattle.iddqd_ord_index.proofs.tree.node.Branches.branch_at.Given as goal

abbrev pub invariant-loop-i : goal.invariant-loop-i
invariant-loop-i l = record {
  within : l.i < length (below l.self);
  sum : starts (take l.i (lists (below l.self))) + l.rest ≡ l.at;
  reached : l.rest < starts (drop l.i (lists (below l.self)));
}

abbrev pub decreases-loop-i : goal.decreases-loop-i
decreases-loop-i l = length (below l.self) - l.i
