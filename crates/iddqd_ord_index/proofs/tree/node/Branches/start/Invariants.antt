use Rattle.std.proofs.Common.{◌≡◌, take}
use Rattle.iddqd_ord_index.specs.Shape.{starts, lists}
use Rattle.iddqd_ord_index.specs.Nodes.{below}
use Rattle.iddqd_ord_index.proofs.tree.node.Branches.start.Given as goal

abbrev pub invariant-loop-k : goal.invariant-loop-k
invariant-loop-k l = l.start ≡ starts (take l.k (lists (below l.self)))
