use Rattle.std.proofs.Common.{◌≡◌}
use Rattle.std.specs.List.{slice_get}
use Rattle.iddqd_ord_index.proofs.tree.node.Node.first.Given as goal

abbrev pub invariant-down : goal.invariant-down
invariant-down l = slice_get l.node.slots 0 ≡ slice_get l.self.slots 0

abbrev pub decreases-down : goal.decreases-down
decreases-down l = l.node.height
