use Rattle.std.proofs.Common.{◌≡◌, ◌-◌, length}
use Rattle.std.specs.List.{slice_get}
use Rattle.iddqd_ord_index.proofs.tree.node.Node.last.Given as goal

abbrev pub invariant-down : goal.invariant-down
invariant-down l = slice_get l.node.slots (length l.node.slots - 1) ≡ slice_get l.self.slots (length l.self.slots - 1)

abbrev pub decreases-down : goal.decreases-down
decreases-down l = l.node.height
