use Rattle.std.proofs.Common.{◌≡◌, ◌<◌, length, get_or}
use Rattle.iddqd_ord_index.proofs.tree.node.Node.slot_at.Given as goal

abbrev pub invariant-down : goal.invariant-down
invariant-down l = record { within : l.place < length l.node.slots; same : get_or l.node.slots l.place 0 ≡ get_or l.self.slots l.at 0 }

abbrev pub decreases-down : goal.decreases-down
decreases-down l = l.node.height
