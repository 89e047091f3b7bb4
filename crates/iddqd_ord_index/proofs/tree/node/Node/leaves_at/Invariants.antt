use Rattle.std.proofs.Common.{◌≡◌, ◌<◌, ◌++◌, length, drop}
use Rattle.std.specs.List.{All}
use Rattle.iddqd_ord_index.specs.Nodes.{subtrees}
use Rattle.iddqd_ord_index.specs.Runs.{BeginsWith}
use Rattle.iddqd_ord_index.specs.Shape.{behind, lists}
use Rattle.iddqd_ord_index.proofs.tree.node.Node.leaves_at.Given as goal

abbrev pub invariant-down : goal.invariant-down
invariant-down l = record {
  within : l.place < length l.node.slots;
  walk : BeginsWith (drop l.place l.node.slots ++ behind (lists (subtrees l.leaves)) l.slots) (drop l.at l.self.slots);
  cells : length l.leaves ≡ length l.slots;
  present : length (subtrees l.leaves) ≡ length l.leaves;
  heights : All (λ t. t.height ≡ l.node.height) (subtrees l.leaves);
}

abbrev pub decreases-down : goal.decreases-down
decreases-down l = l.node.height
