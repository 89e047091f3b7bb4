use Rattle.std.proofs.Common.{◌≡◌, ◌+◌, ◌<◌, [], ◌∷◌, ◌++◌, length, take}
use Rattle.std.specs.List.{All}
use Rattle.iddqd_ord_index.specs.Nodes.{subtrees}
use Rattle.iddqd_ord_index.specs.Runs.{EndsWith}
use Rattle.iddqd_ord_index.specs.Shape.{in_order, lists}
use Rattle.iddqd_ord_index.proofs.tree.node.Node.leaves_before.Given as goal

abbrev pub invariant-down : goal.invariant-down
invariant-down l = record {
  within : l.place < length l.node.slots;
  walk : EndsWith (in_order (lists (subtrees l.leaves) ++ take (l.place + 1) l.node.slots ∷ []) l.slots) (take (l.at + 1) l.self.slots);
  cells : length l.leaves ≡ length l.slots;
  present : length (subtrees l.leaves) ≡ length l.leaves;
  heights : All (λ t. t.height ≡ l.node.height) (subtrees l.leaves);
}

abbrev pub decreases-down : goal.decreases-down
decreases-down l = l.node.height
