use Rattle.std.proofs.Common.{◌≡◌, ◌+◌, ◌*◌, ◌≤◌, ◌++◌, length, drop}
use Rattle.std.specs.List.{All}
use Rattle.iddqd_ord_index.specs.Nodes.{subtrees}
use Rattle.iddqd_ord_index.specs.Runs.{BeginsWith}
use Rattle.iddqd_ord_index.specs.Shape.{behind, lists}
use Rattle.iddqd_ord_index.specs.Standing.{slot_standing, IsPart}
use Rattle.iddqd_ord_index.proofs.tree.node.Node.find_leaves.Given as goal

abbrev pub invariant-down : goal.invariant-down
invariant-down g l = record {
  part : IsPart (slot_standing g.T.IdOrdItem.key (g.Q.Comparable.compare l.query) l.store) l.self.slots l.node.slots l.base;
  walk : BeginsWith (l.node.slots ++ behind (lists (subtrees l.leaves)) l.slots) (drop l.base l.self.slots);
  cells : length l.leaves ≡ length l.slots;
  present : length (subtrees l.leaves) ≡ length l.leaves;
  heights : All (λ t. t.height ≡ l.node.height) (subtrees l.leaves);
  counted : l.steps + 4 * l.node.height ≤ l.initial.steps + 4 * l.self.height;
  never_resets : l.initial.steps ≤ l.steps;
}

abbrev pub decreases-down : goal.decreases-down
decreases-down g l = l.node.height
