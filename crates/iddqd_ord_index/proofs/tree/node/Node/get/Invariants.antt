use Rattle.std.proofs.Common.{ℕ, ◌+◌, ◌*◌, ◌≤◌}
use Rattle.iddqd_ord_index.specs.Standing.{slot_standing, IsPart}
use Rattle.iddqd_ord_index.proofs.tree.node.Node.get.Given as goal

abbrev pub invariant-down : goal.invariant-down
invariant-down g l = record {
  part : (base : ℕ) × IsPart (slot_standing g.T.IdOrdItem.key (g.Q.Comparable.compare l.query) l.store) l.self.slots l.node.slots base;
  counted : l.steps + 4 * l.node.height ≤ l.initial.steps + 4 * l.self.height;
  never_resets : l.initial.steps ≤ l.steps;
}

abbrev pub decreases-down : goal.decreases-down
decreases-down g l = l.node.height
