use Rattle.std.proofs.Common.{◌-◌, length, ap, ◌∙◌, arith}
use Rattle.std.specs.List.{slice_get}
use Rattle.iddqd_ord_index.specs.Nodes.{below}
use Rattle.iddqd_ord_index.proofs.EndLemmas.{last_below}
use Rattle.iddqd_ord_index.proofs.tree.node.Node.last.Goals as goal

pub down-preserved : goal.down-preserved
down-preserved c =
    let some = c.is_empty.ensures.some c.down-test.true in
    ap (λ t. slice_get t.slots (length t.slots - 1)) c.get-node.ensures
    ∙ (last_below (below c.node.inside.branches) c.node.inside.slots.items c.node.invariant.forked some (c.len.result - 1) (omega (arith, c.len.ensures))
    ∙ (ap (λ t. slice_get t.slots (length t.slots - 1)) c.node.view_is ∙ c.down.invariant))
