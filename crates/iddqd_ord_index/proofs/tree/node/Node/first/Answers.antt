use Rattle.std.proofs.Common.{ap, ◌∙◌}
use Rattle.std.specs.List.{slice_get}
use Rattle.iddqd_ord_index.specs.Nodes.{below}
use Rattle.iddqd_ord_index.proofs.EndLemmas.{first_below}
use Rattle.iddqd_ord_index.proofs.tree.node.Node.first.Goals as goal

pub down-preserved : goal.down-preserved
down-preserved c =
    ap (λ t. slice_get t.slots 0) c.get-node.ensures
    ∙ (first_below (below c.node.inside.branches) c.node.inside.slots.items c.node.invariant.forked (c.is_empty.ensures.some c.down-test.true)
    ∙ (ap (λ t. slice_get t.slots 0) c.node.view_is ∙ c.down.invariant))
