use Rattle.std.proofs.Common.{◌-◌, ◌<◌, ap, ◌∙◌, subst, min}
use Rattle.iddqd_ord_index.specs.Nodes.{below}
use Rattle.iddqd_ord_index.proofs.RebalanceLemmas.{neighbours}
use Rattle.iddqd_ord_index.proofs.tree.node.remove.rebalance.Goals as goal

pub rebalance_at-requires-clause-pair : goal.rebalance_at-requires-clause-pair
rebalance_at-requires-clause-pair c =
    neighbours (below c.args.branches.now) c.args.slots.now.items c.args.i c.min-j.result c.requires.near (c.min-j.ensures ∙ ap (λ n. min c.args.i (n - 1)) c.len.ensures.value)
    (subst (λ n. n < 5) c.requires.width c.if-width-ge-LEAST_SLOTS.false) c.requires.room
