use Rattle.std.proofs.Common.{length, ap, arith}
use Rattle.std.proofs.lemmas.Grind.{common_steps}
use Rattle.iddqd_ord_index.specs.Nodes.{below}
use Rattle.iddqd_ord_index.proofs.BelowLemmas.{counts_at, starts_more, starts_less, length-counts, length-lists}
use Rattle.iddqd_ord_index.proofs.tree.node.Branches.branch_at.Goals as goal

pub loop-i-preserved : goal.loop-i-preserved
loop-i-preserved c =
    let bs = c.args.self.now in
    let i = c.loop-i.i in
    let n = length-counts bs c.requires.branches in
    let k = ap length c.counts-counts.ensures in
    let m = starts_more bs c.requires.branches c.counts-counts.result.now c.counts-counts.ensures i c.loop-i.invariant.within in
    let l = starts_less bs c.requires.branches c.counts-counts.result.now c.counts-counts.ensures i c.loop-i.invariant.within in
    record { within = omega arith; sum = omega (arith, c.loop-i.invariant.sum); reached = omega (arith, c.loop-i.invariant.reached) }

pub returns-else-rest-counts : goal.returns-else-rest-counts
returns-else-rest-counts c =
    let bs = c.args.self.now in
    let e = counts_at bs c.requires.branches c.counts-counts.result.now c.counts-counts.ensures c.loop-i.i c.loop-i.invariant.within in
    record { branch = omega (arith, length-lists (below bs), c.loop-i.invariant.within); within = omega arith; sum = c.loop-i.invariant.sum }

pub loop-i-init : goal.loop-i-init
loop-i-init c = grind (arith, common_steps)

pub overflow_add-i : goal.overflow_add-i
overflow_add-i c = grind (arith, common_steps)

pub returns-after-loop-i : goal.returns-after-loop-i
returns-after-loop-i c = grind (arith, common_steps)
