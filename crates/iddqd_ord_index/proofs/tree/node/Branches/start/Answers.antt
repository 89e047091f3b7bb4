use Rattle.std.proofs.Common.{◌+◌, drop, arith, length-drop}
use Rattle.iddqd_ord_index.specs.Nodes.{below}
use Rattle.iddqd_ord_index.specs.Shape.{lists}
use Rattle.iddqd_ord_index.proofs.BelowLemmas.{starts_more, length-lists}
use Rattle.iddqd_ord_index.proofs.InOrderLemmas.{starts_split, starts_ge}
use Rattle.iddqd_ord_index.proofs.tree.node.Branches.start.Goals as goal

pub overflow_add-start : goal.overflow_add-start
overflow_add-start c =
    let bs = c.args.self.now in
    let m = starts_more bs c.requires.branches c.counts-counts.result.now c.counts-counts.ensures c.loop-k.k (omega arith) in
    let s = starts_split (lists (below bs)) (c.loop-k.k + 1) in
    let g = starts_ge (drop (c.loop-k.k + 1) (lists (below bs))) in
    omega (arith, length-drop (c.loop-k.k + 1) (lists (below bs)), length-lists (below bs), c.requires.room)

pub overflow_add-start-in-loop-k : goal.overflow_add-start-in-loop-k
overflow_add-start-in-loop-k c =
    let bs = c.args.self.now in
    let m = starts_more bs c.requires.branches c.counts-counts.result.now c.counts-counts.ensures c.loop-k.k (omega arith) in
    let s = starts_split (lists (below bs)) (c.loop-k.k + 1) in
    let g = starts_ge (drop (c.loop-k.k + 1) (lists (below bs))) in
    omega (arith, length-drop (c.loop-k.k + 1) (lists (below bs)), length-lists (below bs), c.requires.room, c.loop-k.invariant)

pub loop-k-preserved : goal.loop-k-preserved
loop-k-preserved c =
    let bs = c.args.self.now in
    let m = starts_more bs c.requires.branches c.counts-counts.result.now c.counts-counts.ensures c.loop-k.k (omega arith) in
    omega (arith, c.loop-k.invariant)
