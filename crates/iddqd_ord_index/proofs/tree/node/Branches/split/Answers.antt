use Rattle.std.proofs.Common.{◌+◌, arith}
use Rattle.iddqd_ord_index.specs.Nodes.{below}
use Rattle.iddqd_ord_index.proofs.CutLemmas.{cut_left, cut_right}
use Rattle.iddqd_ord_index.proofs.tree.node.Branches.split.Goals as goal

pub returns-then-i-lt-KEPT-clause-below : goal.returns-then-i-lt-KEPT-clause-below
returns-then-i-lt-KEPT-clause-below c =
    rw (c.insert.ensures.below, c.move_tail.ensures.below, c.move_tail.ensures.upper_below)
    (cut_left (below c.args.self.now) 6 (c.args.i + 1) c.args.node (omega (arith, c.requires.full)) (omega (arith, c.if-i-lt-KEPT.true)))

pub returns-else-i-lt-KEPT-clause-below : goal.returns-else-i-lt-KEPT-clause-below
returns-else-i-lt-KEPT-clause-below c =
    rw (c.insert-else-i-lt-KEPT.ensures.below, c.move_tail.ensures.below, c.move_tail.ensures.upper_below)
    (cut_right (below c.args.self.now) 6 (c.args.i + 1) c.args.node (omega (arith, c.requires.full)) (omega (arith, c.if-i-lt-KEPT.false)))
