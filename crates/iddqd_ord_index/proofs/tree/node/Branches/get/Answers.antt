use Rattle.std.proofs.Common.{None, ap, is_some, sym, true≢false}
use Rattle.iddqd_ord_index.proofs.CellLemmas.{cell_full, node_in}
use Rattle.iddqd_ord_index.proofs.tree.node.Branches.get.Goals as goal

pub unreachable-requires : goal.unreachable-requires
unreachable-requires c =
    absurd (true≢false (sym (cell_full c.args.self.now c.block.result.now c.block.ensures c.args.i c.requires.branches c.requires.in_bounds _ None (ap is_some (sym c.in-None.is)))))

pub returns : goal.returns
returns c = node_in c.args.self.now c.block.result.now c.block.ensures c.args.i c.requires.branches c.requires.in_bounds _ c.in-Some.node c.in-Some.is
