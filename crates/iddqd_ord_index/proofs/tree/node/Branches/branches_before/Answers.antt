use Rattle.std.proofs.Common.{◌∙◌, length, take, ap, sym, arith, Some}
use Rattle.std.proofs.lemmas.List.{length-map}
use Rattle.iddqd_ord_index.specs.Cells.{items_present}
use Rattle.iddqd_ord_index.proofs.BackLemmas.{front_cells}
use Rattle.iddqd_ord_index.proofs.BelowLemmas.{length-subtrees}
use Rattle.iddqd_ord_index.proofs.CellLemmas.{below_read, block_read}
use Rattle.iddqd_ord_index.proofs.PackedLemmas.{held_all}
use Rattle.iddqd_ord_index.proofs.tree.node.Branches.branches_before.Goals as goal

pub returns-clause-branches : goal.returns-clause-branches
returns-clause-branches c =
    let block = c.block-block.result.now in
    let a = block_read c.args.self.now block c.block-block.ensures c.requires.branches in
    let e = below_read c.args.self.now block c.block-block.ensures in
    let n = length-subtrees block.nodes in
    let cells = front_cells block.nodes c.args.i a.packed (omega (arith, ap length e, c.requires.in_bounds)) in
    ap items_present cells ∙ held_all _ ∙ ap (take c.args.i) (sym e)

pub returns-clause-present : goal.returns-clause-present
returns-clause-present c =
    let block = c.block-block.result.now in
    let a = block_read c.args.self.now block c.block-block.ensures c.requires.branches in
    let e = below_read c.args.self.now block c.block-block.ensures in
    let n = length-subtrees block.nodes in
    let cells = front_cells block.nodes c.args.i a.packed (omega (arith, ap length e, c.requires.in_bounds)) in
    length-subtrees (take c.args.i block.nodes)
    ∙ (ap length (ap items_present cells ∙ held_all _) ∙ sym (ap length cells ∙ length-map (take c.args.i (items_present block.nodes)) Some))
