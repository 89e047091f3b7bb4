use Rattle.std.proofs.Common.{◌≡◌, ◌+◌, ◌-◌, length, set, get_or, subst, ap, sym, ◌∙◌, arith}
use Rattle.iddqd_ord_index.specs.Cells.{IsPacked}
use Rattle.iddqd_ord_index.specs.Nodes.{below, counts_of, nodes_of, subtrees, with_block}
use Rattle.iddqd_ord_index.specs.Shape.{unused}
use Rattle.iddqd_ord_index.proofs.BelowLemmas.{branches_are, counted_length}
use Rattle.iddqd_ord_index.proofs.CellLemmas.{below_read, block_read, counts_written, nodes_written}
use Rattle.iddqd_ord_index.proofs.RebalanceLemmas.{counts_then, len_within}
use Rattle.iddqd_ord_index.proofs.tree.node.Branches.shift_at.Goals as goal

-- how many branches there are
counts : (c : goal.After-set_count-arg-1) → length (counts_of (with_block c.args.self.now (record c.block_mut.result.now { nodes = c.shift_cells-top.new.nodes }))) ≡ length (below c.args.self.now)
counts c =
    let bs = c.args.self.now in
    let read = c.block_mut.result.now in
    let h = c.block_mut.ensures.block in
    ap length (counts_written bs read h _) ∙ (counted_length read.nodes read.counts.items (block_read bs read h c.requires.branches) ∙ ap length (sym (below_read bs read h)))

pub set_count-requires : goal.set_count-requires
set_count-requires c = omega (arith, counts c, c.requires.pair.within)

pub overflow_sub-total : goal.overflow_sub-total
overflow_sub-total c =
    let b = below_read c.args.self.now c.block_mut.result.now c.block_mut.ensures.block in
    len_within (subtrees c.block_mut.result.now.nodes) (subtrees c.shift_cells-top.new.nodes) c.args.j c.args.middle c.shift_cells-top.result.0 c.shift_cells-top.ensures.shifted (omega (arith, c.requires.pair.within, ap length b))
    c.count.result c.count-2.result c.shift_cells-top.result.1
    (c.count.ensures ∙ ap (λ ts. length (get_or ts c.args.j unused).slots) b) (c.count-2.ensures ∙ ap (λ ts. length (get_or ts (c.args.j + 1) unused).slots) b) c.shift_cells-top.ensures.len

pub returns-clause-branches : goal.returns-clause-branches
returns-clause-branches c =
    let b = below_read c.args.self.now c.block_mut.result.now c.block_mut.ensures.block in
    let a = block_read c.args.self.now c.block_mut.result.now c.block_mut.ensures.block c.requires.branches in
    let cells : nodes_of c.set_count-2.new.self ≡ c.shift_cells-top.new.nodes = c.set_count-2.ensures.cells ∙ (c.set_count.ensures.cells ∙ nodes_written c.args.self.now c.block_mut.result.now c.block_mut.ensures.block _) in
    branches_are (nodes_of c.set_count-2.new.self) (counts_of c.set_count-2.new.self) (subtrees c.shift_cells-top.new.nodes) (subst (λ l. IsPacked l) (sym cells) c.shift_cells-top.ensures.packed) (ap subtrees cells)
    (c.set_count-2.ensures.counts
    ∙ (ap (λ l. set l (c.args.j + 1) (c.count.result + c.count-2.result - c.shift_cells-top.result.1)) (c.set_count.ensures.counts ∙ ap (λ l. set l c.args.j c.shift_cells-top.result.1) (counts_written c.args.self.now c.block_mut.result.now c.block_mut.ensures.block _))
    ∙ counts_then (subtrees c.block_mut.result.now.nodes) (subtrees c.shift_cells-top.new.nodes) c.args.j c.args.middle c.shift_cells-top.result.0 c.shift_cells-top.ensures.shifted (omega (arith, c.requires.pair.within, ap length b))
    c.count.result c.count-2.result c.shift_cells-top.result.1
    (c.count.ensures ∙ ap (λ ts. length (get_or ts c.args.j unused).slots) b) (c.count-2.ensures ∙ ap (λ ts. length (get_or ts (c.args.j + 1) unused).slots) b) c.shift_cells-top.ensures.len
    c.block_mut.result.now.counts.items a.counted))
