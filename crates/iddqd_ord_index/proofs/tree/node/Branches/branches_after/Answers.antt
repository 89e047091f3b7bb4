use Rattle.std.proofs.Common.{◌≡◌, ◌+◌, ◌-◌, ◌∙◌, List, length, map, take, drop, ap, sym, arith, Option, Some}
use Rattle.std.proofs.lemmas.List.{length-map}
use Rattle.iddqd_ord_index.specs.Cells.{items_present}
use Rattle.iddqd_ord_index.specs.declared.tree.node.Node.{Node}
use Rattle.iddqd_ord_index.proofs.BelowLemmas.{counted_length, length-subtrees}
use Rattle.iddqd_ord_index.proofs.CellLemmas.{below_read, block_read}
use Rattle.iddqd_ord_index.proofs.PackedLemmas.{held_all, tail_cells}
use Rattle.iddqd_ord_index.proofs.tree.node.Branches.branches_after.Goals as goal

abbrev part : goal.After-result-1 → List (Option Node)
part c = take (c.len.result - (c.args.i + 1)) (drop (c.args.i + 1) c.block-block.result.now.nodes)

cells : (c : goal.After-result-1) → part c ≡ map Some (drop (c.args.i + 1) (items_present c.block-block.result.now.nodes))
cells c =
    let block = c.block-block.result.now in
    let a = block_read c.args.self.now block c.block-block.ensures c.requires.branches in
    let e = ap length (below_read c.args.self.now block c.block-block.ensures) in
    let n = length-subtrees block.nodes in
    let k = counted_length block.nodes block.counts.items a in
    tail_cells block.nodes (c.args.i + 1) c.len.result a.packed (omega (arith, c.len.ensures.value)) (omega (arith, c.len.ensures.value, c.requires.in_bounds))

items : (c : goal.After-result-1) → items_present (part c) ≡ drop (c.args.i + 1) (items_present c.block-block.result.now.nodes)
items c = ap items_present (cells c) ∙ held_all _

pub returns-clause-branches : goal.returns-clause-branches
returns-clause-branches c =
    items c ∙ ap (drop (c.args.i + 1)) (sym (below_read c.args.self.now c.block-block.result.now c.block-block.ensures))

pub returns-clause-present : goal.returns-clause-present
returns-clause-present c =
    length-subtrees (part c) ∙ (ap length (items c) ∙ sym (ap length (cells c) ∙ length-map (drop (c.args.i + 1) (items_present c.block-block.result.now.nodes)) Some))
