use Rattle.std.proofs.Common.{◌≡◌, map, length, take, drop, [], ap, sym, ◌∙◌}
use Rattle.std.proofs.lemmas.List.{take-map, drop-map, take_rest}
use Rattle.iddqd_ord_index.specs.Nodes.{subtrees}
use Rattle.iddqd_ord_index.proofs.BelowLemmas.{branches_are}
use Rattle.iddqd_ord_index.proofs.CellLemmas.{below_read, block_read, block_written}
use Rattle.iddqd_ord_index.proofs.tree.node.Branches.move_tail.Goals as goal

pub returns-clause-branches : goal.returns-clause-branches
returns-clause-branches c =
    let read = c.block_mut-block.result.now in
    let h = c.block_mut-block.ensures.block in
    block_written c.args.self.now read h _ (branches_are _ _ _ c.move_tail.ensures.packed c.move_tail.ensures.items
    (c.truncate.ensures.items ∙ (ap (λ l. take c.args.i l) (block_read c.args.self.now read h c.requires.branches).counted ∙ take-map (λ t. length t.slots) c.args.i (subtrees read.nodes))))

pub returns-clause-upper_branches : goal.returns-clause-upper_branches
returns-clause-upper_branches c =
    let read = c.block_mut-block.result.now in
    let h = c.block_mut-block.ensures.block in
    let upper = c.block_mut-upper.result.now in
    let k = c.block_mut-upper.ensures.block in
    let none : upper.counts.items ≡ [] = (block_read c.args.upper.now upper k c.requires.upper_branches).counted ∙ ap (λ l. map (λ t. length t.slots) l) (sym (below_read c.args.upper.now upper k) ∙ c.requires.upper_empty) in
    let moved : c.try_extend_from_slice.new.self.items ≡ drop c.args.i read.counts.items = c.in-Ok.ensures.ok ∙ (rw (none, c.as_slice.ensures.value) (take_rest read.counts.items c.args.i)) in
    block_written c.args.upper.now upper k _ (branches_are _ _ _ c.move_tail.ensures.upper_packed c.move_tail.ensures.upper_items
    (moved ∙ (ap (λ l. drop c.args.i l) (block_read c.args.self.now read h c.requires.branches).counted ∙ drop-map (λ t. length t.slots) c.args.i (subtrees read.nodes))))
