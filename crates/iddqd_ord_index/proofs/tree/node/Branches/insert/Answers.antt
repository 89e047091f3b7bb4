use Rattle.std.proofs.Common.{◌≡◌, map, length, ap, sym, ◌∙◌}
use Rattle.std.specs.List.{insert}
use Rattle.iddqd_ord_index.specs.Nodes.{subtrees}
use Rattle.iddqd_ord_index.proofs.BelowLemmas.{branches_are}
use Rattle.iddqd_ord_index.proofs.CellLemmas.{block_read, block_written}
use Rattle.iddqd_ord_index.proofs.PackedLemmas.{map-insert}
use Rattle.iddqd_ord_index.proofs.tree.node.Branches.insert.Goals as goal

pub returns-clause-branches : goal.returns-clause-branches
returns-clause-branches c =
    let bs = c.args.self.now in
    let read = c.block_mut-block.result.now in
    let h = c.block_mut-block.ensures.block in
    let ts = subtrees read.nodes in
    let f : c.insert-2.new.self.items ≡ insert (map (λ t. length t.slots) ts) c.args.i (length c.args.node.slots) =
    c.insert-2.ensures.items ∙ (ap (λ l. insert l c.args.i c.args.count) (block_read bs read h c.requires.branches).counted ∙ ap (λ n. insert (map (λ t. length t.slots) ts) c.args.i n) c.requires.count) in
    block_written bs read h _ (branches_are _ _ _ c.insert.ensures.packed c.insert.ensures.items (f ∙ sym (map-insert (λ t. length t.slots) ts c.args.i c.args.node)))
