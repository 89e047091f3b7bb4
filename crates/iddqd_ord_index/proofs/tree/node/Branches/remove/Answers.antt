use Rattle.std.proofs.Common.{◌<◌, length, ap, sym, ◌∙◌, arith}
use Rattle.std.specs.List.{remove}
use Rattle.iddqd_ord_index.specs.Nodes.{subtrees}
use Rattle.iddqd_ord_index.specs.Shape.{unused}
use Rattle.iddqd_ord_index.proofs.BelowLemmas.{box_at, branches_are, counted_at}
use Rattle.iddqd_ord_index.proofs.CellLemmas.{below_read, block_read, block_written}
use Rattle.iddqd_ord_index.proofs.PackedLemmas.{map-remove}
use Rattle.iddqd_ord_index.proofs.tree.node.Branches.remove.Goals as goal

pub returns-clause-branches : goal.returns-clause-branches
returns-clause-branches c =
    let read = c.block_mut-block.result.now in
    let h = c.block_mut-block.ensures.block in
    block_written c.args.self.now read h _ (branches_are _ _ _ c.remove-node.ensures.packed c.remove-node.ensures.items
    (c.remove.ensures.items ∙ (ap (λ l. remove l c.args.i) (block_read c.args.self.now read h c.requires.branches).counted ∙ sym (map-remove (λ t. length t.slots) (subtrees read.nodes) c.args.i))))

pub returns-clause-count : goal.returns-clause-count
returns-clause-count c =
    let read = c.block_mut-block.result.now in
    let h = c.block_mut-block.ensures.block in
    let inside : c.args.i < length (subtrees read.nodes) = omega (arith, c.requires.in_bounds, ap length (below_read c.args.self.now read h)) in
    c.remove.ensures.value
    ∙ (counted_at read.nodes read.counts.items (block_read c.args.self.now read h c.requires.branches) c.args.i c.remove.result inside
    ∙ sym (ap (λ t. length t.slots) (box_at read.nodes c.args.i c.remove-node.result unused inside c.remove-node.ensures.value)))
