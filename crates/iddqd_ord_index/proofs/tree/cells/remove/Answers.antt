use Rattle.std.proofs.Common.{remove, arith, ◌∙◌, sym}
use Rattle.std.proofs.lemmas.Grind.{common_steps}
use Rattle.std.proofs.lemmas.List.Edits.{length-remove}
use Rattle.iddqd_ord_index.specs.Cells.{items_present}
use Rattle.iddqd_ord_index.proofs.PackedLemmas.{removed, packed_is, held_is, held_cell}
use Rattle.iddqd_ord_index.proofs.tree.cells.remove.Goals as goal

pub unreachable-requires : goal.unreachable-requires
unreachable-requires g c =
    held_cell c.args.cells.now c.args.i _ c.requires.packed c.requires.in_bounds c.index-cells-i.is (sym c.take-item.ensures.value ∙ c.in-None.is)

pub returns-clause-packed : goal.returns-clause-packed
returns-clause-packed g c =
    let e = removed c.args.cells.now _ _ c.args.i c.requires.packed c.requires.in_bounds c.take-item.ensures.after c.rotate_out.ensures in
    let n = length-remove (items_present c.args.cells.now) c.args.i c.requires.in_bounds in
    packed_is _ (remove (items_present c.args.cells.now) c.args.i) e (omega (arith, c.requires.packed.fits))

pub returns-clause-items : goal.returns-clause-items
returns-clause-items g c =
    held_is _ _ (removed c.args.cells.now _ _ c.args.i c.requires.packed c.requires.in_bounds c.take-item.ensures.after c.rotate_out.ensures)

pub rotate_out-requires : goal.rotate_out-requires
rotate_out-requires g c = grind (arith, common_steps)

pub offset_bounds-cells-i : goal.offset_bounds-cells-i
offset_bounds-cells-i g c = grind (arith, common_steps)

pub bounds-cells-i : goal.bounds-cells-i
bounds-cells-i g c = grind (arith, common_steps)

pub returns-clause-value : goal.returns-clause-value
returns-clause-value g c = grind (arith, common_steps)
