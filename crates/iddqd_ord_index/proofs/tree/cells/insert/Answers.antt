use Rattle.std.proofs.Common.{insert, arith}
use Rattle.std.proofs.lemmas.Grind.{common_steps}
use Rattle.std.proofs.lemmas.List.Edits.{length-insert}
use Rattle.iddqd_ord_index.specs.Cells.{items_present}
use Rattle.iddqd_ord_index.proofs.PackedLemmas.{put_in, packed_is, held_is}
use Rattle.iddqd_ord_index.proofs.tree.cells.insert.Goals as goal

pub returns-clause-packed : goal.returns-clause-packed
returns-clause-packed g c =
    let e = put_in _ _ (items_present c.args.cells.now) c.args.i c.args.item c.requires.packed.cells c.requires.room c.requires.in_bounds c.rotate_in.ensures in
    let n = length-insert (items_present c.args.cells.now) c.args.i c.args.item c.requires.in_bounds in
    packed_is _ (insert (items_present c.args.cells.now) c.args.i c.args.item) e (omega arith)

pub returns-clause-items : goal.returns-clause-items
returns-clause-items g c =
    held_is _ _ (put_in _ _ (items_present c.args.cells.now) c.args.i c.args.item c.requires.packed.cells c.requires.room c.requires.in_bounds c.rotate_in.ensures)

pub rotate_in-requires : goal.rotate_in-requires
rotate_in-requires g c = grind (arith, common_steps)

pub offset_bounds-cells : goal.offset_bounds-cells
offset_bounds-cells g c = grind (arith, common_steps)

pub bounds-cells : goal.bounds-cells
bounds-cells g c = grind (arith, common_steps)
