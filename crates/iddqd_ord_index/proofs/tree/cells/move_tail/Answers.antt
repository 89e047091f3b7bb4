use Rattle.std.proofs.Common.{take, drop, arith, length-take, length-drop}
use Rattle.std.proofs.lemmas.Grind.{common_steps}
use Rattle.iddqd_ord_index.specs.Cells.{items_present}
use Rattle.iddqd_ord_index.proofs.PackedLemmas.{moved_lower, moved_upper, packed_is, held_is}
use Rattle.iddqd_ord_index.proofs.tree.cells.move_tail.Goals as goal

pub returns-clause-packed : goal.returns-clause-packed
returns-clause-packed g c =
    let e = moved_lower c.args.cells.now c.args.upper.now _ c.args.at c.requires.packed c.requires.upper_packed c.requires.upper_empty c.requires.in_bounds c.swap_with_slice.ensures.after in
    let n = length-take c.args.at (items_present c.args.cells.now) in
    packed_is _ (take c.args.at (items_present c.args.cells.now)) e (omega (arith, c.requires.packed.fits))

pub returns-clause-items : goal.returns-clause-items
returns-clause-items g c =
    held_is _ _ (moved_lower c.args.cells.now c.args.upper.now _ c.args.at c.requires.packed c.requires.upper_packed c.requires.upper_empty c.requires.in_bounds c.swap_with_slice.ensures.after)

pub returns-clause-upper_packed : goal.returns-clause-upper_packed
returns-clause-upper_packed g c =
    let e = moved_upper c.args.cells.now c.args.upper.now _ c.args.at c.requires.packed c.requires.upper_packed c.requires.upper_empty c.requires.in_bounds c.swap_with_slice.ensures.other_after in
    let n = length-drop c.args.at (items_present c.args.cells.now) in
    packed_is _ (drop c.args.at (items_present c.args.cells.now)) e (omega (arith, c.requires.packed.fits))

pub returns-clause-upper_items : goal.returns-clause-upper_items
returns-clause-upper_items g c =
    held_is _ _ (moved_upper c.args.cells.now c.args.upper.now _ c.args.at c.requires.packed c.requires.upper_packed c.requires.upper_empty c.requires.in_bounds c.swap_with_slice.ensures.other_after)

pub swap_with_slice-requires : goal.swap_with_slice-requires
swap_with_slice-requires g c = grind (arith, common_steps)

pub offset_bounds-cells-at : goal.offset_bounds-cells-at
offset_bounds-cells-at g c = grind (arith, common_steps)

pub slice_bounds-swap_with_slice-count : goal.slice_bounds-swap_with_slice-count
slice_bounds-swap_with_slice-count g c = grind (arith, common_steps)

pub slice_bounds-swap_with_slice-start : goal.slice_bounds-swap_with_slice-start
slice_bounds-swap_with_slice-start g c = grind (arith, common_steps)
