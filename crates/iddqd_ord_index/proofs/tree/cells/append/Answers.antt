use Rattle.std.proofs.Common.{◌++◌, [], arith, lit≤}
use Rattle.std.proofs.lemmas.Grind.{common_steps}
use Rattle.std.proofs.Common.{length-append}
use Rattle.iddqd_ord_index.specs.Cells.{items_present}
use Rattle.iddqd_ord_index.proofs.PackedLemmas.{joined_lower, joined_upper, packed_is, held_is}
use Rattle.iddqd_ord_index.proofs.tree.cells.append.Goals as goal

pub returns-clause-packed : goal.returns-clause-packed
returns-clause-packed g c =
    let e = joined_lower c.args.cells.now c.args.upper.now _ c.args.len c.args.more c.requires.packed c.requires.upper_packed c.requires.len c.requires.more c.requires.fits c.swap_with_slice.ensures.after in
    let n = length-append (items_present c.args.cells.now) (items_present c.args.upper.now) in
    packed_is _ (items_present c.args.cells.now ++ items_present c.args.upper.now) e (omega arith)

pub returns-clause-items : goal.returns-clause-items
returns-clause-items g c =
    held_is _ _ (joined_lower c.args.cells.now c.args.upper.now _ c.args.len c.args.more c.requires.packed c.requires.upper_packed c.requires.len c.requires.more c.requires.fits c.swap_with_slice.ensures.after)

pub returns-clause-upper_packed : goal.returns-clause-upper_packed
returns-clause-upper_packed g c =
    packed_is _ [] (joined_upper c.args.cells.now c.args.upper.now _ c.args.len c.args.more c.requires.packed c.requires.upper_packed c.requires.len c.requires.more c.requires.fits c.swap_with_slice.ensures.other_after) (lit≤ tt)

pub returns-clause-upper_items : goal.returns-clause-upper_items
returns-clause-upper_items g c =
    held_is _ _ (joined_upper c.args.cells.now c.args.upper.now _ c.args.len c.args.more c.requires.packed c.requires.upper_packed c.requires.len c.requires.more c.requires.fits c.swap_with_slice.ensures.other_after)

pub offset_bounds-cells-len : goal.offset_bounds-cells-len
offset_bounds-cells-len g c = grind (arith, common_steps)

pub slice_bounds-swap_with_slice-end : goal.slice_bounds-swap_with_slice-end
slice_bounds-swap_with_slice-end g c = grind (arith, common_steps)

pub slice_bounds-swap_with_slice-end-2 : goal.slice_bounds-swap_with_slice-end-2
slice_bounds-swap_with_slice-end-2 g c = grind (arith, common_steps)

pub slice_bounds-swap_with_slice-end-3 : goal.slice_bounds-swap_with_slice-end-3
slice_bounds-swap_with_slice-end-3 g c = grind (arith, common_steps)

pub swap_with_slice-requires : goal.swap_with_slice-requires
swap_with_slice-requires g c = grind (arith, common_steps)
