use Rattle.std.proofs.Common.{rules}
use Rattle.iddqd_ord.proofs.CompactLemmas.{moved_paired}
use Rattle.iddqd_ord.proofs.id_ord_map.compact.move_last.Goals as goal

pub returns-in-Some-clause-paired : goal.returns-in-Some-clause-paired
returns-in-Some-clause-paired g c =
    let known = moved_paired c.args.store.now c.last_into_hole.new.self c.args.index.now.slots in
    search (rules, known, c.requires.paired, c.requires.cut, c.slots.ensures.slots, c.place_of-place.ensures, c.in-Some.ensures.moves, c.last_into_hole.ensures.len)

pub overflow_sub-slots : goal.overflow_sub-slots
overflow_sub-slots g c = search rules

pub rename-requires-clause-absent : goal.rename-requires-clause-absent
rename-requires-clause-absent g c = search rules
