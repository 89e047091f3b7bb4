use Rattle.std.proofs.Common.{◌≡◌, ◌+◌, length, count_by, is_some, is_none, arith}
use Rattle.std.proofs.lemmas.List.{length-map}
use Rattle.iddqd_store.specs.Slots.{item_of, items_of}
use Rattle.iddqd_store.proofs.SlotLemmas.{both_counts}
use Rattle.iddqd_store.proofs.item_store.ItemStore.shrink_to.Goals as goal

pub returns-clause-frees : goal.returns-clause-frees
returns-clause-frees g c none least =
    let es = c.self.inside.slots.items in
    let parts : count_by is_some (items_of es) + count_by is_none (items_of es) ≡ length es = omega (arith, both_counts (items_of es), length-map es item_of) in
    let no_items : count_by is_some (items_of es) ≡ 0 = rw (← c.self.view_is) at none in
    let no_vacant : count_by is_none (items_of es) ≡ 0 = rw (← c.self.view_is) at c.requires in
    c.shrink_to.ensures.frees (omega (arith, parts, no_items, no_vacant)) least

pub returns-clause-needed : goal.returns-clause-needed
returns-clause-needed g c = tt
