use Rattle.std.proofs.Common.{◌<◌, length, None, arith}
use Rattle.std.proofs.lemmas.List.{get_or_past, length-map}
use Rattle.iddqd_store.specs.Slots.{item_of, items_of}
use Rattle.iddqd_store.proofs.SlotLemmas.{both_counts, full_is, none_vacant, some_vacant, first_is_vacant, vacant_no_item, vacant_within}
use Rattle.iddqd_store.proofs.item_store.ItemStore.next_slot.Goals as goal
use Rattle.iddqd_store.proofs.item_store.ItemStore.next_slot.Goals.{else-next-capacity-via-then-next-capacity+else-next-self, else-next-capacity-via-else-next-capacity}

pub returns-then-self-clause-slot : goal.returns-then-self-clause-slot
returns-then-self-clause-slot g c =
    let es = c.self.inside.slots.items in
    let first = c.self.inside.first_vacant in
    let vacant = first_is_vacant es first c.self.invariant.chained c.if-self.true in
    let nothing = vacant_no_item es first vacant in
    let l = length-map es item_of in
    let within : first < length (items_of es) = omega (arith, vacant_within es first vacant) in
    let some = some_vacant (items_of es) first within nothing in
    let both = both_counts (items_of es) in
    rw (← c.self.view_is) (record {
      free = nothing;
      reuses = λ _. within;
      next = λ none. absurd (omega arith);
      room = (omega (arith, c.self.inside.slots.ok), omega (arith, c.self.invariant.within));
    })

pub returns-then-self-clause-number : goal.returns-then-self-clause-number
returns-then-self-clause-number g c =
    let es = c.self.inside.slots.items in
    let first = c.self.inside.first_vacant in
    let vacant = first_is_vacant es first c.self.invariant.chained c.if-self.true in
    let l = length-map es item_of in
    let some = some_vacant (items_of es) first (omega (arith, vacant_within es first vacant)) (vacant_no_item es first vacant) in
    rw (← c.self.view_is) (omega (arith, both_counts (items_of es), c.self.invariant.within, c.self.invariant.fits))

pub returns-then-next-self-clause-slot : goal.returns-then-next-self-clause-slot
returns-then-next-self-clause-slot g c =
    let es = c.self.inside.slots.items in
    let full = full_is _ _ _ _ c.self.invariant (omega (arith, c.if-self.false)) in
    let none = none_vacant _ _ _ _ c.self.invariant (omega (arith, c.if-self.false)) in
    let l = length-map es item_of in
    rw (← c.self.view_is) (record {
      free = get_or_past (items_of es) c.len-next.result None (omega (arith, c.len-next.ensures));
      reuses = λ some. absurd (omega arith);
      next = λ _. omega (arith, c.len-next.ensures);
      room = (omega (arith, c.self.invariant.counted, c.len-next.ensures), omega (arith, c.self.invariant.counted, c.len-next.ensures));
    })

pub returns-clause-none : goal.returns-clause-none
returns-clause-none g c room =
    let full = full_is _ _ _ _ c.self.invariant (omega (arith, c.if-self.false)) in
    let r = rw (← c.self.view_is) at room in
    elim c.else-next-capacity.branch [
      | else-next-capacity-via-then-next-capacity+else-next-self w ↦ omega (arith, w.if-next-self.false, r.1, c.self.invariant.counted, c.len-next.ensures)
      | else-next-capacity-via-else-next-capacity w ↦ omega (arith, w.if-next-capacity.false, r.0, c.self.invariant.counted, c.len-next.ensures)
    ]
