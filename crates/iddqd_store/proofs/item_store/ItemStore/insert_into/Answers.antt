use Rattle.std.proofs.Common.{◌≡◌, length, set, Some, sym, ap, ◌∙◌, arith}
use Rattle.std.proofs.lemmas.Grind.{common_steps}
use Rattle.std.proofs.lemmas.List.{with_items_is, length-map, length-set}
use Rattle.iddqd_store.specs.Slots.{item_of, items_of}
use Rattle.iddqd_store.proofs.SlotLemmas.{full_is, next_at_end, next_is_vacant, next_within, IsSound-push, Updates-set}
use Rattle.iddqd_store.proofs.item_store.ItemStore.insert_into.Goals as goal

pub push_reserved-requires : goal.push_reserved-requires
push_reserved-requires g c =
    let next = rw (← c.self.view_is) at c.requires in
    let end = next_at_end _ _ _ _ c.args.slot c.self.invariant next.reuses (omega (arith, c.len.ensures)) in
    omega (arith, full_is _ _ _ _ c.self.invariant end, c.self.invariant.counted, next.room.0)

pub invariant_of-self : goal.invariant_of-self
invariant_of-self g c =
    let next = rw (← c.self.view_is) at c.requires in
    let end = next_at_end _ _ _ _ c.args.slot c.self.invariant next.reuses (omega (arith, c.len.ensures)) in
    rw c.push_reserved.ensures.items (IsSound-push _ _ _ _ c.args.item c.self.invariant end (omega (arith, c.self.invariant.counted, next.room.1)))

pub fill-self-inside-requires-clause-vacant : goal.fill-self-inside-requires-clause-vacant
fill-self-inside-requires-clause-vacant g c =
    let es = c.self.inside.slots.items in
    let next = rw (← c.self.view_is) at c.requires in
    rw c.as_mut_slice.ensures.value (next_is_vacant es c.args.slot next.free (next_within es c.args.slot next.reuses next.next (λ e. c.if-slot-len.false (omega (arith, c.len.ensures)))))

pub returns-clause-updates : goal.returns-clause-updates
returns-clause-updates g c =
    let es = c.self.inside.slots.items in
    let ws = c.fill-self-inside.new.slots in
    let slot = c.args.slot in
    let item = c.args.item in
    let next = rw (← c.self.view_is) at c.requires in
    let within = next_within es slot next.reuses next.next (λ e. c.if-slot-len.false (omega (arith, c.len.ensures))) in
    let items = c.fill-self-inside.ensures.items ∙ ap (λ xs. set (items_of xs) slot (Some item)) c.as_mut_slice.ensures.value in
    let same : length ws ≡ c.self.inside.slots.len = omega (arith, sym (length-map ws item_of) ∙ ap length items ∙ length-set (items_of es) slot (Some item) ∙ length-map es item_of) in
    rw (← c.self.view_is, with_items_is c.self.inside.slots ws same) (Updates-set _ _ slot (Some item) (omega (arith, within, length-map es item_of)) items)

pub returns-then-slot-len-clause-updates : goal.returns-then-slot-len-clause-updates
returns-then-slot-len-clause-updates g c = grind (arith, common_steps)

pub returns-then-slot-len-clause-len : goal.returns-then-slot-len-clause-len
returns-then-slot-len-clause-len g c = grind (arith, common_steps)

pub returns-then-slot-len-clause-vacant : goal.returns-then-slot-len-clause-vacant
returns-then-slot-len-clause-vacant g c = grind (arith, common_steps)

pub invariant_of-self-2 : goal.invariant_of-self-2
invariant_of-self-2 g c = grind (arith, common_steps)

pub returns-clause-len : goal.returns-clause-len
returns-clause-len g c = grind (arith, common_steps)

pub returns-clause-vacant : goal.returns-clause-vacant
returns-clause-vacant g c = grind (arith, common_steps)
