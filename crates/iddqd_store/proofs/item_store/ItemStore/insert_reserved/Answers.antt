use Rattle.std.proofs.Common.{◌≡◌, ◌<◌, length, set, Some, refl, sym, ap, ◌∙◌, arith, rules}
use Rattle.std.proofs.lemmas.Grind.{common_steps}
use Rattle.std.proofs.lemmas.List.{with_items_is, length-map, length-set}
use Rattle.iddqd_store.specs.Slots.{item_of, items_of}
use Rattle.iddqd_store.proofs.SlotLemmas.{full_is, none_vacant, some_vacant, IsSound-push, IsSound-fill, first_is_vacant, vacant_no_item, vacant_within, count-filled, vacant-filled, vacant-pushed, Updates-set}
use Rattle.iddqd_store.proofs.item_store.ItemStore.insert_reserved.Goals as goal

pub push_reserved-requires : goal.push_reserved-requires
push_reserved-requires g c =
    let room = rw (← c.self.view_is) at c.requires in
    omega (arith, full_is _ _ _ _ c.self.invariant c.if-slot.true, c.self.invariant.counted, room.0)

pub invariant_of-self : goal.invariant_of-self
invariant_of-self g c =
    let room = rw (← c.self.view_is) at c.requires in
    rw c.push_reserved.ensures.items (IsSound-push _ _ _ _ c.args.item c.self.invariant c.if-slot.true (omega (arith, c.self.invariant.counted, room.1)))

pub returns-then-slot-clause-reuses : goal.returns-then-slot-clause-reuses
returns-then-slot-clause-reuses g c =
    rw (← c.self.view_is) (λ some. absurd (omega (arith, some, none_vacant _ _ _ _ c.self.invariant c.if-slot.true)))

pub returns-then-slot-clause-vacant : goal.returns-then-slot-clause-vacant
returns-then-slot-clause-vacant g c =
    let es = c.self.inside.slots.items in
    rw (← c.self.view_is, c.push_reserved.ensures.items) (omega (arith, none_vacant _ _ _ _ c.self.invariant c.if-slot.true, vacant-pushed es c.args.item))

pub invariant_of-self-2 : goal.invariant_of-self-2
invariant_of-self-2 g c =
    let es = c.self.inside.slots.items in
    let ws = c.fill_first-self-inside.new.slots in
    let first = c.self.inside.first_vacant in
    let vacant = first_is_vacant es first c.self.invariant.chained c.if-slot.false in
    let items = c.fill_first-self-inside.ensures.items ∙ ap (λ xs. set (items_of xs) first (Some c.args.item)) c.as_mut_slice.ensures.value in
    let same : length ws ≡ c.self.inside.slots.len = omega (arith, sym (length-map ws item_of) ∙ ap length items ∙ length-set (items_of es) first (Some c.args.item) ∙ length-map es item_of) in
    rw (with_items_is c.self.inside.slots ws same)
    (IsSound-fill es ws _ first _ first _ c.args.item c.self.invariant (vacant_within es first vacant) (vacant_no_item es first vacant) items c.fill_first-self-inside.ensures.chained)

pub returns : goal.returns
returns g c =
    let es = c.self.inside.slots.items in
    let ws = c.fill_first-self-inside.new.slots in
    let first = c.self.inside.first_vacant in
    let item = c.args.item in
    let vacant = first_is_vacant es first c.self.invariant.chained c.if-slot.false in
    let nothing = vacant_no_item es first vacant in
    let within : first < length (items_of es) = omega (arith, vacant_within es first vacant, length-map es item_of) in
    let items = c.fill_first-self-inside.ensures.items ∙ ap (λ xs. set (items_of xs) first (Some item)) c.as_mut_slice.ensures.value in
    let same : length ws ≡ c.self.inside.slots.len = omega (arith, sym (length-map ws item_of) ∙ ap length items ∙ length-set (items_of es) first (Some item) ∙ length-map es item_of) in
    rw (← c.self.view_is, with_items_is c.self.inside.slots ws same)
    (record {
      was_vacant = nothing;
      updates = Updates-set _ _ first (Some item) within items;
      reuses = λ _. within;
      next = λ none. absurd (omega (arith, some_vacant (items_of es) first within nothing));
      len = rw items (count-filled (items_of es) first item within nothing);
      vacant = rw items (omega (arith, vacant-filled (items_of es) first item within nothing));
      capacity = refl;
      limit = refl;
    })

pub overflow_add-self : goal.overflow_add-self
overflow_add-self g c = search rules

pub overflow_cast-next : goal.overflow_cast-next
overflow_cast-next g c = search rules

pub returns-then-slot-clause-was_vacant : goal.returns-then-slot-clause-was_vacant
returns-then-slot-clause-was_vacant g c = grind (arith, common_steps)

pub returns-then-slot-clause-updates : goal.returns-then-slot-clause-updates
returns-then-slot-clause-updates g c = grind (arith, common_steps)

pub returns-then-slot-clause-next : goal.returns-then-slot-clause-next
returns-then-slot-clause-next g c = grind (arith, common_steps)
