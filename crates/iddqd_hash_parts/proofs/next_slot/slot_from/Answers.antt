use Rattle.std.proofs.Common.{◌≡◌, ℕ, Option, Some, None, is_some, length, sym, ap, refl, ◌∙◌, arith, ⊎_elim, true≢false}
use Rattle.std.proofs.lemmas.Bool.{cases_lt}
use Rattle.std.proofs.lemmas.List.{get_or_past}
use Rattle.iddqd_store.specs.Store.{Store, item_at, IsFirstOccupied}
use Rattle.iddqd_hash_parts.specs.SlotOrder.{IsNext, slots_below}
use Rattle.iddqd_hash_parts.specs.StoreAndIndex.{slots_in}
use Rattle.iddqd_hash_parts.proofs.RisingLemmas.{below_behind, first_from, none_from}
use Rattle.iddqd_hash_parts.proofs.SlotItemLemmas.{slots_apart}
use Rattle.iddqd_hash_parts.proofs.next_slot.slot_from.Goals as goal

next_of : {T : Type 0} (store : Store T) (from slot : ℕ) → IsFirstOccupied store from slot → IsNext (slots_in store) from slot
next_of {T} store from slot first = by (item_at store slot) refl
  where
    by : (item : Option T) → item_at store slot ≡ item → IsNext (slots_in store) from slot
    by None is = absurd (true≢false (sym first.occupied ∙ ap is_some is))
    by (Some x) is = first_from (λ s. s) (λ s t h. h) store.slots from slot x is first.behind (λ j below above. first.skips j above below)

-- if no slot from the number on had an item, none would come
pub occupied_from-requires : goal.occupied_from-requires
occupied_from-requires g c = λ vacant.
    let store = c.args.store.now in
    let comes = c.requires in
    let below = below_behind (λ s. s) (λ s t h. h) store.slots comes.0 (omega (arith, comes.2)) in
    let all = none_from (λ s. s) store.slots c.args.from (λ j above. ⊎_elim
    (λ l. vacant j above l)
    (λ l. get_or_past store.slots j None l)
    (cases_lt j (length store.slots))) in
    omega (arith, comes.2, ap (λ n. slots_below n (slots_in store)) comes.1, below, all)

pub returns-clause-found : goal.returns-clause-found
returns-clause-found g c =
    let store = c.args.store.now in
    record {
      there = next_of store c.args.from c.occupied_from.result c.occupied_from.ensures.slot;
      rises = below_behind (λ s. s) (λ s t h. h) store.slots;
      own = slots_apart store.slots;
    }
