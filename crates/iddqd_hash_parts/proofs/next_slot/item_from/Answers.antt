use Rattle.std.proofs.Common.{◌≡◌, ◌∙◌, ℕ, Bor, IfNone, IfSome, Option, None, Some, length, ⊎_elim}
use Rattle.std.proofs.lemmas.Bool.{cases_lt}
use Rattle.std.proofs.lemmas.List.{get_or_past}
use Rattle.iddqd_store.specs.Store.{Store, item_at, AreVacant, IsFirstOccupied}
use Rattle.iddqd_store.specs.SlotItems.{item_of_slot}
use Rattle.iddqd_hash_parts.specs.SlotOrder.{AreBelow, IsNext}
use Rattle.iddqd_hash_parts.specs.StoreAndIndex.{items_in, slots_in}
use Rattle.iddqd_hash_parts.proofs.GetMutLemmas.{item_in_slot}
use Rattle.iddqd_hash_parts.proofs.RisingLemmas.{below_behind, first_from, none_from}
use Rattle.iddqd_hash_parts.proofs.SlotItemLemmas.{slots_apart}
use Rattle.iddqd_hash_parts.proofs.next_slot.item_from.Goals as goal

module _ {T : Type 0} (store : Store T) (from : ℕ) where
  next_of : (found : Option (ℕ × Bor T)) → IfSome found (λ f. IsFirstOccupied store from f.0) → IfSome found (λ f. item_at store f.0 ≡ Some f.1.now) → IfSome found (λ f. IsNext (slots_in store) from f.0)
  next_of None first there = tt
  next_of (Some f) first there = first_from (λ s. s) (λ s t h. h) store.slots from f.0 _ there first.behind (λ j below above. first.skips j above below)

  item_of : (found : Option (ℕ × Bor T)) → IfSome found (λ f. item_at store f.0 ≡ Some f.1.now) → IfSome found (λ f. item_of_slot (slots_in store) (items_in store) f.0 ≡ Some f.1.now)
  item_of None there = tt
  item_of (Some f) there = item_in_slot store.slots f.0 ∙ there

  none_of : (found : Option (ℕ × Bor T)) → IfNone found (AreVacant store from (length store.slots)) → IfNone found (AreBelow (slots_in store) from)
  none_of (Some f) vacant = tt
  none_of None vacant = none_from (λ s. s) store.slots from (λ j above. ⊎_elim
      (λ l. vacant j above l)
      (λ l. get_or_past store.slots j None l)
      (cases_lt j (length store.slots)))

pub returns-clause-found : goal.returns-clause-found
returns-clause-found g c =
    let store = c.args.store.now in
    let next = c.next_occupied.ensures in
    record {
      there = next_of store c.args.from c.next_occupied.result next.slot next.item;
      item = item_of store c.args.from c.next_occupied.result next.item;
      none = none_of store c.args.from c.next_occupied.result next.none;
      rises = below_behind (λ s. s) (λ s t h. h) store.slots;
      own = slots_apart store.slots;
    }
