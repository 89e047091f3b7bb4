-- What a removal by key does to the list of an index.
--     RemovesSlot      the slot that the query is equal to has left the list, or there is none
use Rattle.std.specs.Prelude.{◌≡◌, ℕ, remove, slice_get, Option, Some, None, Ok, Err}
use Rattle.std.specs.declared.cmp.Ordering.{Ordering}
use Rattle.iddqd_ord_index.specs.Listed.{SlotList, unprepared}
use Rattle.iddqd_ord_index.specs.Search.{FindsPlace}
use Rattle.iddqd_store.specs.Store.{Store}

-- the slot at the place of the key that the query is equal to has left the list; if there is none, the list is as it was
abbrev pub RemovesSlot : {T K : Type 0} → (T → K) → (K → Ordering) → Store T → SlotList → Option ℕ → SlotList → Type 0
RemovesSlot key compare store old None new =
    ((i : ℕ) × FindsPlace key compare store old.slots (Err i)) × (new ≡ unprepared old.slots)
RemovesSlot key compare store old (Some slot) new =
    (i : ℕ) × FindsPlace key compare store old.slots (Ok i) × (slice_get old.slots i ≡ Some slot) × (new ≡ unprepared (remove old.slots i))
