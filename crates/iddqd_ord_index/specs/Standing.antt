-- How a query stands to slots, by the keys of their items. No public clause cites this module.
use Rattle.std.specs.Prelude.{◌≡◌, ℕ, ◌+◌, ◌<◌, ◌≤◌, List, length, slice_index, Option, Some, None, Result, Ok, Err}
use Rattle.std.specs.declared.cmp.Ordering.{Ordering}
use Rattle.std.specs.declared.cmp.Ordering.TheVariants.{Less, Equal, Greater}
use Rattle.iddqd_store.specs.Store.{Store, item_at}
use Rattle.iddqd_ord_index.specs.Search.{place_of}

-- how the query stands to an item's key; it is asked of slots that have one
abbrev pub standing : {T K : Type 0} → (T → K) → (K → Ordering) → Option T → Ordering
standing key compare None = Equal
standing key compare (Some x) = compare (key x)

abbrev pub slot_standing : {T K : Type 0} → (T → K) → (K → Ordering) → Store T → ℕ → Ordering
slot_standing key compare store slot = standing key compare (item_at store slot)

-- the query is above the slot at a place, or below it
abbrev pub IsGreater : (ℕ → Ordering) → List ℕ → ℕ → Type 0
IsGreater order xs i = order (slice_index xs i) ≡ Greater

abbrev pub IsLess : (ℕ → Ordering) → List ℕ → ℕ → Type 0
IsLess order xs i = order (slice_index xs i) ≡ Less

-- the query is above a part in front and below the rest, but for at most one slot between them that it equals
pub record IsMonotone (order : ℕ → Ordering) (xs : List ℕ) : Type 0 where
  pub above : (j k : ℕ) → j < k → k < length xs → IsGreater order xs k → IsGreater order xs j
  pub below : (j k : ℕ) → j < k → k < length xs → IsLess order xs j → IsLess order xs k

-- `Ok`: the place of the slot that the query equals. `Err`: the place where it belongs
abbrev pub IsPlace : (ℕ → Ordering) → List ℕ → Result ℕ ℕ → Type 0
IsPlace order xs (Ok i) = (i < length xs) × (order (slice_index xs i) ≡ Equal)
IsPlace order xs (Err i) = (i ≤ length xs) × ((k : ℕ) → k < i → order (slice_index xs k) ≡ Greater) × ((k : ℕ) → i ≤ k → k < length xs → order (slice_index xs k) ≡ Less)

-- the slot that the query equals, at some place; nothing where there is none
abbrev pub IsAmong : (ℕ → Ordering) → List ℕ → Option ℕ → Type 0
IsAmong order xs None = (i : ℕ) × IsPlace order xs (Err i)
IsAmong order xs (Some slot) = (i : ℕ) × (slot ≡ slice_index xs i) × IsPlace order xs (Ok i)

-- ys stands in xs from `base` on, the query is above all before it and below all behind it
pub record IsPart (order : ℕ → Ordering) (xs ys : List ℕ) (base : ℕ) : Type 0 where
  pub same : (k : ℕ) → k < length ys → slice_index xs (base + k) ≡ slice_index ys k
  pub fits : base + length ys ≤ length xs
  pub front : (k : ℕ) → k < base → order (slice_index xs k) ≡ Greater
  pub back : (k : ℕ) → base + length ys ≤ k → k < length xs → order (slice_index xs k) ≡ Less

-- the same of a query and the slots of a store
module _ {T K : Type 0} (key : T → K) (compare : K → Ordering) (store : Store T) where
  abbrev pub StandsMonotone : List ℕ → Type 0
  StandsMonotone slots = IsMonotone (slot_standing key compare store) slots

  abbrev pub StandsAt : List ℕ → Result ℕ ℕ → Type 0
  StandsAt slots place = IsPlace (slot_standing key compare store) slots place

  abbrev pub StandsPlaced : List ℕ → Result (ℕ × ℕ) ℕ → Type 0
  StandsPlaced slots found = StandsAt slots (place_of found)

  abbrev pub StandsAmong : List ℕ → Option ℕ → Type 0
  StandsAmong slots slot = IsAmong (slot_standing key compare store) slots slot
