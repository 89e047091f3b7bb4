-- Where a query stands among keys that ascend (`Comparable` of the Rust crate, and std's `binary_search`).
use Rattle.std.specs.declared.cmp.Ordering.{Ordering}
use Rattle.std.specs.declared.cmp.Ordering.TheVariants.{Less, Equal, Greater}
use Rattle.std.specs.Prelude.{◌≡◌, ℕ, Bool, ◌<◌, ◌≤◌, List, length, slice_get, Option, Some, Result, Ok, Err, MatchResult}
use Rattle.std.specs.Option.{option_and_then}
use Rattle.std.specs.List.{AllWithin, HoldsAt}
use Rattle.std.specs.Ordering.{is_lt}
use Rattle.iddqd_store.specs.Contents.{find_item}
use Rattle.iddqd_store.specs.Store.{Store, item_at}
use Rattle.iddqd_ord_index.specs.Listed.{listed_items, listed_keys}

-- `Ok`: the place of the key that the query is equal to. `Err`: the place where it belongs, above each key before it and below each key from there on
abbrev pub IsPlaceAmong : {K : Type 0} → (K → Ordering) → List K → Result ℕ ℕ → Type 0
IsPlaceAmong compare ks place = MatchResult place
    (λ i. (i < length ks) × HoldsAt (λ k. compare k ≡ Equal) ks i)
    (λ i. (i ≤ length ks) × AllWithin (λ k. compare k ≡ Greater) ks 0 i × AllWithin (λ k. compare k ≡ Less) ks i (length ks))

-- a place of the list, or the one behind it where nothing was found
abbrev pub IsPlaceIn : List ℕ → Result ℕ ℕ → Type 0
IsPlaceIn slots place = MatchResult place (λ i. i < length slots) (λ i. i ≤ length slots)

-- the position that a search returns, found or not
abbrev pub position_of : Result ℕ ℕ → ℕ
position_of (Ok i) = i
position_of (Err i) = i

-- the place alone, of a search that returns the slot as well
abbrev pub place_of : Result (ℕ × ℕ) ℕ → Result ℕ ℕ
place_of (Ok found) = Ok found.0
place_of (Err place) = Err place

-- a place of the list and the slot there
abbrev pub HasSlotAt : List ℕ → ℕ × ℕ → Type 0
HasSlotAt slots found = slice_get slots found.0 ≡ Some found.1

-- the place of the slot whose item has the query's key, or the one where it belongs
abbrev pub FindsPlace : {T K : Type 0} → (T → K) → (K → Ordering) → Store T → List ℕ → Result ℕ ℕ → Type 0
FindsPlace key compare store slots place = IsPlaceAmong compare (listed_keys key store slots) place

-- the same, of a search that returns the slot as well
abbrev pub FindsPlaced : {T K : Type 0} → (T → K) → (K → Ordering) → Store T → List ℕ → Result (ℕ × ℕ) ℕ → Type 0
FindsPlaced key compare store slots found = FindsPlace key compare store slots (place_of found)

-- the slot of the item whose key passes the test, of those at the slots
abbrev pub FindsSlot : {T K : Type 0} → (T → K) → (K → Bool) → Store T → List ℕ → Option ℕ → Type 0
FindsSlot key test store slots slot = option_and_then (item_at store) slot ≡ find_item key test (listed_items store slots)

-- the slot of the least key that is greater than the query
abbrev pub FindsNext : {T K : Type 0} → (T → K) → (K → Ordering) → Store T → List ℕ → Option ℕ → Type 0
FindsNext key compare store slots slot = FindsSlot key (λ k. is_lt (compare k)) store slots slot
