-- How the index and the store of a hash map belong together, and what they hold as lists.
--     items_in store      the items, in the order of their slots' numbers
--     slots_in store      the slot of each
--     hash_of_slot pairs slot      the hash that is listed with a slot
--     hashes_in store pairs      the hash that is stored for each item, in the items' order
--     spare_in store index      how many new items fit without memory: in the index, in the store, and within the limit
--     room_in store index      how many items fit in all
--     KeepsBounds, GrowsRoom, MovesItems      what the private calls leave
--     RemovesPaired      an item and its pair are removed
--     PairsOccupied      the index lists exactly the occupied slots, and the items fit
--     AreHashed, IsSlotFound, IsOnlySlot      what a search requires, and what it returns
--     AreListedUnder tell store pairs      each item's slot is listed with the hash that is told of the item
--     map_of, empty_map_of      what a contract sees of a map of these
use Rattle.std.specs.Prelude.{◌≡◌, ◌↔◌, ℕ, ◌+◌, ◌-◌, ◌≤◌, ◌==◌, min, Bool, true, IsPermutation, IsSomeAnd, IsTrue, List, [], ◌∷◌, length, Option, Some, None, is_some, if◌then◌else◌}
use Rattle.std.proofs.Common.{suc}
use Rattle.std.specs.List.{sum_by}
use Rattle.std.specs.Option.{option_and_then}
use Rattle.iddqd_hash_index.specs.HashPairs.{HasOneMore, HashPairs, SamePairs, of_slot}
use Rattle.iddqd_store.specs.Contents.{find_item}
use Rattle.iddqd_store.specs.Store.{Store, Updates, item_at, items_present, store_len, vacant}
use Rattle.iddqd_hash_parts.specs.HashItems.{HashItems}

-- each slot is listed once, so the sum is its one hash
abbrev pub hash_of_slot : List (ℕ × ℕ) → ℕ → ℕ
hash_of_slot pairs slot = sum_by (λ p. if p.1 == slot then p.0 else 0) pairs

module _ {T : Type 0} where
  abbrev pub items_in : Store T → List T
  items_in store = items_present store.slots

  -- a number for each slot that is occupied
  abbrev pub numbers_of : (ℕ → ℕ) → List (Option T) → List ℕ
  numbers_of number [] = []
  numbers_of number (Some x ∷ slots) = number 0 ∷ numbers_of (λ slot. number (suc slot)) slots
  numbers_of number (None ∷ slots) = numbers_of (λ slot. number (suc slot)) slots

  abbrev pub slots_in : Store T → List ℕ
  slots_in store = numbers_of (λ slot. slot) store.slots

  abbrev pub hashes_in : Store T → List (ℕ × ℕ) → List ℕ
  hashes_in store pairs = numbers_of (hash_of_slot pairs) store.slots

  abbrev pub spare_in : Store T → HashPairs → ℕ
  spare_in store index = min index.spare (min (store.capacity - store_len store) (store.limit - store_len store))

  abbrev pub map_of : {S : Type 0} → Store T → HashPairs → S → HashItems S T
  map_of store index hasher = record {
    items = items_in store;
    slots = slots_in store;
    hashes = hashes_in store index.pairs;
    hasher = hasher;
    spare = spare_in store index;
    vacant = vacant store;
    capacity = store.capacity;
    limit = store.limit;
  }

  -- a map of these, if the store has no slot and the index no pair
  abbrev pub empty_map_of : {S : Type 0} → Store T → HashPairs → S → HashItems S T
  empty_map_of store index hasher = record {
    items = [];
    slots = [];
    hashes = [];
    hasher = hasher;
    spare = min index.spare (min store.capacity store.limit);
    vacant = 0;
    capacity = store.capacity;
    limit = store.limit;
  }

  -- the number of items, and of those that are spare
  abbrev pub room_in : Store T → HashPairs → ℕ
  room_in store index = spare_in store index + store_len store

  -- the capacity and the limit stay
  pub record KeepsBounds (old new : Store T) : Type 0 where
    pub capacity : new.capacity ≡ old.capacity
    pub limit : new.limit ≡ old.limit

  -- store and index have more room, or as much as before, and nothing else has changed
  pub record GrowsRoom (old new : Store T) (index grown : HashPairs) : Type 0 where
    pub store : new ≡ record old { capacity = new.capacity }
    pub capacity : old.capacity ≤ new.capacity
    pub pairs : SamePairs index.pairs grown.pairs
    pub spare : index.spare ≤ grown.spare

  -- a slot is listed once if it is occupied, and else not; the items fit the capacity and the limit
  pub record PairsOccupied (store : Store T) (pairs : List (ℕ × ℕ)) : Type 0 where
    pub each_once : (n : ℕ) → of_slot pairs n ≡ (if is_some (item_at store n) then 1 else 0)
    pub counted : length pairs ≡ store_len store
    pub in_memory : store_len store ≤ store.capacity
    pub in_limit : store_len store ≤ store.limit

  -- the item left its slot, and the index the slot's pair
  pub record RemovesPaired (old new : Store T) (index left : HashPairs) (hash slot : ℕ) (x : T) : Type 0 where
    pub item : item_at old slot ≡ Some x
    pub updates : Updates old new slot None
    pub pairs : HasOneMore left.pairs index.pairs (hash, slot)
    pub len : store_len new + 1 ≡ store_len old
    pub vacant : vacant new ≡ vacant old + 1
    pub paired : PairsOccupied new left.pairs
    pub spare : index.spare + 1 ≤ left.spare
    pub bounds : KeepsBounds old new

  -- items have moved from slot to slot
  pub record MovesItems (old new : Store T) (index moved : HashPairs) : Type 0 where
    pub items : IsPermutation (items_in old) (items_in new)
    pub len : store_len new ≡ store_len old
    pub spare : moved.spare ≡ index.spare
    pub bounds : KeepsBounds old new

  -- each item whose key passes the test is listed with this hash
  abbrev pub AreHashed : {K : Type 0} → (T → K) → (K → Bool) → Store T → List (ℕ × ℕ) → ℕ → Type 0
  AreHashed key test store pairs hash =
      (slot : ℕ) (x : T) → item_at store slot ≡ Some x → IsTrue (test (key x)) → hash_of_slot pairs slot ≡ hash

  -- the slot of the item whose key passes the test, or none
  abbrev pub IsSlotFound : {K : Type 0} → (T → K) → (K → Bool) → Store T → Option ℕ → Type 0
  IsSlotFound key test store slot = option_and_then (item_at store) slot ≡ find_item key test (items_in store)

  -- the one slot whose item's key passes the test, or none if no item's does
  abbrev pub IsOnlySlot : {K : Type 0} → (T → K) → (K → Bool) → Store T → Option ℕ → Type 0
  IsOnlySlot key test store found =
      (slot : ℕ) → (found ≡ Some slot) ↔ IsSomeAnd (item_at store slot) (λ x. test (key x) ≡ true)

  abbrev pub AreListedUnder : (T → ℕ) → Store T → List (ℕ × ℕ) → Type 0
  AreListedUnder tell store pairs = (slot : ℕ) (x : T) → item_at store slot ≡ Some x → hash_of_slot pairs slot ≡ tell x
