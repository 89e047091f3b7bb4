-- What a hash map shows, as its store and its index change together.
--     search_item      what a search of the index says of the items
--     keyed_under      in a keyed map each item's slot is listed with the hash of the item's key
--     make_keyed      it is keyed where they are so listed, and the keys differ
--     listed_under_query      ... and with that of a query that stands for it
--     spare_held      there is memory for what is there and what is spare
--     spare_fits      what is there and what is spare fit the limit
--     same_spare, unchanged      ... where nothing has changed
--     emptied_keyed, emptied_spare      ... where no item is left
--     keeps_spare      the room of a map whose numbers say so
--     map_kept, map_inserted      what an insertion leaves, refused or not
--     stays_on      what stays in two calls, one after the other
--     taken_items, taken_keyed, taken_spare      what a removal leaves
use Rattle.std.proofs.Common.{◌≡◌, ℕ, ◌+◌, ◌-◌, ◌<◌, ◌≤◌, min, Bool, true, false, List, [], length, get_or, Option, Some, None, IfSome, IfNone, IsSomeAnd, is_some, refl, sym, ap, ◌∙◌, arith, subst, count_by}
use Rattle.std.specs.Cmp.{IsEquivalence}
use Rattle.std.specs.Hash.{HashWrites}
use Rattle.std.specs.List.{Contains, IsDistinct}
use Rattle.std.specs.Option.{option_and_then}
use Rattle.iddqd_store.specs.Contents.{AddsItem, IsAbsent, IsKeyTest, NoTwoAkin, find_item, items_without}
use Rattle.iddqd_hash_index.specs.HashPairs.{HashPairs, HasOneMore, IsMatch, SamePairs}
use Rattle.iddqd_store.specs.Store.{Store, item_at, store_len, vacant, Updates}
use Rattle.iddqd_hash_parts.specs.HashItems.{HashItems, KeyedItems}
use Rattle.iddqd_hash_parts.specs.HashChanges.{HashInserts, HashKeeps, HashStays, KeepsSpare, SpareFits}
use Rattle.iddqd_hash_parts.specs.StoreAndIndex.{AreListedUnder, PairsOccupied, hash_of_slot, items_in, map_of, slots_in, spare_in}
use Rattle.iddqd_hash_parts.proofs.FoundLemmas.{differ_added, differ_taken, item_absent, item_found, item_taken}
use Rattle.iddqd_hash_parts.proofs.PairLemmas.{listed_hash}
use Rattle.iddqd_hash_parts.proofs.StoreAndIndexLemmas.{hashes_agree, listed_under, occupied_listed, under_added, under_removed, under_same}
use Rattle.iddqd_hash_parts.proofs.SlotItemLemmas.{item_added, length-items, slots_apart}

-- what a search of the index says of the items
module _ {T K : Type 0} (key : T → K) {eq : K → K → Bool} (equivalence : IsEquivalence eq) (test : K → Bool) (tests : IsKeyTest eq test) (store : Store T) (pairs : List (ℕ × ℕ)) (hash : ℕ) (paired : PairsOccupied store pairs) (differ : NoTwoAkin key eq (items_in store)) (under : (slot : ℕ) (x : T) → item_at store slot ≡ Some x → test (key x) ≡ true → hash_of_slot pairs slot ≡ hash) where
  pub search_item : (found : Option ℕ) → IfSome found (IsMatch store pairs hash (λ x. test (key x))) → IfNone found ((slot : ℕ) → ¬ IsMatch store pairs hash (λ x. test (key x)) slot) → option_and_then (item_at store) found ≡ find_item key test (items_in store)
  search_item (Some slot) found absent = by (item_at store slot) refl found.1
    where
      by : (o : Option T) → item_at store slot ≡ o → IsSomeAnd o (λ x. test (key x) ≡ true) → item_at store slot ≡ find_item key test (items_in store)
      by (Some x) e passes = e ∙ sym (item_found key equivalence test tests store.slots store.slots differ slot x e passes (λ _ _. refl))
      by None e passes = absurd passes
  search_item None found absent = sym (item_absent key test store.slots (λ slot x there. by slot x there (test (key x)) refl))
    where
      by : (slot : ℕ) (x : T) → item_at store slot ≡ Some x → (b : Bool) → test (key x) ≡ b → test (key x) ≡ false
      by slot x there false e = e
      by slot x there true e =
          let listed = listed_hash pairs slot (occupied_listed store pairs paired slot (ap is_some there)) in
          absurd (absent slot (subst (λ h. Contains pairs (h, slot)) (under slot x there e) listed, subst (λ o. IsSomeAnd o (λ y. test (key y) ≡ true)) (sym there) e))

-- the least of three numbers, each of which keeps what is there
keeps_least : (a b c n a' b' c' n' : ℕ) → n ≤ b → n ≤ c → n' ≤ b' → n' ≤ c' → a + n ≤ a' + n' → b ≤ b' → c' ≡ c → (min a (min (b - n) (c - n)) + n ≤ min a' (min (b' - n') (c' - n')) + n') × (min a' (min (b' - n') (c' - n')) + n' ≤ c')
keeps_least a b c n a' b' c' n' h i j k l m e = (omega arith, omega arith)

least_held : (a b c n : ℕ) → n ≤ b → min a (min (b - n) (c - n)) + n ≤ b
least_held a b c n h = omega arith

module _ {S T : Type 0} (hasher : S) where
  -- where nothing changes the spare is kept
  pub same_spare : (store : Store T) (index : HashPairs) → PairsOccupied store index.pairs → KeepsSpare (map_of store index hasher) (map_of store index hasher)
  same_spare store index paired =
      let room = keeps_least index.spare store.capacity store.limit (store_len store) index.spare store.capacity store.limit (store_len store) paired.in_memory paired.in_limit paired.in_memory paired.in_limit (omega arith) (omega arith) refl in
      record { never_less = omega arith; spare_fits = omega (arith, room.1, length-items store.slots) }

  -- what is there and what is spare fit the limit
  pub spare_fits : (store : Store T) (index : HashPairs) → PairsOccupied store index.pairs → SpareFits (map_of store index hasher)
  spare_fits store index paired = (same_spare store index paired).spare_fits

  -- there is memory for what is there and what is spare
  pub spare_held : (store : Store T) (index : HashPairs) → PairsOccupied store index.pairs → spare_in store index + length (items_in store) ≤ store.capacity
  spare_held store index paired = omega (arith, least_held index.spare store.capacity store.limit (store_len store) paired.in_memory, length-items store.slots)

module _ {S T K : Type 0} (key : T → K) (eq : K → K → Bool) (input : K → HashWrites) (hash : S → HashWrites → ℕ) (hasher : S) where
  abbrev tell : T → ℕ
  tell x = hash hasher (input (key x))

  pub keyed_under : (store : Store T) (index : HashPairs) → KeyedItems key eq input hash (map_of store index hasher) → AreListedUnder tell store index.pairs
  keyed_under store index keyed = listed_under tell store index.pairs keyed.stored

  -- a query that hashes as the keys that it stands for has the hash under which their slots are listed
  pub listed_under_query : (store : Store T) (index : HashPairs) → KeyedItems key eq input hash (map_of store index hasher) → (test : K → Bool) (h : ℕ) → ((k : K) → test k ≡ true → hash hasher (input k) ≡ h) → (slot : ℕ) (x : T) → item_at store slot ≡ Some x → test (key x) ≡ true → hash_of_slot index.pairs slot ≡ h
  listed_under_query store index keyed test h hashes slot x there passes = keyed_under store index keyed slot x there ∙ hashes (key x) passes

  pub make_keyed : (store : Store T) (index : HashPairs) → NoTwoAkin key eq (items_in store) → AreListedUnder tell store index.pairs → KeyedItems key eq input hash (map_of store index hasher)
  make_keyed store index differ under = record { differ = differ; stored = hashes_agree tell store index.pairs under }

  pub emptied_keyed : (store : Store T) (index : HashPairs) → store.slots ≡ [] → KeyedItems key eq input hash (map_of store index hasher)
  unfolding IsDistinct
  emptied_keyed store index none =
      make_keyed store index (subst (λ slots. NoTwoAkin key eq (items_in (record store { slots = slots }))) (sym none) tt) (λ slot x there. (let empty = ap (λ slots. get_or slots slot None) none in cc))

  -- the room of two maps
  module _ (old new : Store T) (p q : HashPairs) (was : PairsOccupied old p.pairs) (is : PairsOccupied new q.pairs) where
    pub keeps_spare : p.spare + store_len old ≤ q.spare + store_len new → old.capacity ≤ new.capacity → new.limit ≡ old.limit → KeepsSpare (map_of old p hasher) (map_of new q hasher)
    keeps_spare listed capacity limit =
        let room = keeps_least p.spare old.capacity old.limit (store_len old) q.spare new.capacity new.limit (store_len new) was.in_memory was.in_limit is.in_memory is.in_limit listed capacity limit in
        let before = length-items old.slots in
        let after = length-items new.slots in
        record { never_less = omega (arith, room.0, before, after); spare_fits = omega (arith, room.1, after) }

    -- nothing has changed but the room
    pub map_kept : KeyedItems key eq input hash (map_of old p hasher) → new ≡ record old { capacity = new.capacity } → old.capacity ≤ new.capacity → SamePairs p.pairs q.pairs → p.spare ≤ q.spare → HashKeeps (KeyedItems key eq input hash) (map_of old p hasher) (map_of new q hasher)
    map_kept keyed rest capacity same spare =
        let slots = ap (λ s. s.slots) rest in
        let limit = ap (λ s. s.limit) rest in
        let len : store_len new ≡ store_len old = ap (λ xs. count_by is_some xs) slots in
        record {
          keeps = record { items = ap (λ s. items_in s) rest; slots = ap (λ s. slots_in s) rest; vacant = ap (λ s. vacant s) rest; capacity = capacity; limit = limit };
          stays = record {
            keyed = make_keyed new q (subst (λ s. NoTwoAkin key eq (items_in s)) (sym rest) keyed.differ) (under_same tell old new p.pairs q.pairs (keyed_under old p keyed) slots same);
            spare = keeps_spare (omega (arith, spare, len)) capacity limit;
            hasher = refl;
          };
        }

    pub emptied_spare : p.spare + length p.pairs ≤ q.spare → new.slots ≡ [] → old.capacity ≤ new.capacity → new.limit ≡ old.limit → KeepsSpare (map_of old p hasher) (map_of new q hasher)
    emptied_spare spare none capacity limit =
        keeps_spare (omega (arith, spare, was.counted, ap (λ xs. count_by is_some xs) none)) capacity limit

    -- a new item is there
    pub map_inserted : IsEquivalence eq → KeyedItems key eq input hash (map_of old p hasher) → (x : T) (slot : ℕ) → IsAbsent key (eq (key x)) (items_in old) → length (items_in old) < old.limit → HasOneMore p.pairs q.pairs (tell x, slot) → item_at old slot ≡ None → Updates old new slot (Some x) → p.spare ≤ q.spare + 1 → store_len new ≡ store_len old + 1 → vacant new ≡ vacant old - 1 → new.capacity ≡ old.capacity → new.limit ≡ old.limit → HashInserts (KeyedItems key eq input hash) x (map_of old p hasher) (map_of new q hasher)
    map_inserted equivalence keyed x slot absent room more none updates spare len gone capacity limit =
        let adds = item_added old.slots new.slots slot x none updates.changed updates.others in
        record {
          inserts = record { room = room; added = adds; slots = slots_apart new.slots; vacant = gone; capacity = omega (arith, capacity); limit = limit };
          stays = record {
            keyed = make_keyed new q (differ_added key equivalence x (items_in old) (items_in new) adds absent keyed.differ) (under_added tell old new p.pairs q.pairs (keyed_under old p keyed) (tell x) slot x was more none updates refl);
            spare = keeps_spare (omega (arith, spare, len)) (omega (arith, capacity)) limit;
            hasher = refl;
          };
        }

    -- what a query stands for
    module _ (equivalence : IsEquivalence eq) (test : K → Bool) (tests : IsKeyTest eq test) (keyed : KeyedItems key eq input hash (map_of old p hasher)) (slot : ℕ) (x : T) (there : item_at old slot ≡ Some x) (passes : test (key x) ≡ true) where
      pub taken_items : Updates old new slot None → items_in new ≡ items_without key test (items_in old)
      taken_items updates = item_taken key equivalence test tests old.slots new.slots keyed.differ slot x there passes updates.others updates.changed

      pub taken_keyed : (h : ℕ) → HasOneMore q.pairs p.pairs (h, slot) → Updates old new slot None → KeyedItems key eq input hash (map_of new q hasher)
      taken_keyed h more updates =
          make_keyed new q (differ_taken key equivalence test tests old.slots new.slots keyed.differ slot x there passes updates.others updates.changed) (under_removed tell old new p.pairs q.pairs (keyed_under old p keyed) h slot more updates)

      pub taken_spare : p.spare + 1 ≤ q.spare → store_len new + 1 ≡ store_len old → new.capacity ≡ old.capacity → new.limit ≡ old.limit → KeepsSpare (map_of old p hasher) (map_of new q hasher)
      taken_spare spare len capacity limit = keeps_spare (omega (arith, spare, len)) (omega (arith, capacity)) limit

-- where nothing changes
pub unchanged : {S T : Type 0} (IsKeyed : HashItems S T → Type 0) (m : HashItems S T) → IsKeyed m → SpareFits m → HashKeeps IsKeyed m m
unchanged IsKeyed m keyed fits = record {
  keeps = record { items = refl; slots = refl; vacant = refl; capacity = omega arith; limit = refl };
  stays = record { keyed = keyed; spare = record { never_less = omega arith; spare_fits = fits }; hasher = refl };
}

-- what stays in two calls, one after the other
pub stays_on : {S T : Type 0} (IsKeyed : HashItems S T → Type 0) (old between new : HashItems S T) → HashStays IsKeyed old between → HashStays IsKeyed between new → HashStays IsKeyed old new
stays_on IsKeyed old between new first then = record {
  keyed = then.keyed;
  spare = record { never_less = omega (arith, then.spare.never_less, first.spare.never_less); spare_fits = then.spare.spare_fits };
  hasher = then.hasher ∙ first.hasher;
}

-- an insertion after a growth
pub inserted_after : {S T K : Type 0} (key : T → K) (eq : K → K → Bool) (input : K → HashWrites) (hash : S → HashWrites → ℕ) (x : T) (old room new : HashItems S T) → HashKeeps (KeyedItems key eq input hash) old room → HashInserts (KeyedItems key eq input hash) x room new → HashInserts (KeyedItems key eq input hash) x old new
inserted_after key eq input hash x old room new kept inserted =
    let same = kept.keeps.items in
    record {
      inserts = record {
        room = omega (arith, inserted.inserts.room, ap length same, kept.keeps.limit);
        added = subst (λ items. AddsItem x items new.items) same inserted.inserts.added;
        slots = inserted.inserts.slots;
        vacant = inserted.inserts.vacant ∙ ap (λ n. n - 1) kept.keeps.vacant;
        capacity = omega (arith, inserted.inserts.capacity, kept.keeps.capacity);
        limit = inserted.inserts.limit ∙ kept.keeps.limit;
      };
      stays = stays_on (KeyedItems key eq input hash) old room new kept.stays inserted.stays;
    }
