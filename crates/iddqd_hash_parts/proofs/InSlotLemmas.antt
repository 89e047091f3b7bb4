-- What a map shows of one slot: after an insertion into it, after its removal, and of the hash that is stored for its item.
--     added_item, added_written, added_others      where a vacant slot was given an item: the item of that slot, a write to it, and the others
--     place_lost      where a slot was vacated: the items and the slots without its place
--     told_listed, listed_told      the hash that is stored for a slot's item, and under which the slot is listed
--     stored_in_slot      in a keyed map that is the hash of the item's key
--     finds_slot      what a search of one index says of the map
use Rattle.std.proofs.Common.{◌≡◌, ◌↔◌, ℕ, Bool, true, List, get_or, set, Option, Some, None, IfSome, IsSomeAnd, is_some, sym, ap, ◌∙◌, subst, ⊎_elim}
use Rattle.std.proofs.lemmas.Bool.{cases_eq}
use Rattle.std.specs.Hash.{HashWrites}
use Rattle.std.specs.List.{Contains, remove, slice_get}
use Rattle.std.specs.Option.{option_map}
use Rattle.iddqd_store.specs.Contents.{AddsItem}
use Rattle.iddqd_store.specs.SlotItems.{item_of_slot, without_slot, written_to_slot}
use Rattle.iddqd_store.specs.Store.{Store, item_at, IsOccupied, Updates}
use Rattle.iddqd_store.proofs.StoreLemmas.{updates-set}
use Rattle.iddqd_store.proofs.WrittenLemmas.{told_of_slot}
use Rattle.iddqd_hash_index.specs.HashPairs.{HashPairs}
use Rattle.iddqd_hash_parts.specs.HashItems.{FindsSlot, HashItems, KeyedItems}
use Rattle.iddqd_hash_parts.specs.StoreAndIndex.{IsOnlySlot, IsSlotFound, PairsOccupied, hash_of_slot, hashes_in, items_in, map_of, slots_in}
use Rattle.iddqd_hash_parts.proofs.FoundLemmas.{same_numbers}
use Rattle.iddqd_hash_parts.proofs.GetMutLemmas.{item_in_slot, items_lent, others_left, told_in_slot}
use Rattle.iddqd_hash_parts.proofs.PairLemmas.{hash_listed, listed_hash}
use Rattle.iddqd_hash_parts.proofs.RisingLemmas.{slot_removed}
use Rattle.iddqd_hash_parts.proofs.StoreAndIndexLemmas.{listed_occupied, occupied_listed}
use Rattle.iddqd_hash_parts.proofs.SlotItemLemmas.{item_added, same_items}

module _ {T : Type 0} (old new : Store T) (slot : ℕ) (x : T) (vacant : item_at old slot ≡ None) (updates : Updates old new slot (Some x)) where
  occupied : IsOccupied new slot
  occupied = ap is_some updates.changed

  pub added_item : item_of_slot (slots_in new) (items_in new) slot ≡ Some x
  added_item = item_in_slot new.slots slot ∙ updates.changed

  pub added_written : (w : T) → AddsItem w (items_in old) (written_to_slot (slots_in new) (items_in new) slot w)
  added_written w =
      let put = updates-set new slot (Some w) occupied in
      subst (AddsItem w (items_in old)) (items_lent new.slots slot w occupied)
      (item_added old.slots (set new.slots slot (Some w)) slot w vacant put.changed (λ other n. put.others other n ∙ updates.others other n))

  pub added_others : without_slot (slots_in new) (items_in new) slot ≡ items_in old
  added_others =
      let left = updates-set new slot None occupied in
      sym (others_left new.slots slot occupied)
      ∙ same_items (set new.slots slot None) old.slots (λ other. ⊎_elim
      (λ e. ap (item_at (record new { slots = set new.slots slot None })) e ∙ left.changed ∙ sym vacant ∙ ap (item_at old) (sym e))
      (λ n. left.others other n ∙ updates.others other n)
      (cases_eq other slot))

module _ {T : Type 0} (old new : Store T) (slot : ℕ) (x : T) (there : item_at old slot ≡ Some x) (updates : Updates old new slot None) where
  pub place_lost : (place : ℕ) → slice_get (slots_in old) place ≡ Some slot → (items_in new ≡ remove (items_in old) place) × (slots_in new ≡ remove (slots_in old) place)
  place_lost place here =
      let left = updates-set old slot None (ap is_some there) in
      let same : (k : ℕ) → item_at new k ≡ get_or (set old.slots slot None) k None = λ k. ⊎_elim
      (λ e. ap (item_at new) e ∙ updates.changed ∙ sym left.changed ∙ ap (λ n. get_or (set old.slots slot None) n None) (sym e))
      (λ n. updates.others k n ∙ sym (left.others k n))
      (cases_eq k slot) in
      let removed = slot_removed (λ s. s) (λ s t h. h) (λ s. s) old.slots slot place x there here in
      (same_items new.slots (set old.slots slot None) same ∙ removed.1, same_numbers (λ y. y) (λ s. s) new.slots (set old.slots slot None) (λ k. ap is_some (same k)) ∙ removed.0)

module _ {T : Type 0} (store : Store T) (pairs : List (ℕ × ℕ)) (paired : PairsOccupied store pairs) (hash slot : ℕ) where
  pub told_listed : Contains pairs (hash, slot) → item_of_slot (slots_in store) (hashes_in store pairs) slot ≡ Some hash
  told_listed listed =
      let some = listed_occupied store pairs paired hash slot listed in
      told_in_slot (hash_of_slot pairs) store.slots slot some ∙ ap Some (hash_listed pairs hash slot (occupied_listed store pairs paired slot some) listed)

  pub listed_told : IsOccupied store slot → item_of_slot (slots_in store) (hashes_in store pairs) slot ≡ Some hash → Contains pairs (hash, slot)
  listed_told some told =
      let same : hash_of_slot pairs slot ≡ hash = (let here = sym (told_in_slot (hash_of_slot pairs) store.slots slot some) ∙ told in cc) in
      subst (λ h. Contains pairs (h, slot)) same (listed_hash pairs slot (occupied_listed store pairs paired slot some))

-- in a keyed map the hash that is stored for a slot's item is that of its key
pub stored_in_slot : {S T K : Type 0} (key : T → K) (eq : K → K → Bool) (input : K → HashWrites) (hash : S → HashWrites → ℕ) (m : HashItems S T) → KeyedItems key eq input hash m → (slot : ℕ) (x : T) → item_of_slot m.slots m.items slot ≡ Some x → item_of_slot m.slots m.hashes slot ≡ Some (hash m.hasher (input (key x)))
stored_in_slot {T = T} key eq input hash m keyed slot x at =
    let tell = λ (y : T). hash m.hasher (input (key y)) in
    ap (λ hashes. item_of_slot m.slots hashes slot) keyed.stored ∙ told_of_slot tell m.slots m.items slot ∙ ap (option_map tell) at

-- the one slot that a search finds, as the map shows it
seen_only : {T K : Type 0} (key : T → K) (test : K → Bool) (store : Store T) (found : Option ℕ) → IsOnlySlot key test store found → (slot : ℕ) → (found ≡ Some slot) ↔ IsSomeAnd (item_of_slot (slots_in store) (items_in store) slot) (λ x. test (key x) ≡ true)
seen_only key test store found only slot = subst (λ o. (found ≡ Some slot) ↔ IsSomeAnd o (λ x. test (key x) ≡ true)) (sym (item_in_slot store.slots slot)) (only slot)

-- what a search of one index says of the map
pub finds_slot : {S T K : Type 0} (key : T → K) (test : K → Bool) (hasher : S) (store : Store T) (index : HashPairs) → PairsOccupied store index.pairs → (h : ℕ) (found : Option ℕ) → IsSlotFound key test store found → IsOnlySlot key test store found → IfSome found (λ slot. Contains index.pairs (h, slot)) → FindsSlot key test (map_of store index hasher) h found
finds_slot key test hasher store index paired h None item only listed = record { item = item; only = seen_only key test store None only; there = tt; listed = tt }
finds_slot key test hasher store index paired h (Some slot) item only listed = record {
  item = item_in_slot store.slots slot ∙ item;
  only = seen_only key test store (Some slot) only;
  there = ap is_some (item_in_slot store.slots slot) ∙ listed_occupied store index.pairs paired h slot listed;
  listed = told_listed store index.pairs paired h slot listed;
}
