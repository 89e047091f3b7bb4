-- A store's clone beside an index of the same pairs.
--     paired_copied      they belong together still
--     same_slots, cloned_items      the slots are the same, and the items are the clones
--     copied_keyed      where clones keep their keys, and the hasher's clone hashes as it does, the map is keyed still
use Rattle.std.proofs.Common.{◌≡◌, ℕ, ◌≤◌, Bool, true, List, [], ◌∷◌, Option, Some, None, cond, is_some, refl, sym, ap, ◌∙◌, arith}
use Rattle.std.specs.Cmp.{IsEquivalence}
use Rattle.std.specs.Hash.{HashWrites}
use Rattle.std.specs.List.{AllZip}
use Rattle.iddqd_store.specs.Contents.{ClonesKeepKeys}
use Rattle.iddqd_hash_index.specs.HashPairs.{HashPairs, SamePairs}
use Rattle.iddqd_store.specs.Store.{Store, item_at, store_len, IsItemClone, IsStoreClone}
use Rattle.iddqd_store.proofs.CloneLemmas.{differ_clones, clones_on, occupied_both, clone_at}
use Rattle.iddqd_hash_parts.specs.HashItems.{KeyedItems}
use Rattle.iddqd_hash_parts.specs.StoreAndIndex.{PairsOccupied, hash_of_slot, items_in, map_of}
use Rattle.iddqd_hash_parts.proofs.MapLemmas.{keyed_under, make_keyed}
use Rattle.iddqd_hash_parts.proofs.PairLemmas.{length-weight, counts, tells}
use Rattle.iddqd_hash_parts.proofs.SlotItemLemmas.{items_of}

module _ {T : Type 0} (is_clone : T → T → Type 0) where
  kept_clones : (os ps : List (Option T)) → AllZip (IsItemClone is_clone) os ps → AllZip is_clone (items_of os) (items_of ps)
  kept_clones [] [] all = tt
  kept_clones [] (p ∷ ps) all = absurd all
  kept_clones (o ∷ os) [] all = absurd all
  kept_clones (o ∷ os) (p ∷ ps) all = clones_on is_clone o p (items_of os) (items_of ps) all.0 (kept_clones os ps all.1)

  -- what a clone was made of
  source_of : (o p : Option T) → IsItemClone is_clone o p → (y : T) → p ≡ Some y → (x : T) × (o ≡ Some x) × is_clone x y
  source_of None p same y e = absurd (cc)
  source_of (Some x) None same y e = absurd same
  source_of (Some x) (Some z) same y e = (let z_is : z ≡ y = cc in (x, refl, rw (sym z_is) same))

  module _ (store copy : Store T) (clones : IsStoreClone is_clone store copy) where
    pub same_slots : (slot : ℕ) → is_some (item_at copy slot) ≡ is_some (item_at store slot)
    same_slots slot = occupied_both is_clone (item_at store slot) (item_at copy slot) (clone_at is_clone store.slots copy.slots slot clones.slots)

    pub cloned_items : AllZip is_clone (items_in store) (items_in copy)
    cloned_items = kept_clones store.slots copy.slots clones.slots

    module _ (index other : HashPairs) (same : SamePairs index.pairs other.pairs) where
      pub paired_copied : PairsOccupied store index.pairs → store_len copy ≡ store_len store → store_len copy ≤ copy.capacity → PairsOccupied copy other.pairs
      paired_copied paired len memory = record {
        each_once = λ slot. same (counts slot) ∙ paired.each_once slot ∙ ap (λ b. cond b 1 0) (sym (same_slots slot));
        counted = omega (arith, same (λ _. 1), length-weight index.pairs, length-weight other.pairs, paired.counted, len);
        in_memory = memory;
        in_limit = omega (arith, len, paired.in_limit, clones.limit);
      }

      module _ {S K : Type 0} (key : T → K) {eq : K → K → Bool} (input : K → HashWrites) (hash : S → HashWrites → ℕ) (equivalence : IsEquivalence eq) (respects : (x y : K) → eq x y ≡ true → input x ≡ input y) (keeps : ClonesKeepKeys key eq is_clone) (hasher twin : S) (alike : (writes : HashWrites) → hash twin writes ≡ hash hasher writes) where
        listed_alike : KeyedItems key eq input hash (map_of store index hasher) → (slot : ℕ) (y : T) → item_at copy slot ≡ Some y → hash_of_slot other.pairs slot ≡ hash twin (input (key y))
        listed_alike keyed slot y there =
            let made = source_of (item_at store slot) (item_at copy slot) (clone_at is_clone store.slots copy.slots slot clones.slots) y there in
            same (tells slot) ∙ keyed_under key eq input hash hasher store index keyed slot made.0 made.1
            ∙ ap (hash hasher) (respects (key made.0) (key y) (keeps made.0 y made.2)) ∙ sym (alike (input (key y)))

        pub copied_keyed : KeyedItems key eq input hash (map_of store index hasher) → KeyedItems key eq input hash (map_of copy other twin)
        copied_keyed keyed =
            make_keyed key eq input hash twin copy other (differ_clones key is_clone keeps equivalence (items_in store) (items_in copy) cloned_items keyed.differ) (listed_alike keyed)
