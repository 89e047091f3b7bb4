-- The index and the store of a hash map belong together still where a slot is added to both, taken out of both, or has another item.
--     occupied_listed, vacant_unlisted, listed_occupied      a slot is listed exactly where it is occupied
--     paired_empty, paired_room, paired_grown, paired_added, paired_removed, paired_kept      the pair after a change
--     listed_under, hashes_agree      that each item's slot is listed with the hash that is told of the item, and the same of the list of hashes
--     under_same, under_added, under_removed, under_kept      ... after a change
use Rattle.std.proofs.Common.{◌≡◌, ◌≢◌, ℕ, ◌+◌, ◌<◌, ◌≤◌, List, [], length, map, get_or, Some, None, is_some, cond, Bool, true, false, refl, sym, ap, ◌∙◌, arith, subst, ⊎_elim, count_by}
use Rattle.std.proofs.lemmas.Bool.{cases_eq, eq-eqb, ne_eqb}
use Rattle.std.specs.List.{Contains}
use Rattle.iddqd_hash_index.specs.HashPairs.{HasOneMore, SamePairs, of_slot}
use Rattle.iddqd_store.specs.Store.{Store, item_at, IsOccupied, store_len, Updates}
use Rattle.iddqd_hash_parts.specs.StoreAndIndex.{AreListedUnder, PairsOccupied, hash_of_slot, hashes_in, items_in}
use Rattle.iddqd_hash_parts.proofs.PairLemmas.{length-weight, listed_some, no_hash, counts, tells}
use Rattle.iddqd_hash_parts.proofs.SlotItemLemmas.{number_at, numbers_agree}

module _ (ps qs : List (ℕ × ℕ)) (hash slot : ℕ) (more : HasOneMore ps qs (hash, slot)) where
  count_here : of_slot qs slot ≡ of_slot ps slot + 1
  count_here = more (counts slot) ∙ ap (λ b. of_slot ps slot + cond b 1 0) (eq-eqb slot slot refl)

  count_other : (other : ℕ) → other ≢ slot → of_slot qs other ≡ of_slot ps other
  count_other other n = omega (arith, more (counts other) ∙ ap (λ b. of_slot ps other + cond b 1 0) (ne_eqb slot other (λ e. n (sym e))))

  hash_here : hash_of_slot qs slot ≡ hash_of_slot ps slot + hash
  hash_here = more (tells slot) ∙ ap (λ b. hash_of_slot ps slot + cond b hash 0) (eq-eqb slot slot refl)

  hash_other : (other : ℕ) → other ≢ slot → hash_of_slot qs other ≡ hash_of_slot ps other
  hash_other other n = omega (arith, more (tells other) ∙ ap (λ b. hash_of_slot ps other + cond b hash 0) (ne_eqb slot other (λ e. n (sym e))))

  length_more : length qs ≡ length ps + 1
  length_more = omega (arith, more (λ _. 1), length-weight ps, length-weight qs)

module _ {T : Type 0} where
  module _ (store : Store T) (pairs : List (ℕ × ℕ)) (paired : PairsOccupied store pairs) where
    pub occupied_listed : (slot : ℕ) → IsOccupied store slot → of_slot pairs slot ≡ 1
    occupied_listed slot some = paired.each_once slot ∙ ap (λ b. cond b 1 0) some

    pub vacant_unlisted : (slot : ℕ) → item_at store slot ≡ None → of_slot pairs slot ≡ 0
    vacant_unlisted slot none = paired.each_once slot ∙ ap (λ o. cond (is_some o) 1 0) none

    pub listed_occupied : (hash slot : ℕ) → Contains pairs (hash, slot) → IsOccupied store slot
    listed_occupied hash slot listed = by (is_some (item_at store slot)) refl
      where
        some : 0 < of_slot pairs slot
        some = listed_some pairs hash slot listed

        by : (b : Bool) → is_some (item_at store slot) ≡ b → is_some (item_at store slot) ≡ true
        by true e = e
        by false e = absurd (omega (arith, some, paired.each_once slot ∙ ap (λ b. cond b 1 0) e))

  pub paired_empty : (store : Store T) (pairs : List (ℕ × ℕ)) → store.slots ≡ [] → pairs ≡ [] → PairsOccupied store pairs
  paired_empty store pairs none nothing =
      let empty : store_len store ≡ 0 = ap (λ xs. count_by is_some xs) none in
      record {
        each_once = λ slot. ap (λ ps. of_slot ps slot) nothing ∙ sym (ap (λ xs. cond (is_some (get_or xs slot None)) 1 0) none);
        counted = ap length nothing ∙ sym empty;
        in_memory = omega (arith, empty);
        in_limit = omega (arith, empty);
      }

  module _ (old new : Store T) (ps qs : List (ℕ × ℕ)) (paired : PairsOccupied old ps) where
    -- the pairs may stand in another order, and there may be more room or less
    pub paired_room : new ≡ record old { capacity = new.capacity } → store_len old ≤ new.capacity → SamePairs ps qs → PairsOccupied new qs
    paired_room rest enough same =
        let slots = ap (λ s. s.slots) rest in
        let len : store_len new ≡ store_len old = ap (λ xs. count_by is_some xs) slots in
        record {
          each_once = λ slot. same (counts slot) ∙ paired.each_once slot ∙ sym (ap (λ xs. cond (is_some (get_or xs slot None)) 1 0) slots);
          counted = omega (arith, same (λ _. 1), length-weight ps, length-weight qs, paired.counted, len);
          in_memory = omega (arith, len, enough);
          in_limit = omega (arith, len, paired.in_limit, ap (λ s. s.limit) rest);
        }

    pub paired_grown : new ≡ record old { capacity = new.capacity } → old.capacity ≤ new.capacity → SamePairs ps qs → PairsOccupied new qs
    paired_grown rest more same = paired_room rest (omega (arith, paired.in_memory, more)) same

    pub paired_added : (hash slot : ℕ) (x : T) → HasOneMore ps qs (hash, slot) → item_at old slot ≡ None → Updates old new slot (Some x) → store_len new ≡ store_len old + 1 → store_len old + 1 ≤ old.capacity → store_len old + 1 ≤ old.limit → new.capacity ≡ old.capacity → new.limit ≡ old.limit → PairsOccupied new qs
    paired_added hash slot x more vacant updates len memory limit same_capacity same_limit =
        record {
          each_once = λ other. ⊎_elim
              (λ e. subst (λ s. of_slot qs s ≡ cond (is_some (item_at new s)) 1 0) (sym e) (count_here ps qs hash slot more ∙ ap (λ n. n + 1) (vacant_unlisted old ps paired slot vacant) ∙ sym (ap (λ o. cond (is_some o) 1 0) updates.changed)))
              (λ n. count_other ps qs hash slot more other n ∙ paired.each_once other ∙ sym (ap (λ o. cond (is_some o) 1 0) (updates.others other n)))
              (cases_eq other slot);
          counted = omega (arith, length_more ps qs hash slot more, paired.counted, len);
          in_memory = omega (arith, len, memory, same_capacity);
          in_limit = omega (arith, len, limit, same_limit);
        }

    pub paired_removed : (hash slot : ℕ) → HasOneMore qs ps (hash, slot) → Contains ps (hash, slot) → Updates old new slot None → store_len new + 1 ≡ store_len old → new.capacity ≡ old.capacity → new.limit ≡ old.limit → PairsOccupied new qs
    paired_removed hash slot more listed updates len same_capacity same_limit =
        let was = occupied_listed old ps paired slot (listed_occupied old ps paired hash slot listed) in
        let gone : of_slot qs slot ≡ 0 = omega (arith, count_here qs ps hash slot more, was) in
        record {
          each_once = λ other. ⊎_elim
              (λ e. subst (λ s. of_slot qs s ≡ cond (is_some (item_at new s)) 1 0) (sym e) (gone ∙ sym (ap (λ o. cond (is_some o) 1 0) updates.changed)))
              (λ n. sym (count_other qs ps hash slot more other n) ∙ paired.each_once other ∙ sym (ap (λ o. cond (is_some o) 1 0) (updates.others other n)))
              (cases_eq other slot);
          counted = omega (arith, length_more qs ps hash slot more, paired.counted, len);
          in_memory = omega (arith, len, paired.in_memory, same_capacity);
          in_limit = omega (arith, len, paired.in_limit, same_limit);
        }

    -- one slot has another item
    pub paired_kept : (slot : ℕ) (x : T) → qs ≡ ps → IsOccupied old slot → Updates old new slot (Some x) → store_len new ≡ store_len old → new.capacity ≡ old.capacity → new.limit ≡ old.limit → PairsOccupied new qs
    paired_kept slot x same occupied updates len same_capacity same_limit =
        record {
          each_once = λ other. ap (λ ps. of_slot ps other) same ∙ ⊎_elim
              (λ e. subst (λ s. of_slot ps s ≡ cond (is_some (item_at new s)) 1 0) (sym e) (occupied_listed old ps paired slot occupied ∙ sym (ap (λ o. cond (is_some o) 1 0) updates.changed)))
              (λ n. paired.each_once other ∙ sym (ap (λ o. cond (is_some o) 1 0) (updates.others other n)))
              (cases_eq other slot);
          counted = ap length same ∙ paired.counted ∙ sym len;
          in_memory = omega (arith, len, paired.in_memory, same_capacity);
          in_limit = omega (arith, len, paired.in_limit, same_limit);
        }

  module _ (tell : T → ℕ) where
    pub listed_under : (store : Store T) (pairs : List (ℕ × ℕ)) → hashes_in store pairs ≡ map tell (items_in store) → AreListedUnder tell store pairs
    listed_under store pairs same = number_at tell (hash_of_slot pairs) store.slots same

    pub hashes_agree : (store : Store T) (pairs : List (ℕ × ℕ)) → AreListedUnder tell store pairs → hashes_in store pairs ≡ map tell (items_in store)
    hashes_agree store pairs under = numbers_agree tell (hash_of_slot pairs) store.slots under

    module _ (old new : Store T) (ps qs : List (ℕ × ℕ)) (under : AreListedUnder tell old ps) where
      pub under_same : new.slots ≡ old.slots → SamePairs ps qs → AreListedUnder tell new qs
      under_same slots same slot x there = same (tells slot) ∙ under slot x (ap (λ xs. get_or xs slot None) (sym slots) ∙ there)

      pub under_added : (hash slot : ℕ) (x : T) → PairsOccupied old ps → HasOneMore ps qs (hash, slot) → item_at old slot ≡ None → Updates old new slot (Some x) → hash ≡ tell x → AreListedUnder tell new qs
      under_added hash slot x paired more vacant updates told other y there = ⊎_elim
          (λ e. let same : x ≡ y = (let now = updates.changed in let seen = ap (item_at new) (sym e) ∙ there in cc) in
          let none = no_hash ps slot (vacant_unlisted old ps paired slot vacant) in
          let here : hash_of_slot qs slot ≡ hash = omega (arith, hash_here ps qs hash slot more, none) in
          ap (hash_of_slot qs) e ∙ here ∙ told ∙ ap tell same)
          (λ n. hash_other ps qs hash slot more other n ∙ under other y (sym (updates.others other n) ∙ there))
          (cases_eq other slot)

      pub under_removed : (hash slot : ℕ) → HasOneMore qs ps (hash, slot) → Updates old new slot None → AreListedUnder tell new qs
      under_removed hash slot more updates other y there = ⊎_elim
          (λ e. (let now = updates.changed in let seen = ap (item_at new) (sym e) ∙ there in cc))
          (λ n. sym (hash_other qs ps hash slot more other n) ∙ under other y (sym (updates.others other n) ∙ there))
          (cases_eq other slot)
