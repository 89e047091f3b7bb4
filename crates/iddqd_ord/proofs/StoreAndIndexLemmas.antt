-- An index and a store belong together still where a slot is added to both, or taken out of both.
--     vacant_absent      a vacant slot is not listed
--     items_counted      there are as many items as occupied slots
--     listed_counted      there are as many items as listed slots
--     bound_of      a bound by the number of listed slots is one by the number of items
--     have_slots      each listed item has a slot of its own
--     left_slots      each item that is gone has left a vacant slot
--     paired_empty      nothing is listed where there is no slot
--     listed_occupied      a listed slot is occupied
--     paired_added, paired_removed      the pair after the change
--     items_removed      the items that are left; `listed-added` and `listed-updated` of the core have the others
use Rattle.std.proofs.Common.{◌≡◌, ◌≢◌, ℕ, ◌+◌, ◌-◌, ◌<◌, ◌≤◌, ⊎_elim, List, length, get_or, Some, None, is_some, sym, ap, ◌∙◌, arith, true≢false, nat_eq, count_by, subst, []}
use Rattle.std.proofs.lemmas.Bool.{cases_lt, cases_eq, eqb-false}
use Rattle.std.proofs.lemmas.List.Edits.{length-insert, length-remove, get_or-insert_below, get_or-insert_at, get_or-insert_above, get_or-remove_below, get_or-remove_above}
use Rattle.std.proofs.lemmas.Map.Keys.{apart_from_distinct}
use Rattle.std.proofs.lemmas.Option.{get_or_from_slice_get, slice_get_within}
use Rattle.std.specs.Cmp.{nat_eq_equiv}
use Rattle.std.specs.List.{All, Contains, IsDistinct, insert, remove, slice_get}
use Rattle.iddqd_ord_index.specs.Digits.{digits}
use Rattle.iddqd_ord_index.specs.Listed.{listed_items, AreOccupied}
use Rattle.iddqd_store.specs.SlotItems.{HaveSlots}
use Rattle.iddqd_store.specs.Holding.{Holding, LeavesSlots}
use Rattle.iddqd_store.specs.Store.{Store, item_at, IsOccupied, store_len, Updates, vacant}
use Rattle.iddqd_store.proofs.DistinctLemmas.{absent_apart, distinct_insert, distinct_remove}
use Rattle.iddqd_ord_index.proofs.ListedLemmas.{length-listed, listed-same, listed-remove}
use Rattle.iddqd_ord.specs.StoreAndIndex.{KeepsBounds, ListsOccupied}

-- a place in a list with one more element is its own, or that of an element that was there
module _ {X : Type 0} (P : X → Type 0) (xs : List X) (i : ℕ) (x : X) (within : i ≤ length xs) where
  pub all-inserted : P x → All P xs → All P (insert xs i x)
  all-inserted here all k d h =
      let long = length-insert xs i x within in
      ⊎_elim
      (λ l. subst P (sym (get_or-insert_below xs i x d k l within)) (all k d (omega arith)))
      (λ l. ⊎_elim
      (λ e. subst P (sym (ap (λ j. get_or (insert xs i x) j d) e ∙ get_or-insert_at xs i x d within)) here)
      (λ n. let back : k ≡ (k - 1) + 1 = omega arith in
      subst P (sym (ap (λ j. get_or (insert xs i x) j d) back ∙ get_or-insert_above xs i x d (k - 1) (omega arith) within)) (all (k - 1) d (omega arith)))
      (cases_eq k i))
      (cases_lt k i)

module _ {X : Type 0} (xs : List X) (i : ℕ) (x : X) (within : i ≤ length xs) where
  contains_it : Contains (insert xs i x) x
  contains_it = (i, omega (arith, length-insert xs i x within), get_or-insert_at xs i x x within)

  contains_more : (y : X) → Contains xs y → Contains (insert xs i x) y
  contains_more y c =
      let long = length-insert xs i x within in
      let k = c.0 in
      let h : k < length xs = c.1 in
      ⊎_elim
      (λ l. (k, omega arith, get_or-insert_below xs i x y k l within ∙ c.2))
      (λ l. (k + 1, omega arith, get_or-insert_above xs i x y k l within ∙ c.2))
      (cases_lt k i)

module _ (xs : List ℕ) (i s : ℕ) (at : slice_get xs i ≡ Some s) where
  contains_less : (y : ℕ) → y ≢ s → Contains xs y → Contains (remove xs i) y
  contains_less y n c =
      let k = c.0 in
      let h : k < length xs = c.1 in
      let inside : i < length xs = slice_get_within xs i s at in
      let long = length-remove xs i inside in
      ⊎_elim
      (λ l. (k, omega arith, get_or-remove_below xs i y k l inside ∙ c.2))
      (λ l. ⊎_elim
      (λ e. absurd (n (sym c.2 ∙ ap (λ j. get_or xs j y) e ∙ get_or_from_slice_get xs i s y at)))
      (λ ne. let back : (k - 1) + 1 ≡ k = omega arith in
      (k - 1, omega arith, get_or-remove_above xs i y (k - 1) (omega arith) inside ∙ ap (λ j. get_or xs j y) back ∙ c.2))
      (cases_eq k i))
      (cases_lt k i)

  -- of different slots, those that are left are not the one taken out, and were there
  module _ (once : IsDistinct nat_eq xs) where
    apart : (j d : ℕ) → j < length xs → j ≢ i → get_or xs j d ≢ s
    apart j d h n e =
        let inside : i < length xs = slice_get_within xs i s at in
        let there : get_or xs i d ≡ s = get_or_from_slice_get xs i s d at in
        ⊎_elim
        (λ l. eqb-false (get_or xs j d) (get_or xs i d) (apart_from_distinct nat_eq xs j i d once l inside) (e ∙ sym there))
        (λ l. eqb-false (get_or xs i d) (get_or xs j d) (apart_from_distinct nat_eq xs i j d once (omega arith) h) (there ∙ sym e))
        (cases_lt j i)

    pub all-removed : (P : ℕ → Type 0) → All (λ y. y ≢ s → P y) xs → All P (remove xs i)
    all-removed P all k d h =
        let inside : i < length xs = slice_get_within xs i s at in
        let long = length-remove xs i inside in
        ⊎_elim
        (λ l. subst P (sym (get_or-remove_below xs i d k l inside)) (all k d (omega arith) (apart k d (omega arith) (λ e. (omega arith)))))
        (λ l. subst P (sym (get_or-remove_above xs i d k l inside)) (all (k + 1) d (omega arith) (apart (k + 1) d (omega arith) (λ e. (omega arith)))))
        (cases_lt k i)

module _ {T : Type 0} where
  -- each listed item has a slot of its own
  pub have_slots : (store : Store T) (slots : List ℕ) → ListsOccupied store slots → HaveSlots slots (listed_items store slots)
  have_slots store slots paired = record { as_many = sym (length-listed store slots paired.occupied); each_once = paired.each_once }

  -- what contracts see of a store and its index
  abbrev holding : Store T → List ℕ → Holding T
  holding store slots = record { items = listed_items store slots; slots = slots; vacant = vacant store; capacity = store.capacity; limit = store.limit }

  -- each item that is gone has left a vacant slot
  pub left_slots : (old new : Store T) (slots left : List ℕ) → ListsOccupied old slots → ListsOccupied new left → vacant new + store_len new ≡ vacant old + store_len old → KeepsBounds old new
      → (map : Holding T) → holding old slots ≡ map → LeavesSlots map (holding new left)
  left_slots old new slots left before after many bounds map view =
      let own = have_slots new left after in
      record {
        slots = own;
        vacant = omega (arith, many, before.counted, after.counted, own.as_many, (have_slots old slots before).as_many, ap (λ m. m.vacant) view, ap (λ m. length m.items) view);
        capacity = bounds.0 ∙ ap (λ m. m.capacity) view;
        limit = bounds.1 ∙ ap (λ m. m.limit) view;
      }

  -- there are as many items as occupied slots
  pub items_counted : (store : Store T) (slots : List ℕ) → ListsOccupied store slots → length (listed_items store slots) ≡ store_len store
  items_counted store slots paired = length-listed store slots paired.occupied ∙ paired.counted

  -- as many slots are listed as there are items
  pub listed_counted : (store : Store T) (slots : List ℕ) → ListsOccupied store slots → length slots ≡ length (listed_items store slots)
  listed_counted store slots paired = paired.counted ∙ sym (items_counted store slots paired)

  -- a bound by the number of listed slots is one by the number of items
  pub bound_of : (store : Store T) (slots : List ℕ) → ListsOccupied store slots → (items : List T) → listed_items store slots ≡ items → digits (length slots) ≡ digits (length items)
  bound_of store slots paired items same = ap digits ((have_slots store slots paired).as_many ∙ ap length same)

  pub paired_empty : (store : Store T) (slots : List ℕ) → store.slots ≡ [] → slots ≡ [] → ListsOccupied store slots
  unfolding IsDistinct
  paired_empty store slots none nothing = record {
    each_once = subst (IsDistinct nat_eq) (sym nothing) tt;
    occupied = λ k d h. absurd (omega (arith, h, ap length nothing));
    listed = λ slot some. absurd (true≢false (sym some ∙ ap (λ xs. is_some (get_or xs slot None)) none));
    counted = ap length nothing ∙ sym (ap (λ xs. count_by is_some xs) none);
  }

  -- a listed slot is occupied
  pub listed_occupied : (store : Store T) (slots : List ℕ) → AreOccupied store slots → (i slot : ℕ) → slice_get slots i ≡ Some slot → IsOccupied store slot
  listed_occupied store slots occupied i slot at =
      subst (IsOccupied store) (get_or_from_slice_get slots i slot slot at) (occupied i slot (slice_get_within slots i slot at))

  module _ (old new : Store T) (slots : List ℕ) (paired : ListsOccupied old slots) (slot : ℕ) where
    pub vacant_absent : item_at old slot ≡ None → ¬ Contains slots slot
    vacant_absent vacant c = true≢false (sym (paired.occupied c.0 slot c.1) ∙ ap (λ s. is_some (item_at old s)) c.2 ∙ ap is_some vacant)

    pub paired_added : (i : ℕ) (x : T) → i ≤ length slots → item_at old slot ≡ None → Updates old new slot (Some x) → store_len new ≡ store_len old + 1 → ListsOccupied new (insert slots i slot)
    paired_added i x within vacant updates len =
        let absent = vacant_absent vacant in
        let differs : All (λ s. s ≢ slot) slots = λ k d h e. true≢false (sym (paired.occupied k d h) ∙ ap is_some (ap (item_at old) e ∙ vacant)) in
        record {
          each_once = distinct_insert nat_eq nat_eq_equiv.symm slot slots i (absent_apart slots slot absent) paired.each_once;
          occupied = all-inserted (IsOccupied new) slots i slot within (ap is_some updates.changed) (λ k d h. ap is_some (updates.others _ (differs k d h)) ∙ paired.occupied k d h);
          listed = λ other some. ⊎_elim
              (λ e. rw e (contains_it slots i slot within))
              (λ n. contains_more slots i slot within other (paired.listed other (ap is_some (sym (updates.others other n)) ∙ some)))
              (cases_eq other slot);
          counted = omega (arith, length-insert slots i slot within, paired.counted, len);
        }

    module _ (i : ℕ) (at : slice_get slots i ≡ Some slot) (updates : Updates old new slot None) where
      pub paired_removed : store_len new + 1 ≡ store_len old → ListsOccupied new (remove slots i)
      paired_removed len =
          record {
            each_once = distinct_remove nat_eq slots i paired.each_once;
            occupied = all-removed slots i slot at paired.each_once (IsOccupied new) (λ k d h n. ap is_some (updates.others _ n) ∙ paired.occupied k d h);
            listed = λ other some. ⊎_elim
                (λ e. absurd (true≢false (sym some ∙ ap (λ s. is_some (item_at new s)) e ∙ ap is_some updates.changed)))
                (λ n. contains_less slots i slot at other n (paired.listed other (ap is_some (sym (updates.others other n)) ∙ some)))
                (cases_eq other slot);
            counted = omega (arith, length-remove slots i (slice_get_within slots i slot at), paired.counted, len);
          }

      pub items_removed : listed_items new (remove slots i) ≡ remove (listed_items old slots) i
      items_removed =
          listed-same old new (remove slots i) (all-removed slots i slot at paired.each_once (λ s. item_at new s ≡ item_at old s) (λ k d h n. updates.others _ n))
          ∙ listed-remove old slots paired.occupied i
