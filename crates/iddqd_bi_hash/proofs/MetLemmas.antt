-- The items that have one of an item's keys.
--     item_by_slot      the item of a slot, told by what a map shows
--     met_slots      the slots that the two searches found are those of these items
--     met_items      these items, told by what a map shows
--     shown_met      what is lent of them
--     neither_found      where there are none, neither search finds one
--     none_met      where neither search finds one, there are none
use Rattle.std.proofs.Common.{◌≡◌, ℕ, Bool, true, false, cond, List, [], ◌∷◌, map, drop, filter, find, Option, Some, None, IsSome, is_some, refl, sym, ap, ◌∙◌, subst, true≢false, Bor}
use Rattle.std.specs.List.{AllByRecursion, cons_option, filter_map}
use Rattle.iddqd_store.specs.SlotItems.{item_of_slot}
use Rattle.iddqd_store.specs.Store.{Store, item_at}
use Rattle.iddqd_hash_index.specs.HashPairs.{HashPairs}
use Rattle.iddqd_hash_parts.specs.SlotsFound.{slots_with_found}
use Rattle.iddqd_hash_parts.specs.StoreAndIndex.{IsOnlySlot, items_in, slots_in}
use Rattle.iddqd_hash_parts.proofs.GetMutLemmas.{item_in_slot}
use Rattle.iddqd_hash_parts.proofs.SlotsFoundLemmas.{none_passing, passing_items, passing_more, passing_occupied, slots_passing}
use Rattle.iddqd_bi_hash.specs.BiHashItems.{BiHashItems}
use Rattle.iddqd_bi_hash.specs.StoreAndIndexes.{bi_map_of}
use Rattle.iddqd_bi_hash.specs.TwoKeys.{has_one_of_keys, items_met}

-- the item of a slot, of the store and of the lists that a map shows
pub item_by_slot : {T : Type 0} (store : Store T) → (λ (slot : ℕ). item_of_slot (slots_in store) (items_in store) slot) ≡ item_at store
item_by_slot store i slot = item_in_slot store.slots slot i

module _ {T K L : Type 0} (key1 : T → K) (key2 : T → L) (eq1 : K → K → Bool) (eq2 : L → L → Bool) (x : T) where
  abbrev meets : T → Bool
  meets = has_one_of_keys key1 key2 eq1 eq2 x

  pub met_slots : (store : Store T) (one other : Option ℕ) → IsOnlySlot key1 (eq1 (key1 x)) store one → IsOnlySlot key2 (eq2 (key2 x)) store other → slots_with_found other (slots_with_found one []) ≡ slots_passing store meets
  met_slots store one other only1 only2 =
      ap (λ slots. slots_with_found other (slots_with_found one slots)) (sym (none_passing store))
      ∙ ap (slots_with_found other) (passing_more store key1 (eq1 (key1 x)) (λ _. false) one only1)
      ∙ passing_more store key2 (eq2 (key2 x)) (λ y. eq1 (key1 x) (key1 y)) other only2

  module _ {S : Type 0} (hasher : S) (store : Store T) (i j : HashPairs) (v : BiHashItems S T) (is : bi_map_of store i j hasher ≡ v) (slots : List ℕ) (passing : slots ≡ slots_passing store meets) where
    pub met_there : AllByRecursion (λ slot. IsSome (item_of_slot v.slots v.items slot)) slots
    met_there =
        subst (λ w. AllByRecursion (λ slot. IsSome (item_of_slot w.slots w.items slot)) slots) is
        (subst (λ (f : ℕ → Option T). AllByRecursion (λ slot. IsSome (f slot)) slots) (sym (item_by_slot store))
        (subst (AllByRecursion (λ slot. IsSome (item_at store slot))) (sym passing) (passing_occupied store meets)))

    pub met_items : filter_map (item_of_slot v.slots v.items) slots ≡ items_met key1 key2 eq1 eq2 x v.items
    met_items =
        subst (λ w. filter_map (item_of_slot w.slots w.items) slots ≡ items_met key1 key2 eq1 eq2 x w.items) is
        (ap (λ (f : ℕ → Option T). filter_map f slots) (item_by_slot store) ∙ ap (filter_map (item_at store)) passing ∙ passing_items store meets)

-- what is lent of the items of these slots
pub shown_met : {T : Type 0} (item : ℕ → Option T) (lents : List (Bor T)) (slots : List ℕ) → map (λ lent. Some lent.now) lents ≡ map item slots → map (λ lent. lent.now) lents ≡ filter_map item slots
shown_met item [] [] same = refl
shown_met item [] (s ∷ slots) same = cc
shown_met item (l ∷ lents) [] same = cc
shown_met item (l ∷ lents) (s ∷ slots) same =
    let first : item s ≡ Some l.now = cc in
    ap (λ ys. l.now ∷ ys) (shown_met item lents slots (ap (drop 1) same)) ∙ ap (λ o. cons_option o (filter_map item slots)) (sym first)

module _ {T : Type 0} (p q : T → Bool) where
  abbrev either : T → Bool
  either y = cond (p y) true (q y)

  first_fails : (x : T) (xs : List T) → filter either (x ∷ xs) ≡ [] → either x ≡ true → ⊥
  first_fails x xs none e = (let here = sym (ap (λ b. cond b (x ∷ filter either xs) (filter either xs)) e) ∙ none in cc)

  none_behind : (x : T) (xs : List T) → filter either (x ∷ xs) ≡ [] → either x ≡ false → filter either xs ≡ []
  none_behind x xs none e = sym (ap (λ b. cond b (x ∷ filter either xs) (filter either xs)) e) ∙ none

  pub neither_found : (xs : List T) → filter either xs ≡ [] → (find p xs ≡ None) × (find q xs ≡ None)
  neither_found [] none = (refl, refl)
  neither_found (x ∷ xs) none = by (p x) (q x) refl refl (neither_found xs)
    where
      by : (a b : Bool) → p x ≡ a → q x ≡ b → (filter either xs ≡ [] → (find p xs ≡ None) × (find q xs ≡ None)) → (find p (x ∷ xs) ≡ None) × (find q (x ∷ xs) ≡ None)
      by true b e f rest = absurd (first_fails x xs none (rw e refl))
      by false true e f rest = absurd (first_fails x xs none (rw e f))
      by false false e f rest =
          let others = rest (none_behind x xs none (rw e f)) in
          (rw e others.0, rw f others.1)

  pub none_met : (xs : List T) → find p xs ≡ None → find q xs ≡ None → filter either xs ≡ []
  none_met [] one other = refl
  none_met (x ∷ xs) one other = by (p x) (q x) refl refl one other (none_met xs)
    where
      by : (a b : Bool) → p x ≡ a → q x ≡ b → cond a (Some x) (find p xs) ≡ None → cond b (Some x) (find q xs) ≡ None → (find p xs ≡ None → find q xs ≡ None → filter either xs ≡ []) → filter either (x ∷ xs) ≡ []
      by true b e f one other rest = absurd (true≢false (ap is_some one))
      by false true e f one other rest = absurd (true≢false (ap is_some other))
      by false false e f one other rest = rw (e, f) (rest one other)
