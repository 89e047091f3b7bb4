-- The slots that two searches found, told as those of the items that pass one of the searches' tests.
--     slots_passing store p      the slots whose items pass, in the order of their numbers
--     none_passing      without a test there is none
--     passing_more      with what one search more found
--     passing_items, passing_occupied      their items are those that pass, and each of them has one
use Rattle.std.proofs.Common.{◌≡◌, ◌≢◌, ℕ, zero, suc, ◌+◌, ◌<◌, Bool, true, false, cond, List, [], ◌∷◌, filter, Option, Some, None, is_some, IsSomeAnd, refl, sym, ap, ◌∙◌, arith, subst}
use Rattle.std.proofs.lemmas.Bool.{eq-eqb, ne_eqb, lt-ltb, le-ltb}
use Rattle.std.specs.List.{AllByRecursion, cons_option, filter_map}
use Rattle.iddqd_store.specs.Store.{Store, item_at, IsOccupied}
use Rattle.iddqd_hash_parts.specs.SlotsFound.{slots_with, slots_with_found}
use Rattle.iddqd_hash_parts.specs.StoreAndIndex.{IsOnlySlot, items_in}
use Rattle.iddqd_hash_parts.proofs.SlotFoundLemmas.{told}
use Rattle.iddqd_hash_parts.proofs.SlotItemLemmas.{at, items_of}

module _ {T : Type 0} where
  -- the slots whose items pass, the first slot being the n-th
  abbrev passing : (T → Bool) → ℕ → List (Option T) → List ℕ
  passing p n [] = []
  passing p n (None ∷ xs) = passing p (suc n) xs
  passing p n (Some x ∷ xs) = cond (p x) (n ∷ passing p (suc n) xs) (passing p (suc n) xs)

  no_test : (n : ℕ) (xs : List (Option T)) → passing (λ _. false) n xs ≡ []
  no_test n [] = refl
  no_test n (None ∷ xs) = no_test (suc n) xs
  no_test n (Some x ∷ xs) = no_test (suc n) xs

  items_passing : (p : T → Bool) (item : ℕ → Option T) (n : ℕ) (xs : List (Option T)) → ((k : ℕ) → item (n + k) ≡ at xs k) → filter_map item (passing p n xs) ≡ filter p (items_of xs)
  items_passing p item n [] same = refl
  items_passing p item n (None ∷ xs) same = items_passing p item (suc n) xs (λ k. ap item (omega arith) ∙ same (suc k))
  items_passing p item n (Some x ∷ xs) same = by (p x) refl (items_passing p item (suc n) xs (λ k. ap item (omega arith) ∙ same (suc k)))
    where
      first : item n ≡ Some x
      first = ap item (omega arith) ∙ same zero

      by : (b : Bool) → p x ≡ b → filter_map item (passing p (suc n) xs) ≡ filter p (items_of xs) → filter_map item (passing p n (Some x ∷ xs)) ≡ filter p (items_of (Some x ∷ xs))
      by true e rest = rw e (ap (λ o. cons_option o (filter_map item (passing p (suc n) xs))) first ∙ ap (λ ys. x ∷ ys) rest)
      by false e rest = rw e rest

  occupied_passing : (p : T → Bool) (item : ℕ → Option T) (n : ℕ) (xs : List (Option T)) → ((k : ℕ) → item (n + k) ≡ at xs k) → AllByRecursion (λ s. is_some (item s) ≡ true) (passing p n xs)
  occupied_passing p item n [] same = tt
  occupied_passing p item n (None ∷ xs) same = occupied_passing p item (suc n) xs (λ k. ap item (omega arith) ∙ same (suc k))
  occupied_passing p item n (Some x ∷ xs) same = by (p x) refl (occupied_passing p item (suc n) xs (λ k. ap item (omega arith) ∙ same (suc k)))
    where
      first : item n ≡ Some x
      first = ap item (omega arith) ∙ same zero

      by : (b : Bool) → p x ≡ b → AllByRecursion (λ s. is_some (item s) ≡ true) (passing p (suc n) xs) → AllByRecursion (λ s. is_some (item s) ≡ true) (passing p n (Some x ∷ xs))
      by true e rest = rw e (ap is_some first, rest)
      by false e rest = rw e rest

  -- a slot in front of those that pass comes first
  in_front : (p : T → Bool) (n m : ℕ) (xs : List (Option T)) → n < m → slots_with n (passing p m xs) ≡ n ∷ passing p m xs
  in_front p n m [] less = refl
  in_front p n m (None ∷ xs) less = in_front p n (suc m) xs (omega (arith, less))
  in_front p n m (Some x ∷ xs) less = by (p x) refl (in_front p n (suc m) xs (omega (arith, less)))
    where
      by : (b : Bool) → p x ≡ b → slots_with n (passing p (suc m) xs) ≡ n ∷ passing p (suc m) xs → slots_with n (passing p m (Some x ∷ xs)) ≡ n ∷ passing p m (Some x ∷ xs)
      by true e rest = rw e (rw (ne_eqb n m (λ s. absurd (omega (arith, less, s))), lt-ltb n m less) refl)
      by false e rest = rw e rest

  module _ (p q : T → Bool) where
    abbrev either : T → Bool
    either x = cond (p x) true (q x)

    -- no item passes the other test
    none_more : (n : ℕ) (xs : List (Option T)) → ((k : ℕ) (y : T) → at xs k ≡ Some y → q y ≡ false) → passing either n xs ≡ passing p n xs
    none_more n [] fails = refl
    none_more n (None ∷ xs) fails = none_more (suc n) xs (λ k. fails (suc k))
    none_more n (Some x ∷ xs) fails = by (p x) refl (none_more (suc n) xs (λ k. fails (suc k)))
      where
        by : (b : Bool) → p x ≡ b → passing either (suc n) xs ≡ passing p (suc n) xs → passing either n (Some x ∷ xs) ≡ passing p n (Some x ∷ xs)
        by true e rest = rw e (ap (λ ys. n ∷ ys) rest)
        by false e rest = rw (e, fails zero x refl) rest

    -- one item passes the other test
    one_more : (n k : ℕ) (y : T) (xs : List (Option T)) → at xs k ≡ Some y → q y ≡ true → ((j : ℕ) (z : T) → j ≢ k → at xs j ≡ Some z → q z ≡ false) → passing either n xs ≡ slots_with (n + k) (passing p n xs)
    one_more n k y [] there passes fails = cc
    one_more n zero y (None ∷ xs) there passes fails = cc
    one_more n (suc k) y (None ∷ xs) there passes fails =
        one_more (suc n) k y xs there passes (λ j z e. fails (suc j) z (λ s. e (omega arith))) ∙ ap (λ s. slots_with s (passing p (suc n) xs)) (omega arith)
    one_more n zero y (Some x ∷ xs) there passes fails = by (p x) refl (none_more (suc n) xs (λ j z. fails (suc j) z (λ s. absurd (omega arith))))
      where
        same : x ≡ y
        same = cc

        by : (b : Bool) → p x ≡ b → passing either (suc n) xs ≡ passing p (suc n) xs → passing either n (Some x ∷ xs) ≡ slots_with (n + zero) (passing p n (Some x ∷ xs))
        by true e rest = rw (e, eq-eqb (n + zero) n (omega arith)) (ap (λ ys. n ∷ ys) rest)
        by false e rest =
            rw (e, ap q same ∙ passes) (ap (λ ys. n ∷ ys) rest ∙ sym (in_front p n (suc n) xs (omega arith)) ∙ ap (λ s. slots_with s (passing p (suc n) xs)) (omega arith))
    one_more n (suc k) y (Some x ∷ xs) there passes fails =
        by (p x) refl (one_more (suc n) k y xs there passes (λ j z e. fails (suc j) z (λ s. e (omega arith))) ∙ ap (λ s. slots_with s (passing p (suc n) xs)) (omega arith))
      where
        by : (b : Bool) → p x ≡ b → passing either (suc n) xs ≡ slots_with (n + suc k) (passing p (suc n) xs) → passing either n (Some x ∷ xs) ≡ slots_with (n + suc k) (passing p n (Some x ∷ xs))
        by true e rest = rw (e, ne_eqb (n + suc k) n (λ s. absurd (omega (arith, s))), le-ltb (n + suc k) n (omega arith)) (ap (λ ys. n ∷ ys) rest)
        by false e rest = rw (e, fails zero x (λ s. absurd (omega arith)) refl) rest

-- a slot that a search did not find has no item that passes
fails_other : {T K : Type 0} (key : T → K) (test : K → Bool) (store : Store T) (found : Option ℕ) → IsOnlySlot key test store found → (slot : ℕ) (y : T) → found ≢ Some slot → item_at store slot ≡ Some y → test (key y) ≡ false
fails_other key test store found only slot y other there = by (test (key y)) refl
  where
    by : (b : Bool) → test (key y) ≡ b → test (key y) ≡ false
    by false e = e
    by true e = absurd (other ((only slot).1 (subst (λ o. IsSomeAnd o (λ x. test (key x) ≡ true)) (sym there) e)))

module _ {T : Type 0} (store : Store T) where
  abbrev pub slots_passing : (T → Bool) → List ℕ
  slots_passing p = passing p 0 store.slots

  pub none_passing : slots_passing (λ _. false) ≡ []
  none_passing = no_test 0 store.slots

  pub passing_items : (p : T → Bool) → filter_map (item_at store) (slots_passing p) ≡ filter p (items_in store)
  passing_items p = items_passing p (item_at store) 0 store.slots (λ k. ap (item_at store) (omega arith))

  pub passing_occupied : (p : T → Bool) → AllByRecursion (IsOccupied store) (slots_passing p)
  passing_occupied p = occupied_passing p (item_at store) 0 store.slots (λ k. ap (item_at store) (omega arith))

  pub passing_more : {K : Type 0} (key : T → K) (test : K → Bool) (p : T → Bool) (found : Option ℕ) → IsOnlySlot key test store found → slots_with_found found (slots_passing p) ≡ slots_passing (λ x. cond (p x) true (test (key x)))
  passing_more key test p None only =
      sym (none_more p (λ x. test (key x)) 0 store.slots (λ k y there. fails_other key test store None only k y (λ e. cc) there))
  passing_more key test p (Some slot) only =
      let t = told (λ x. test (key x)) (item_at store slot) ((only slot).0 refl) in
      ap (λ s. slots_with s (slots_passing p)) (omega arith)
      ∙ sym (one_more p (λ x. test (key x)) 0 slot t.0 store.slots t.1 t.2 (λ j z e there. fails_other key test store (Some slot) only j z (λ s. e (cc)) there))
