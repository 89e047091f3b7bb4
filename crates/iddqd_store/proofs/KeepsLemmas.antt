-- Adding an item at its place, replacing one by an item of an equal key, and taking items out leave the items in order, and their keys different.
use Rattle.std.proofs.Common.{◌≡◌, ℕ, zero, suc, ◌<◌, ◌≤◌, Bool, true, false, cond, List, [], ◌∷◌, length, map, set, Option, Some, None, refl, ap, ◌∙◌, arith, Ordering, Less, Equal, Greater, filter, suc-le-suc}
use Rattle.std.proofs.Math.Nat.{le_of_suc-le-suc}
use Rattle.std.proofs.lemmas.Cmp.{alike_right}
use Rattle.std.proofs.lemmas.List.{map-set}
use Rattle.std.specs.Cmp.{IsEquivalence, IsTotalOrder}
use Rattle.std.specs.List.{AllByRecursion, AllWithin, HoldsAt, IsDistinct, insert, remove}
use Rattle.std.specs.List.Sorted.{IsStrictlySortedBy}
use Rattle.std.specs.Ordering.{ordering_reverse}
use Rattle.iddqd_store.specs.Contents.{find_item, IsAbsent, Ascends, NoTwoAkin}
use Rattle.iddqd_store.proofs.MappedLemmas.{insert-map}
use Rattle.iddqd_store.proofs.DistinctLemmas.{weaken, all_insert, distinct_insert, distinct_alike}

absent_first : {T : Type 0} (b : Bool) (y : T) (o : Option T) → cond b (Some y) o ≡ None → (b ≡ false) × (o ≡ None)
absent_first true y o e = cc
absent_first false y o e = (refl, e)

module _ {T K : Type 0} (key : T → K) where
  all_filter : (P : K → Type 0) (p : T → Bool) (items : List T) → AllByRecursion P (map key items) → AllByRecursion P (map key (filter p items))
  all_filter P p [] a = tt
  all_filter P p (y ∷ ys) a =
      let rest = all_filter P p ys a.1 in
      elim (p y) as (λ b. AllByRecursion P (map key (cond b (y ∷ filter p ys) (filter p ys)))) [ true ↦ (a.0, rest) | false ↦ rest ]

  -- what is left has different keys
  pub differ_filter : (eq : K → K → Bool) (p : T → Bool) (items : List T) → NoTwoAkin key eq items → NoTwoAkin key eq (filter p items)
  unfolding IsDistinct
  differ_filter eq p [] d = tt
  differ_filter eq p (y ∷ ys) d =
      let rest = differ_filter eq p ys d.1 in
      elim (p y) as (λ b. NoTwoAkin key eq (cond b (y ∷ filter p ys) (filter p ys))) [ true ↦ (all_filter (λ k. eq (key y) k ≡ false) p ys d.0, rest) | false ↦ rest ]

  module _ {eq : K → K → Bool} (equivalence : IsEquivalence eq) (x : T) where
    absent_differs : (items : List T) → IsAbsent key (eq (key x)) items → AllByRecursion (λ k. eq (key x) k ≡ false) (map key items)
    absent_differs [] absent = tt
    absent_differs (y ∷ ys) absent =
        let h = absent_first (eq (key x) (key y)) y (find_item key (eq (key x)) ys) absent in
        (h.0, absent_differs ys h.1)

    -- one more item, whose key no other has
    pub differ_insert : (items : List T) (i : ℕ) → IsAbsent key (eq (key x)) items → NoTwoAkin key eq items → NoTwoAkin key eq (insert items i x)
    differ_insert items i absent d = rw (insert-map key items i x) (distinct_insert eq equivalence.symm (key x) (map key items) i (absent_differs items absent) d)

    -- x takes the place of an item of an equal key
    pub differ_set : (items : List T) (i : ℕ) → HoldsAt (λ k. eq (key x) k ≡ true) (map key items) i → NoTwoAkin key eq items → NoTwoAkin key eq (set items i x)
    differ_set items i alike d = rw (map-set key items i x) (distinct_alike equivalence (key x) (map key items) i alike d)

  -- what is left ascends
  pub ascends_filter : (cmp : K → K → Ordering) (p : T → Bool) (items : List T) → Ascends key cmp items → Ascends key cmp (filter p items)
  unfolding IsStrictlySortedBy
  ascends_filter cmp p [] s = tt
  ascends_filter cmp p (y ∷ ys) s =
      let rest = ascends_filter cmp p ys s.1 in
      elim (p y) as (λ b. Ascends key cmp (cond b (y ∷ filter p ys) (filter p ys))) [ true ↦ (all_filter (λ k. cmp (key y) k ≡ Less) p ys s.0, rest) | false ↦ rest ]

  all_removed : (P : K → Type 0) (items : List T) (i : ℕ) → AllByRecursion P (map key items) → AllByRecursion P (map key (remove items i))
  all_removed P [] zero a = tt
  all_removed P [] (suc i) a = tt
  all_removed P (y ∷ ys) zero a = a.1
  all_removed P (y ∷ ys) (suc i) a = (a.0, all_removed P ys i a.1)

  -- the others ascend
  pub ascends_remove : (cmp : K → K → Ordering) (items : List T) (i : ℕ) → Ascends key cmp items → Ascends key cmp (remove items i)
  unfolding IsStrictlySortedBy
  ascends_remove cmp [] zero s = tt
  ascends_remove cmp [] (suc i) s = tt
  ascends_remove cmp (y ∷ ys) zero s = s.1
  ascends_remove cmp (y ∷ ys) (suc i) s = (all_removed (λ k. cmp (key y) k ≡ Less) ys i s.0, ascends_remove cmp ys i s.1)

  module _ {cmp : K → K → Ordering} (o : IsTotalOrder cmp) (x : T) where
    -- x goes in at the place where its key belongs
    pub ascends_insert : (items : List T) (i : ℕ) → Ascends key cmp items → i ≤ length (map key items) → AllWithin (λ k. cmp (key x) k ≡ Greater) (map key items) 0 i → AllWithin (λ k. cmp (key x) k ≡ Less) (map key items) i (length (map key items)) → Ascends key cmp (insert items i x)
    unfolding IsStrictlySortedBy
    ascends_insert [] zero s h above below = (tt, tt)
    ascends_insert [] (suc i) s h above below = absurd (omega arith)
    ascends_insert (y ∷ ys) zero s h above below =
        let first : cmp (key x) (key y) ≡ Less = below zero (key y) (omega arith) (omega arith) in
        ((first, weaken (λ k l. o.trans (key x) (key y) k first l) (map key ys) s.0), s)
    ascends_insert (y ∷ ys) (suc i) s h above below =
        let first : cmp (key y) (key x) ≡ Less = o.antisymm (key y) (key x) ∙ ap ordering_reverse (above zero (key y) (omega arith) (omega arith)) in
        (rw (insert-map key ys i x) (all_insert (λ k. cmp (key y) k ≡ Less) (map key ys) i (key x) first s.0), ascends_insert ys i s.1 (le_of_suc-le-suc h) (λ k d a b. above (suc k) d (omega arith) (suc-le-suc b)) (λ k d a b. below (suc k) d (suc-le-suc a) (suc-le-suc b)))

    all_set : (z : K) (items : List T) (i : ℕ) → HoldsAt (λ k. cmp (key x) k ≡ Equal) (map key items) i → i < length items → AllByRecursion (λ k. cmp z k ≡ Less) (map key items) → AllByRecursion (λ k. cmp z k ≡ Less) (map key (set items i x))
    all_set z [] i e h a = absurd (omega arith)
    all_set z (y ∷ ys) zero e h a = (alike_right o (key x) (key y) z (e (key y)) ∙ a.0, a.1)
    all_set z (y ∷ ys) (suc i) e h a = (a.0, all_set z ys i e (le_of_suc-le-suc h) a.1)

    -- x takes the place of an item of an equal key
    pub ascends_set : (items : List T) (i : ℕ) → Ascends key cmp items → i < length items → HoldsAt (λ k. cmp (key x) k ≡ Equal) (map key items) i → Ascends key cmp (set items i x)
    unfolding IsStrictlySortedBy
    ascends_set [] i s h e = absurd (omega arith)
    ascends_set (y ∷ ys) zero s h e = (weaken (λ k l. o.congr (key x) (key y) k (e (key y)) ∙ l) (map key ys) s.0, s.1)
    ascends_set (y ∷ ys) (suc i) s h e = (all_set (key y) ys i e (le_of_suc-le-suc h) s.0, ascends_set ys i s.1 (le_of_suc-le-suc h) e)
