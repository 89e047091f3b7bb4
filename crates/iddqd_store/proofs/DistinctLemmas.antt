-- Different elements stay different where one is put in, taken out or replaced.
--     absent_apart      a number that is not in a list differs from each there
--     distinct_insert, distinct_remove, distinct_set      ... where the element put in differs from each
--     distinct_alike      ... where it is equal to the one that it replaces
use Rattle.std.proofs.Common.{◌≡◌, ℕ, zero, suc, Bool, true, false, List, [], ◌∷◌, set, sym, ◌∙◌, arith, suc-le-suc, nat_eq}
use Rattle.std.proofs.lemmas.Bool.{ne_eqb}
use Rattle.std.specs.Cmp.{IsEquivalence}
use Rattle.std.specs.List.{AllByRecursion, Contains, HoldsAt, IsDistinct, insert, remove}

pub absent_apart : (slots : List ℕ) (slot : ℕ) → ¬ Contains slots slot → AllByRecursion (λ y. nat_eq slot y ≡ false) slots
absent_apart [] slot absent = tt
absent_apart (y ∷ ys) slot absent =
    (ne_eqb slot y (λ e. absent (zero, omega arith, sym e)), absent_apart ys slot (λ there. absent (suc there.0, suc-le-suc there.1, there.2)))

pub weaken : {K : Type 0} {P Q : K → Type 0} → ((y : K) → P y → Q y) → (ks : List K) → AllByRecursion P ks → AllByRecursion Q ks
weaken f [] a = tt
weaken f (k ∷ ks) a = (f k a.0, weaken f ks a.1)

module _ {X : Type 0} (P : X → Type 0) where
  pub all_insert : (xs : List X) (i : ℕ) (x : X) → P x → AllByRecursion P xs → AllByRecursion P (insert xs i x)
  all_insert xs zero x p all = (p, all)
  all_insert [] (suc i) x p all = (p, tt)
  all_insert (y ∷ ys) (suc i) x p all = (all.0, all_insert ys i x p all.1)

  all_remove : (xs : List X) (i : ℕ) → AllByRecursion P xs → AllByRecursion P (remove xs i)
  all_remove [] zero all = tt
  all_remove [] (suc i) all = tt
  all_remove (y ∷ ys) zero all = all.1
  all_remove (y ∷ ys) (suc i) all = (all.0, all_remove ys i all.1)

  all_set : (xs : List X) (i : ℕ) (x : X) → P x → AllByRecursion P xs → AllByRecursion P (set xs i x)
  all_set [] i x p all = tt
  all_set (y ∷ ys) zero x p all = (p, all.1)
  all_set (y ∷ ys) (suc i) x p all = (all.0, all_set ys i x p all.1)

module _ {K : Type 0} (eq : K → K → Bool) where
  pub distinct_remove : (xs : List K) (i : ℕ) → IsDistinct eq xs → IsDistinct eq (remove xs i)
  unfolding IsDistinct
  distinct_remove [] zero d = tt
  distinct_remove [] (suc i) d = tt
  distinct_remove (y ∷ ys) zero d = d.1
  distinct_remove (y ∷ ys) (suc i) d = (all_remove (λ z. eq y z ≡ false) ys i d.0, distinct_remove ys i d.1)

  -- one more that differs from each, and one in the place of another
  module _ (flips : (x y : K) → eq x y ≡ eq y x) (x : K) where
    pub distinct_insert : (xs : List K) (i : ℕ) → AllByRecursion (λ y. eq x y ≡ false) xs → IsDistinct eq xs → IsDistinct eq (insert xs i x)
    unfolding IsDistinct
    distinct_insert xs zero apart d = (apart, d)
    distinct_insert [] (suc i) apart d = (tt, tt)
    distinct_insert (y ∷ ys) (suc i) apart d = (all_insert (λ z. eq y z ≡ false) ys i x (flips y x ∙ apart.0) d.0, distinct_insert ys i apart.1 d.1)

    pub distinct_set : (xs : List K) (i : ℕ) → AllByRecursion (λ y. eq x y ≡ false) xs → IsDistinct eq xs → IsDistinct eq (set xs i x)
    unfolding IsDistinct
    distinct_set [] i apart d = tt
    distinct_set (y ∷ ys) zero apart d = (apart.1, d.1)
    distinct_set (y ∷ ys) (suc i) apart d = (all_set (λ z. eq y z ≡ false) ys i x (flips y x ∙ apart.0) d.0, distinct_set ys i apart.1 d.1)

-- an element in the place of one that it is equal to
module _ {K : Type 0} {eq : K → K → Bool} (equivalence : IsEquivalence eq) (x : K) where
  apart_alike : (z : K) (xs : List K) (i : ℕ) → HoldsAt (λ y. eq x y ≡ true) xs i → AllByRecursion (λ y. eq z y ≡ false) xs → AllByRecursion (λ y. eq z y ≡ false) (set xs i x)
  apart_alike z [] i alike all = tt
  apart_alike z (y ∷ ys) zero alike all = (equivalence.symm z x ∙ (equivalence.congr x y z (alike y) ∙ (equivalence.symm y z ∙ all.0)), all.1)
  apart_alike z (y ∷ ys) (suc i) alike all = (all.0, apart_alike z ys i alike all.1)

  pub distinct_alike : (xs : List K) (i : ℕ) → HoldsAt (λ y. eq x y ≡ true) xs i → IsDistinct eq xs → IsDistinct eq (set xs i x)
  unfolding IsDistinct
  distinct_alike [] i alike d = tt
  distinct_alike (y ∷ ys) zero alike d = (weaken (λ z apart. equivalence.congr x y z (alike y) ∙ apart) ys d.0, d.1)
  distinct_alike (y ∷ ys) (suc i) alike d = (apart_alike y ys i alike d.0, distinct_alike ys i alike d.1)
