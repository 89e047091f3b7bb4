-- Laws of a list of items of different keys: what is found is one item, and what it is to take it out, replace it or add one.
--     IsOnlyPlace p xs i      of the elements, that at i alone passes p
--     find_at, filter_at, map_at      what the search, the removal and the replacement give there
--     find_none, filter_none, map_none      the same where none passes
--     only_place      where the keys differ, the test of a query passes at one place at most
use Rattle.std.proofs.Common.{◌≡◌, ℕ, zero, suc, ◌<◌, ◌≢◌, ⊎_elim, Bool, true, false, cond, not, List, [], ◌∷◌, length, map, get_or, set, suc-le-suc, None, refl, ap, ◌∙◌, arith, filter, find}
use Rattle.std.proofs.Math.Nat.{le_of_suc-le-suc}
use Rattle.std.proofs.lemmas.Bool.{cases_lt}
use Rattle.std.proofs.lemmas.List.{get_or-map, length-map}
use Rattle.std.proofs.lemmas.Map.Keys.{apart_from_distinct}
use Rattle.std.specs.Cmp.{IsEquivalence}
use Rattle.std.specs.List.{remove, slice_get}
use Rattle.iddqd_store.specs.Contents.{IsKeyTest, NoTwoAkin}

pub record IsOnlyPlace {X : Type 0} (p : X → Bool) (xs : List X) (i : ℕ) : Type 0 where
  pub within : i < length xs
  pub here : (d : X) → p (get_or xs i d) ≡ true
  pub elsewhere : (j : ℕ) (d : X) → j < length xs → j ≢ i → p (get_or xs j d) ≡ false

module _ {X : Type 0} (p : X → Bool) where
  abbrev pub NonePasses : List X → Type 0
  NonePasses xs = (j : ℕ) (d : X) → j < length xs → p (get_or xs j d) ≡ false

  tail_none : (x : X) (xs : List X) → NonePasses (x ∷ xs) → NonePasses xs
  tail_none x xs n j d h = n (suc j) d (suc-le-suc h)

  pub find_none : (xs : List X) → NonePasses xs → find p xs ≡ None
  find_none [] n = refl
  find_none (x ∷ xs) n = rw (n 0 x (omega arith)) (find_none xs (tail_none x xs n))

  pub filter_none : (xs : List X) → NonePasses xs → filter (λ x. not (p x)) xs ≡ xs
  filter_none [] n = refl
  filter_none (x ∷ xs) n = rw (n 0 x (omega arith)) (ap (λ ys. x ∷ ys) (filter_none xs (tail_none x xs n)))

  pub map_none : (y : X) (xs : List X) → NonePasses xs → map (λ x. cond (p x) y x) xs ≡ xs
  map_none y [] n = refl
  map_none y (x ∷ xs) n = rw (n 0 x (omega arith)) (ap (λ ys. x ∷ ys) (map_none y xs (tail_none x xs n)))

  behind_first : (x : X) (xs : List X) → IsOnlyPlace p (x ∷ xs) zero → NonePasses xs
  behind_first x xs o j d h = o.elsewhere (suc j) d (suc-le-suc h) (omega arith)

  only_tail : (x : X) (xs : List X) (i : ℕ) → IsOnlyPlace p (x ∷ xs) (suc i) → IsOnlyPlace p xs i
  only_tail x xs i o = record {
    within = le_of_suc-le-suc o.within;
    here = o.here;
    elsewhere = λ j d h n. o.elsewhere (suc j) d (suc-le-suc h) (λ e. n (omega arith));
  }

  first_fails : (x : X) (xs : List X) (i : ℕ) → IsOnlyPlace p (x ∷ xs) (suc i) → p x ≡ false
  first_fails x xs i o = o.elsewhere zero x (omega arith) (omega arith)

  pub find_at : (xs : List X) (i : ℕ) → IsOnlyPlace p xs i → find p xs ≡ slice_get xs i
  find_at [] i o = refl
  find_at (x ∷ xs) zero o = rw (o.here x) refl
  find_at (x ∷ xs) (suc i) o = rw (first_fails x xs i o) (find_at xs i (only_tail x xs i o))

  pub filter_at : (xs : List X) (i : ℕ) → IsOnlyPlace p xs i → filter (λ x. not (p x)) xs ≡ remove xs i
  filter_at [] i o = absurd (omega (arith, o.within))
  filter_at (x ∷ xs) zero o = rw (o.here x) (filter_none xs (behind_first x xs o))
  filter_at (x ∷ xs) (suc i) o = rw (first_fails x xs i o) (ap (λ ys. x ∷ ys) (filter_at xs i (only_tail x xs i o)))

  pub map_at : (y : X) (xs : List X) (i : ℕ) → IsOnlyPlace p xs i → map (λ x. cond (p x) y x) xs ≡ set xs i y
  map_at y [] i o = absurd (omega (arith, o.within))
  map_at y (x ∷ xs) zero o = rw (o.here x) (ap (λ ys. y ∷ ys) (map_none y xs (behind_first x xs o)))
  map_at y (x ∷ xs) (suc i) o = rw (first_fails x xs i o) (ap (λ ys. x ∷ ys) (map_at y xs i (only_tail x xs i o)))

module _ {T K : Type 0} (key : T → K) {eq : K → K → Bool} (equivalence : IsEquivalence eq) (test : K → Bool) (tests : IsKeyTest eq test) (items : List T) (differ : NoTwoAkin key eq items) where
  apart : (i j : ℕ) (d : T) → i < j → j < length items → eq (key (get_or items i d)) (key (get_or items j d)) ≡ false
  apart i j d l h =
      let e = apart_from_distinct eq (map key items) i j (key d) differ l (omega (arith, length-map items key)) in
      rw (← get_or-map key items i d (key d) (omega arith), ← get_or-map key items j d (key d) h) e

  differs : (i j : ℕ) (d : T) → i < length items → j < length items → j ≢ i → eq (key (get_or items i d)) (key (get_or items j d)) ≡ false
  differs i j d h k n = ⊎_elim
      (λ l. apart i j d l k)
      (λ l. equivalence.symm _ _ ∙ apart j i d (omega arith) h)
      (cases_lt i j)

  -- the place of an item whose key passes the test is the only one
  pub only_place : (i : ℕ) → i < length items → ((d : T) → test (key (get_or items i d)) ≡ true) → IsOnlyPlace (λ x. test (key x)) items i
  only_place i h at = record {
    within = h;
    here = at;
    elsewhere = λ j d k n. tests (key (get_or items i d)) (key (get_or items j d)) (at d) ∙ differs i j d h k n;
  }
