-- The order plays no part in what is found among items of different keys.
--     Tells, find_tells      what a search says of the elements
--     found_answers      what is found passes
--     differ_moved, find_moved      no two keys are equal, and one item is found, in any order
use Rattle.std.proofs.Common.{◌≡◌, zero, suc, Bool, true, false, cond, List, [], ◌∷◌, length, map, get_or, Option, Some, None, IfSome, refl, sym, ap, ◌∙◌, arith, find, subst, suc-le-suc}
use Rattle.std.proofs.Math.Nat.{le_of_suc-le-suc}
use Rattle.std.proofs.lemmas.List.{get_or_read}
use Rattle.std.proofs.lemmas.Option.{slice_get_read}
use Rattle.std.proofs.lemmas.List.Sorted.{All-permutation, Contains-permutation, IsPermutation-map}
use Rattle.std.proofs.lemmas.Map.Keys.{IsDistinct-IsPermutation}
use Rattle.std.specs.Cmp.{IsEquivalence}
use Rattle.std.specs.List.{Contains}
use Rattle.std.specs.List.Sorted.{IsPermutation}
use Rattle.iddqd_store.specs.Contents.{IsKeyTest, find_item, NoTwoAkin}
use Rattle.iddqd_store.proofs.ContentsLemmas.{NonePasses, only_place, find_at, find_none}

module _ {X : Type 0} (p : X → Bool) where
  -- what a search says: nothing passes, or it is an element that passes
  abbrev pub Tells : List X → Option X → Type 0
  Tells xs None = NonePasses p xs
  Tells xs (Some x) = Contains xs x × (p x ≡ true)

  later : (y : X) (xs : List X) → p y ≡ false → (o : Option X) → Tells xs o → Tells (y ∷ xs) o
  later y xs f None n = none
    where
      none : NonePasses p (y ∷ xs)
      none zero d h = f
      none (suc j) d h = n j d (le_of_suc-le-suc h)
  later y xs f (Some x) t = ((suc t.0.0, suc-le-suc t.0.1, t.0.2), t.1)

  first : (y : X) (xs : List X) (b : Bool) → p y ≡ b → Tells xs (find p xs) → Tells (y ∷ xs) (cond b (Some y) (find p xs))
  first y xs true e t = ((zero, omega arith, refl), e)
  first y xs false e t = later y xs e (find p xs) t

  pub find_tells : (xs : List X) → Tells xs (find p xs)
  find_tells [] = λ j d h. absurd (omega arith)
  find_tells (y ∷ xs) = first y xs (p y) refl (find_tells xs)

  pub found_answers : (xs : List X) (o : Option X) → o ≡ find p xs → IfSome o (λ x. p x ≡ true)
  found_answers xs None e = tt
  found_answers xs (Some x) e = (subst (Tells xs) (sym e) (find_tells xs)).1

pub differ_moved : {T K : Type 0} (key : T → K) {eq : K → K → Bool} → IsEquivalence eq → (xs ys : List T) → IsPermutation xs ys → NoTwoAkin key eq xs → NoTwoAkin key eq ys
differ_moved key {eq} equivalence xs ys moved differ = IsDistinct-IsPermutation eq equivalence.symm (map key xs) (map key ys) (IsPermutation-map key xs ys moved) differ

module _ {T K : Type 0} (key : T → K) {eq : K → K → Bool} (equivalence : IsEquivalence eq) (test : K → Bool) (tests : IsKeyTest eq test) (xs ys : List T) (moved : IsPermutation xs ys) (differ : NoTwoAkin key eq xs) where
  same : (o : Option T) → Tells (λ x. test (key x)) xs o → find_item key test ys ≡ o
  same None n = find_none (λ x. test (key x)) ys (λ j d h. All-permutation (λ x. test (key x) ≡ false) xs ys moved (λ k e l. n k e l) j d h)
  same (Some x) t =
      let there = Contains-permutation xs ys x moved t.0 in
      let at : (d : T) → get_or ys there.0 d ≡ x = λ d. sym (get_or_read ys there.0 x there.1 (sym there.2) d) in
      find_at (λ y. test (key y)) ys there.0 (only_place key equivalence test tests ys (differ_moved key equivalence xs ys moved differ) there.0 there.1 (λ d. ap (λ y. test (key y)) (at d) ∙ t.1)) ∙ slice_get_read ys (length ys) there.0 x refl there.1 (sym (at x))

  -- a query finds the same item in whatever order
  pub find_moved : find_item key test ys ≡ find_item key test xs
  find_moved = same (find_item key test xs) (find_tells (λ x. test (key x)) xs)
