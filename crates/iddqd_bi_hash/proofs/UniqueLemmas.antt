-- The item that passes a test of both keys: the one that the first test finds, if it passes the second.
--     both_found, both_absent, first_is_both      what the search by both says of the search by the first
use Rattle.std.proofs.Common.{◌≡◌, Bool, true, false, cond, not, List, [], ◌∷◌, map, filter, find, Some, None, is_some, refl, sym, ap, ◌∙◌, true≢false}
use Rattle.std.specs.List.{AllByRecursion, IsDistinct}
use Rattle.std.specs.Option.{option_and_then}
use Rattle.iddqd_store.specs.Contents.{IsAbsent, IsKeyTest, NoTwoAkin, find_item, items_without}
use Rattle.iddqd_bi_hash.specs.TwoKeys.{find_by_both, items_without_both}
use Rattle.iddqd_hash_parts.proofs.FoundLemmas.{without_absent}

module _ {T K L : Type 0} (key1 : T → K) (key2 : T → L) {eq : K → K → Bool} (test1 : K → Bool) (tests : IsKeyTest eq test1) (test2 : L → Bool) where
  abbrev r : T → Bool
  r x = cond (test1 (key1 x)) (test2 (key2 x)) false

  abbrev Agree : List T → Type 0
  Agree xs = find_by_both key1 key2 test1 test2 xs ≡ option_and_then (λ x. cond (test2 (key2 x)) (Some x) None) (find_item key1 test1 xs)

  none_both : (xs : List T) → IsAbsent key1 test1 xs → find_by_both key1 key2 test1 test2 xs ≡ None
  none_both [] none = refl
  none_both (y ∷ ys) none = by (test1 (key1 y)) refl (none_both ys)
    where
      by : (b : Bool) → test1 (key1 y) ≡ b → (IsAbsent key1 test1 ys → find_by_both key1 key2 test1 test2 ys ≡ None) → find_by_both key1 key2 test1 test2 (y ∷ ys) ≡ None
      by true e rest = (let first = sym (ap (λ b. cond b (Some y) (find_item key1 test1 ys)) e) ∙ none in cc)
      by false e rest = rw e (rest (sym (ap (λ b. cond b (Some y) (find_item key1 test1 ys)) e) ∙ none))

  rest_absent : (y : T) (ys : List T) → test1 (key1 y) ≡ true → AllByRecursion (λ k. eq (key1 y) k ≡ false) (map key1 ys) → IsAbsent key1 test1 ys
  rest_absent y [] passes apart = refl
  rest_absent y (z ∷ zs) passes apart = rw (tests (key1 y) (key1 z) passes ∙ apart.0) (rest_absent y zs passes apart.1)

  pub both_found : (xs : List T) → NoTwoAkin key1 eq xs → find_by_both key1 key2 test1 test2 xs ≡ option_and_then (λ x. cond (test2 (key2 x)) (Some x) None) (find_item key1 test1 xs)
  unfolding IsDistinct
  both_found [] differ = refl
  both_found (y ∷ ys) differ = by (test1 (key1 y)) (test2 (key2 y)) refl refl (both_found ys differ.1)
    where
      by : (a b : Bool) → test1 (key1 y) ≡ a → test2 (key2 y) ≡ b → Agree ys → Agree (y ∷ ys)
      by true true e f rest = rw (e, f) refl
      by true false e f rest = rw (e, f) (none_both ys (rest_absent y ys e differ.0))
      by false b e f rest = rw e rest

  -- where none passes both, none goes
  pub both_absent : (xs : List T) → find_by_both key1 key2 test1 test2 xs ≡ None → xs ≡ items_without_both key1 key2 test1 test2 xs
  both_absent xs none = without_absent (λ x. x) (λ x. cond (test1 (key1 x)) (test2 (key2 x)) false) xs none

  none_passes : (ys : List T) → IsAbsent key1 test1 ys → items_without key1 test1 ys ≡ items_without_both key1 key2 test1 test2 ys
  none_passes ys none = sym (without_absent key1 test1 ys none) ∙ both_absent ys (none_both ys none)

  -- where one passes both, it is the only one that passes the first
  pub first_is_both : (xs : List T) → NoTwoAkin key1 eq xs → is_some (find_by_both key1 key2 test1 test2 xs) ≡ true → items_without key1 test1 xs ≡ items_without_both key1 key2 test1 test2 xs
  unfolding IsDistinct
  first_is_both [] differ some = refl
  first_is_both (y ∷ ys) differ some = by (test1 (key1 y)) (test2 (key2 y)) refl refl (first_is_both ys differ.1)
    where
      behind : r y ≡ false → is_some (find r ys) ≡ true
      behind e = sym (ap (λ b. is_some (cond b (Some y) (find r ys))) e) ∙ some

      by : (a b : Bool) → test1 (key1 y) ≡ a → test2 (key2 y) ≡ b → (is_some (find r ys) ≡ true → items_without key1 test1 ys ≡ filter (λ x. not (r x)) ys) → items_without key1 test1 (y ∷ ys) ≡ filter (λ x. not (r x)) (y ∷ ys)
      by true true e f rest = rw (e, f) (none_passes ys (rest_absent y ys e differ.0))
      by true false e f rest = absurd (true≢false (sym (behind (rw e f)) ∙ ap is_some (none_both ys (rest_absent y ys e differ.0))))
      by false b e f rest = rw e (ap (λ zs. y ∷ zs) (rest (behind (rw e refl))))
