-- What a slot whose item's key passes a test says of the items: the search and the removal.
--     found_passes      what is found passes
--     without_absent, replaced_absent      where nothing is found nothing is taken out, and nothing replaced
--     item_absent      no slot's item passes, and so none is found
--     item_found      the item of the slot is the one that is found
--     item_taken      what the items are without it
--     differ_taken, differ_added      their keys differ still
--     same_numbers      the numbers of the occupied slots do not look at the items
use Rattle.std.proofs.Common.{◌≡◌, ◌≢◌, ℕ, zero, suc, Bool, true, false, cond, not, List, [], ◌∷◌, get_or, Option, Some, None, is_some, refl, sym, ap, ◌∙◌, true≢false, subst}
use Rattle.std.proofs.lemmas.Option.{get_or_from_slice_get, slice_get_within}
use Rattle.std.specs.Cmp.{IsEquivalence}
use Rattle.iddqd_store.specs.Contents.{AddsItem, IsAbsent, IsKeyTest, NoTwoAkin, find_item, items_overwritten, items_without}
use Rattle.iddqd_store.proofs.ContentsLemmas.{IsOnlyPlace, only_place, find_at, filter_at}
use Rattle.iddqd_store.proofs.KeepsLemmas.{differ_filter, differ_insert}
use Rattle.iddqd_store.proofs.OrderLemmas.{Tells, find_tells}
use Rattle.iddqd_hash_parts.specs.StoreAndIndex.{numbers_of}
use Rattle.iddqd_hash_parts.proofs.SlotItemLemmas.{PlaceOf, at, items_of, place_of}

module _ {T K : Type 0} (key : T → K) where
  -- what is found passes, and where nothing is found nothing is taken out
  pub found_passes : (test : K → Bool) (items : List T) (x : T) → find_item key test items ≡ Some x → test (key x) ≡ true
  found_passes test items x found = (subst (Tells (λ y. test (key y)) items) found (find_tells (λ y. test (key y)) items)).1

  pub without_absent : (test : K → Bool) (items : List T) → IsAbsent key test items → items ≡ items_without key test items
  without_absent test [] absent = refl
  without_absent test (y ∷ ys) absent = by (test (key y)) refl (without_absent test ys)
    where
      by : (b : Bool) → test (key y) ≡ b → (IsAbsent key test ys → ys ≡ items_without key test ys) → y ∷ ys ≡ items_without key test (y ∷ ys)
      by true e rest = (let first = sym (ap (λ b. cond b (Some y) (find_item key test ys)) e) ∙ absent in cc)
      by false e rest = rw e (ap (λ zs. y ∷ zs) (rest (sym (ap (λ b. cond b (Some y) (find_item key test ys)) e) ∙ absent)))

  pub replaced_absent : (test : K → Bool) (y : T) (items : List T) → IsAbsent key test items → items ≡ items_overwritten key test y items
  replaced_absent test y [] absent = refl
  replaced_absent test y (z ∷ zs) absent = by (test (key z)) refl (replaced_absent test y zs)
    where
      by : (b : Bool) → test (key z) ≡ b → (IsAbsent key test zs → zs ≡ items_overwritten key test y zs) → z ∷ zs ≡ items_overwritten key test y (z ∷ zs)
      by true e rest = (let first = sym (ap (λ b. cond b (Some z) (find_item key test zs)) e) ∙ absent in cc)
      by false e rest = rw e (ap (λ vs. z ∷ vs) (rest (sym (ap (λ b. cond b (Some z) (find_item key test zs)) e) ∙ absent)))

  pub item_absent : (test : K → Bool) (slots : List (Option T)) → ((slot : ℕ) (x : T) → at slots slot ≡ Some x → test (key x) ≡ false) → IsAbsent key test (items_of slots)
  item_absent test [] none = refl
  item_absent test (None ∷ slots) none = item_absent test slots (λ slot. none (suc slot))
  item_absent test (Some y ∷ slots) none = rw (none zero y refl) (item_absent test slots (λ slot. none (suc slot)))

  module _ {eq : K → K → Bool} (equivalence : IsEquivalence eq) (test : K → Bool) (tests : IsKeyTest eq test) (old new : List (Option T)) (differ : NoTwoAkin key eq (items_of old)) (slot : ℕ) (x : T) (there : at old slot ≡ Some x) (passes : test (key x) ≡ true) (others : (other : ℕ) → other ≢ slot → at new other ≡ at old other) where
    placed : PlaceOf old new slot x
    placed = place_of old new slot x there others

    read : (d : T) → get_or (items_of old) placed.place d ≡ x
    read d = get_or_from_slice_get (items_of old) placed.place x d placed.there

    only : IsOnlyPlace (λ y. test (key y)) (items_of old) placed.place
    only = only_place key equivalence test tests (items_of old) differ placed.place (slice_get_within (items_of old) placed.place x placed.there) (λ d. ap (λ y. test (key y)) (read d) ∙ passes)

    pub item_found : find_item key test (items_of old) ≡ Some x
    item_found = find_at (λ y. test (key y)) (items_of old) placed.place only ∙ placed.there

    pub item_taken : at new slot ≡ None → items_of new ≡ items_without key test (items_of old)
    item_taken none = placed.removed none ∙ sym (filter_at (λ y. test (key y)) (items_of old) placed.place only)

    pub differ_taken : at new slot ≡ None → NoTwoAkin key eq (items_of new)
    differ_taken none = subst (NoTwoAkin key eq) (sym (item_taken none)) (differ_filter key eq (λ y. not (test (key y))) (items_of old) differ)

  pub differ_added : {eq : K → K → Bool} → IsEquivalence eq → (x : T) (old new : List T) → AddsItem x old new → IsAbsent key (eq (key x)) old → NoTwoAkin key eq old → NoTwoAkin key eq new
  differ_added {eq} equivalence x old new adds absent differ =
      subst (NoTwoAkin key eq) (sym adds.put) (differ_insert key equivalence x old adds.place absent differ)

  pub same_numbers : (number : ℕ → ℕ) (xs ys : List (Option T)) → ((slot : ℕ) → is_some (at xs slot) ≡ is_some (at ys slot)) → numbers_of number xs ≡ numbers_of number ys
  same_numbers number [] [] same = refl
  same_numbers number [] (None ∷ ys) same = same_numbers (λ s. number (suc s)) [] ys (λ slot. same (suc slot))
  same_numbers number [] (Some y ∷ ys) same = absurd (true≢false (sym (same zero)))
  same_numbers number (None ∷ xs) [] same = same_numbers (λ s. number (suc s)) xs [] (λ slot. same (suc slot))
  same_numbers number (Some x ∷ xs) [] same = absurd (true≢false (same zero))
  same_numbers number (None ∷ xs) (None ∷ ys) same = same_numbers (λ s. number (suc s)) xs ys (λ slot. same (suc slot))
  same_numbers number (None ∷ xs) (Some y ∷ ys) same = absurd (true≢false (sym (same zero)))
  same_numbers number (Some x ∷ xs) (None ∷ ys) same = absurd (true≢false (same zero))
  same_numbers number (Some x ∷ xs) (Some y ∷ ys) same = ap (λ ns. number 0 ∷ ns) (same_numbers (λ s. number (suc s)) xs ys (λ slot. same (suc slot)))
