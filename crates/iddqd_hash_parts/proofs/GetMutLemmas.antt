-- What a write to the item of a slot leaves in a hash map: of its store, and of the items, their slots and their hashes.
--     Rises      the number of a later slot is greater
--     item_in_slot      the item of a slot is what the store has there
--     items_lent, numbers_lent      the items and their numbers after the write
--     others_left      the items but for the slot's
--     told_in_slot      what is told of each slot, at one that is occupied
--     keyed_written, keyed_akin_written, hash_key_kept      a write under an equal key leaves the map keyed
use Rattle.std.proofs.Common.{◌≡◌, ℕ, zero, suc, ◌<◌, Bool, true, List, [], ◌∷◌, set, Option, Some, None, is_some, refl, sym, ap, ◌∙◌, arith, subst, true≢false}
use Rattle.std.proofs.lemmas.Bool.{eq-eqb, ne_eqb}
use Rattle.std.specs.Cmp.{IsEquivalence}
use Rattle.std.specs.Hash.{HashWrites}
use Rattle.std.specs.List.{IsDistinct}
use Rattle.iddqd_store.specs.SlotItems.{item_of_slot, without_slot, written_to_slot}
use Rattle.iddqd_store.proofs.WrittenLemmas.{akin_keys_differ, keys_written}
use Rattle.iddqd_hash_parts.specs.HashItems.{HashItems, IsKeyed, KeyedItems}
use Rattle.iddqd_hash_parts.specs.StoreAndIndex.{numbers_of}
use Rattle.iddqd_hash_parts.proofs.SlotItemLemmas.{at, items_of}

abbrev pub Rises : (ℕ → ℕ) → Type 0
Rises number = (s t : ℕ) → s < t → number s < number t

pub rises_on : (number : ℕ → ℕ) → Rises number → Rises (λ s. number (suc s))
rises_on number rises s t h = rises (suc s) (suc t) (omega arith)

module _ {T : Type 0} where
  -- a number below those of all slots has no item
  none_below : (number : ℕ → ℕ) (xs : List (Option T)) (n : ℕ) → ((s : ℕ) → n < number s) → item_of_slot (numbers_of number xs) (items_of xs) n ≡ None
  none_below number [] n below = refl
  none_below number (None ∷ xs) n below = none_below (λ s. number (suc s)) xs n (λ s. below (suc s))
  none_below number (Some x ∷ xs) n below =
      rw (ne_eqb (number 0) n (λ e. (let h = below 0 in omega arith))) (none_below (λ s. number (suc s)) xs n (λ s. below (suc s)))

  pub item_numbered : (number : ℕ → ℕ) → Rises number → (xs : List (Option T)) (slot : ℕ) → item_of_slot (numbers_of number xs) (items_of xs) (number slot) ≡ at xs slot
  item_numbered number rises [] slot = refl
  item_numbered number rises (None ∷ xs) zero = none_below (λ s. number (suc s)) xs (number 0) (λ s. rises 0 (suc s) (omega arith))
  item_numbered number rises (None ∷ xs) (suc slot) = item_numbered (λ s. number (suc s)) (rises_on number rises) xs slot
  item_numbered number rises (Some x ∷ xs) zero = rw (eq-eqb (number 0) (number 0) refl) refl
  item_numbered number rises (Some x ∷ xs) (suc slot) =
      rw (ne_eqb (number 0) (number (suc slot)) (λ e. (let h = rises 0 (suc slot) (omega arith) in omega arith))) (item_numbered (λ s. number (suc s)) (rises_on number rises) xs slot)

  pub items_numbered : (number : ℕ → ℕ) → Rises number → (xs : List (Option T)) (slot : ℕ) (w : T) → is_some (at xs slot) ≡ true → items_of (set xs slot (Some w)) ≡ written_to_slot (numbers_of number xs) (items_of xs) (number slot) w
  items_numbered number rises [] slot w some = absurd (true≢false (sym some))
  items_numbered number rises (None ∷ xs) zero w some = absurd (true≢false (sym some))
  items_numbered number rises (None ∷ xs) (suc slot) w some = items_numbered (λ s. number (suc s)) (rises_on number rises) xs slot w some
  items_numbered number rises (Some x ∷ xs) zero w some = rw (eq-eqb (number 0) (number 0) refl) refl
  items_numbered number rises (Some x ∷ xs) (suc slot) w some =
      rw (ne_eqb (number 0) (number (suc slot)) (λ e. (let h = rises 0 (suc slot) (omega arith) in omega arith))) (ap (λ ys. x ∷ ys) (items_numbered (λ s. number (suc s)) (rises_on number rises) xs slot w some))

  others_numbered : (number : ℕ → ℕ) → Rises number → (xs : List (Option T)) (slot : ℕ) → is_some (at xs slot) ≡ true → items_of (set xs slot None) ≡ without_slot (numbers_of number xs) (items_of xs) (number slot)
  others_numbered number rises [] slot some = absurd (true≢false (sym some))
  others_numbered number rises (None ∷ xs) zero some = absurd (true≢false (sym some))
  others_numbered number rises (None ∷ xs) (suc slot) some = others_numbered (λ s. number (suc s)) (rises_on number rises) xs slot some
  others_numbered number rises (Some x ∷ xs) zero some = rw (eq-eqb (number 0) (number 0) refl) refl
  others_numbered number rises (Some x ∷ xs) (suc slot) some =
      rw (ne_eqb (number 0) (number (suc slot)) (λ e. (let h = rises 0 (suc slot) (omega arith) in omega arith))) (ap (λ ys. x ∷ ys) (others_numbered (λ s. number (suc s)) (rises_on number rises) xs slot some))

  told_numbered : (number tell : ℕ → ℕ) → Rises number → (xs : List (Option T)) (slot : ℕ) → is_some (at xs slot) ≡ true → item_of_slot (numbers_of number xs) (numbers_of tell xs) (number slot) ≡ Some (tell slot)
  told_numbered number tell rises [] slot some = absurd (true≢false (sym some))
  told_numbered number tell rises (None ∷ xs) zero some = absurd (true≢false (sym some))
  told_numbered number tell rises (None ∷ xs) (suc slot) some = told_numbered (λ s. number (suc s)) (λ s. tell (suc s)) (rises_on number rises) xs slot some
  told_numbered number tell rises (Some x ∷ xs) zero some = rw (eq-eqb (number 0) (number 0) refl) refl
  told_numbered number tell rises (Some x ∷ xs) (suc slot) some =
      rw (ne_eqb (number 0) (number (suc slot)) (λ e. (let h = rises 0 (suc slot) (omega arith) in omega arith))) (told_numbered (λ s. number (suc s)) (λ s. tell (suc s)) (rises_on number rises) xs slot some)

  abbrev own : List (Option T) → List ℕ
  own xs = numbers_of (λ slot. slot) xs

  pub item_in_slot : (xs : List (Option T)) (slot : ℕ) → item_of_slot (own xs) (items_of xs) slot ≡ at xs slot
  item_in_slot xs slot = item_numbered (λ s. s) (λ s t h. h) xs slot

  pub items_lent : (xs : List (Option T)) (slot : ℕ) (w : T) → is_some (at xs slot) ≡ true → items_of (set xs slot (Some w)) ≡ written_to_slot (own xs) (items_of xs) slot w
  items_lent xs slot w some = items_numbered (λ s. s) (λ s t h. h) xs slot w some

  pub others_left : (xs : List (Option T)) (slot : ℕ) → is_some (at xs slot) ≡ true → items_of (set xs slot None) ≡ without_slot (own xs) (items_of xs) slot
  others_left xs slot some = others_numbered (λ s. s) (λ s t h. h) xs slot some

  pub told_in_slot : (tell : ℕ → ℕ) (xs : List (Option T)) (slot : ℕ) → is_some (at xs slot) ≡ true → item_of_slot (own xs) (numbers_of tell xs) slot ≡ Some (tell slot)
  told_in_slot tell xs slot some = told_numbered (λ s. s) tell (λ s t h. h) xs slot some

  pub numbers_lent : (number : ℕ → ℕ) (xs : List (Option T)) (slot : ℕ) (w : T) → is_some (at xs slot) ≡ true → numbers_of number (set xs slot (Some w)) ≡ numbers_of number xs
  numbers_lent number [] slot w some = refl
  numbers_lent number (None ∷ xs) zero w some = absurd (true≢false (sym some))
  numbers_lent number (None ∷ xs) (suc slot) w some = numbers_lent (λ s. number (suc s)) xs slot w some
  numbers_lent number (Some x ∷ xs) zero w some = refl
  numbers_lent number (Some x ∷ xs) (suc slot) w some = ap (λ ns. number 0 ∷ ns) (numbers_lent (λ s. number (suc s)) xs slot w some)

module _ {S T K : Type 0} (key : T → K) {eq : K → K → Bool} (input : K → HashWrites) (hash : S → HashWrites → ℕ) (m : HashItems S T) (keyed : KeyedItems key eq input hash m) (slot : ℕ) (x w : T) (there : item_of_slot m.slots m.items slot ≡ Some x) where
  pub keyed_akin_written : IsEquivalence eq → ((a b : K) → eq a b ≡ true → input a ≡ input b) → eq (key x) (key w) ≡ true → KeyedItems key eq input hash (record m { items = written_to_slot m.slots m.items slot w })
  keyed_akin_written equivalence respects akin = record {
    differ = akin_keys_differ key m.slots m.items slot x w there equivalence akin keyed.differ;
    stored = keyed.stored ∙ sym (keys_written (λ y. hash m.hasher (input (key y))) m.slots m.items slot x w there (ap (hash m.hasher) (sym (respects (key x) (key w) akin))));
  }

  pub keyed_written : IsEquivalence eq → ((a b : K) → eq a b ≡ true → input a ≡ input b) → key w ≡ key x → KeyedItems key eq input hash (record m { items = written_to_slot m.slots m.items slot w })
  keyed_written equivalence respects same = keyed_akin_written equivalence respects (ap (eq (key x)) same ∙ equivalence.refl (key x))

-- a write under the same key leaves the map keyed, for callers
pub hash_key_kept : {S T K : Type 0} (key : T → K) (eq : K → K → Bool) (input : K → HashWrites) (hash : S → HashWrites → ℕ) (m : HashItems S T) (slot : ℕ) (x w : T) → item_of_slot m.slots m.items slot ≡ Some x → key w ≡ key x → IsKeyed key eq input hash m → IsKeyed key eq input hash (record m { items = written_to_slot m.slots m.items slot w })
unfolding IsKeyed
hash_key_kept key eq input hash m slot x w there same keyed = record {
  differ = subst (IsDistinct eq) (sym (keys_written key m.slots m.items slot x w there same)) keyed.differ;
  stored = keyed.stored ∙ sym (keys_written (λ y. hash m.hasher (input (key y))) m.slots m.items slot x w there (ap (λ k. hash m.hasher (input k)) same));
}
