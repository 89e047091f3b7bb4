-- The items of a store, and a number for each, as one slot changes.
--     same_items      slots that have the same items, slot by slot, have the same items in a row
--     AreSplit      what stands before a slot's item and what behind it, where two stores differ at that slot alone
--     item_added, item_left, PlaceOf, place_of      what the change of a slot makes of the items
--     length-items      there are as many items as occupied slots
--     number_at, numbers_agree      a number for each slot, told by its item
--     slots_apart      each item has a slot of its own
--     slot_left      an item that is taken out leaves its place and its slot
use Rattle.std.proofs.Common.{append_assoc, ◌≡◌, ◌≢◌, ℕ, zero, suc, ◌≤◌, List, [], ◌∷◌, ◌++◌, length, map, get_or, drop, ◌<◌, nat_eq, false, Option, Some, None, is_some, cond, refl, sym, ap, ◌∙◌, arith, subst, count_by, IsPermutation}
use Rattle.std.proofs.lemmas.List.{length-map}
use Rattle.std.proofs.lemmas.List.Sorted.{IsPermutation-middle}
use Rattle.std.proofs.lemmas.List.Sums.{sum_by-cons}
use Rattle.std.proofs.lemmas.Bool.{ne_eqb}
use Rattle.std.proofs.lemmas.Option.{slice_get-map}
use Rattle.std.specs.List.{AllByRecursion, IsDistinct, filter_map, cons_option, insert, remove, slice_get}
use Rattle.std.specs.Option.{option_map}
use Rattle.iddqd_store.specs.Contents.{AddsItem}
use Rattle.iddqd_store.specs.SlotItems.{HaveSlots}
use Rattle.iddqd_store.proofs.MappedLemmas.{remove-map}
use Rattle.iddqd_hash_parts.specs.StoreAndIndex.{numbers_of}

-- an element in the middle
module _ {T : Type 0} where
  insert-middle : (xs ys : List T) (x : T) → insert (xs ++ ys) (length xs) x ≡ xs ++ x ∷ ys
  insert-middle [] ys x = refl
  insert-middle (y ∷ xs) ys x = ap (λ vs. y ∷ vs) (insert-middle xs ys x)

  remove-middle : (xs ys : List T) (x : T) → remove (xs ++ x ∷ ys) (length xs) ≡ xs ++ ys
  remove-middle [] ys x = refl
  remove-middle (y ∷ xs) ys x = ap (λ vs. y ∷ vs) (remove-middle xs ys x)

  get-middle : (xs ys : List T) (x : T) → slice_get (xs ++ x ∷ ys) (length xs) ≡ Some x
  get-middle [] ys x = refl
  get-middle (y ∷ xs) ys x = get-middle xs ys x

  front-within : (xs ys : List T) → length xs ≤ length (xs ++ ys)
  front-within [] ys = omega arith
  front-within (x ∷ xs) ys = let rest = front-within xs ys in omega arith

module _ {T : Type 0} where
  abbrev pub items_of : List (Option T) → List T
  items_of slots = filter_map (λ item. item) slots

  abbrev pub at : List (Option T) → ℕ → Option T
  at slots slot = get_or slots slot None

  -- the item of a slot, as a list
  abbrev one : Option T → List T
  one None = []
  one (Some x) = x ∷ []

  cons_one : (o : Option T) (xs : List T) → cons_option o xs ≡ one o ++ xs
  cons_one None xs = refl
  cons_one (Some x) xs = refl

  at_rest : (xs : List (Option T)) (slot : ℕ) → at (drop 1 xs) slot ≡ at xs (suc slot)
  at_rest [] slot = refl
  at_rest (x ∷ xs) slot = refl

  first_item : (xs : List (Option T)) → items_of xs ≡ one (at xs 0) ++ items_of (drop 1 xs)
  first_item [] = refl
  first_item (x ∷ xs) = cons_one x (items_of xs)

  pub same_items : (xs ys : List (Option T)) → ((slot : ℕ) → at xs slot ≡ at ys slot) → items_of xs ≡ items_of ys
  same_items [] [] same = refl
  same_items [] (y ∷ ys) same = same_items [] ys (λ slot. same (suc slot)) ∙ ap (λ o. cons_option o (items_of ys)) (same zero)
  same_items (x ∷ xs) [] same = ap (λ o. cons_option o (items_of xs)) (same zero) ∙ same_items xs [] (λ slot. same (suc slot))
  same_items (x ∷ xs) (y ∷ ys) same = ap (λ o. cons_option o (items_of xs)) (same zero) ∙ ap (cons_option y) (same_items xs ys (λ slot. same (suc slot)))

  record AreSplit (xs ys : List (Option T)) (slot : ℕ) : Type 0 where
    before : List T
    behind : List T
    first : items_of xs ≡ before ++ (one (at xs slot) ++ behind)
    second : items_of ys ≡ before ++ (one (at ys slot) ++ behind)

  split : (xs ys : List (Option T)) (slot : ℕ) → ((other : ℕ) → other ≢ slot → at xs other ≡ at ys other) → AreSplit xs ys slot
  split xs ys zero others =
      let rest = same_items (drop 1 ys) (drop 1 xs) (λ slot. at_rest ys slot ∙ sym (others (suc slot) (λ e. omega arith)) ∙ sym (at_rest xs slot)) in
      record {
        before = [];
        behind = items_of (drop 1 xs);
        first = first_item xs;
        second = first_item ys ∙ ap (λ vs. one (at ys 0) ++ vs) rest;
      }
  split xs ys (suc slot) others =
      let rest = split (drop 1 xs) (drop 1 ys) slot (λ other n. at_rest xs other ∙ others (suc other) (λ e. n (omega arith)) ∙ sym (at_rest ys other)) in
      let head = one (at xs 0) in
      record {
        before = head ++ rest.before;
        behind = rest.behind;
        first = first_item xs ∙ ap (λ vs. head ++ vs) (rest.first ∙ ap (λ o. rest.before ++ (one o ++ rest.behind)) (at_rest xs slot)) ∙ sym (append_assoc head rest.before (one (at xs (suc slot)) ++ rest.behind));
        second = first_item ys ∙ ap (λ o. one o ++ items_of (drop 1 ys)) (sym (others zero (λ e. omega arith))) ∙ ap (λ vs. head ++ vs) (rest.second ∙ ap (λ o. rest.before ++ (one o ++ rest.behind)) (at_rest ys slot)) ∙ sym (append_assoc head rest.before (one (at ys (suc slot)) ++ rest.behind));
      }

  -- a slot that was vacant has an item
  pub item_added : (old new : List (Option T)) (slot : ℕ) (x : T) → at old slot ≡ None → at new slot ≡ Some x → ((other : ℕ) → other ≢ slot → at new other ≡ at old other) → AddsItem x (items_of old) (items_of new)
  item_added old new slot x vacant now others =
      let s = split new old slot others in
      let left : items_of old ≡ s.before ++ s.behind = s.second ∙ ap (λ o. s.before ++ (one o ++ s.behind)) vacant in
      let put : items_of new ≡ s.before ++ x ∷ s.behind = s.first ∙ ap (λ o. s.before ++ (one o ++ s.behind)) now in
      record {
        place = length s.before;
        within = subst (λ vs. length s.before ≤ length vs) (sym left) (front-within s.before s.behind);
        put = put ∙ sym (insert-middle s.before s.behind x) ∙ ap (λ vs. insert vs (length s.before) x) (sym left);
      }

  -- a slot that had an item is vacant
  pub item_left : (old new : List (Option T)) (slot : ℕ) (x : T) → at old slot ≡ Some x → at new slot ≡ None → ((other : ℕ) → other ≢ slot → at new other ≡ at old other) → IsPermutation (items_of old) (x ∷ items_of new)
  item_left old new slot x there none others =
      let s = split new old slot others in
      let was : items_of old ≡ s.before ++ x ∷ s.behind = s.second ∙ ap (λ o. s.before ++ (one o ++ s.behind)) there in
      let left : items_of new ≡ s.before ++ s.behind = s.first ∙ ap (λ o. s.before ++ (one o ++ s.behind)) none in
      rw (was, left) (IsPermutation-middle s.before x s.behind)

  -- the place of a slot's item among the items, and what they are where it leaves
  pub record PlaceOf (old new : List (Option T)) (slot : ℕ) (x : T) : Type 0 where
    pub place : ℕ
    pub there : slice_get (items_of old) place ≡ Some x
    pub removed : at new slot ≡ None → items_of new ≡ remove (items_of old) place

  pub place_of : (old new : List (Option T)) (slot : ℕ) (x : T) → at old slot ≡ Some x → ((other : ℕ) → other ≢ slot → at new other ≡ at old other) → PlaceOf old new slot x
  place_of old new slot x there others =
      let s = split new old slot others in
      let was : items_of old ≡ s.before ++ x ∷ s.behind = s.second ∙ ap (λ o. s.before ++ (one o ++ s.behind)) there in
      let i = length s.before in
      record {
        place = i;
        there = ap (λ vs. slice_get vs i) was ∙ get-middle s.before s.behind x;
        removed = λ none. s.first ∙ ap (λ o. s.before ++ (one o ++ s.behind)) none ∙ sym (remove-middle s.before s.behind x) ∙ ap (λ vs. remove vs i) (sym was);
      }

  pub length-items : (slots : List (Option T)) → length (items_of slots) ≡ count_by is_some slots
  length-items [] = refl
  length-items (None ∷ slots) = omega (arith, length-items slots, sum_by-cons (λ o. cond (is_some o) 1 0) None slots)
  length-items (Some x ∷ slots) = omega (arith, length-items slots, sum_by-cons (λ o. cond (is_some o) 1 0) (Some x) slots)

  -- each slot's number is the one that its item tells
  pub number_at : (tell : T → ℕ) (number : ℕ → ℕ) (slots : List (Option T)) → numbers_of number slots ≡ map tell (items_of slots) → (slot : ℕ) (x : T) → at slots slot ≡ Some x → number slot ≡ tell x
  number_at tell number [] same slot x e = cc
  number_at tell number (None ∷ slots) same zero x e = cc
  number_at tell number (None ∷ slots) same (suc slot) x e = number_at tell (λ s. number (suc s)) slots same slot x e
  number_at tell number (Some y ∷ slots) same zero x e = cc
  number_at tell number (Some y ∷ slots) same (suc slot) x e = number_at tell (λ s. number (suc s)) slots (ap (drop 1) same) slot x e

  pub numbers_agree : (tell : T → ℕ) (number : ℕ → ℕ) (slots : List (Option T)) → ((slot : ℕ) (x : T) → at slots slot ≡ Some x → number slot ≡ tell x) → numbers_of number slots ≡ map tell (items_of slots)
  numbers_agree tell number [] same = refl
  numbers_agree tell number (None ∷ slots) same = numbers_agree tell (λ s. number (suc s)) slots (λ slot. same (suc slot))
  numbers_agree tell number (Some y ∷ slots) same =
      let first = same zero y refl in
      let rest = numbers_agree tell (λ s. number (suc s)) slots (λ slot. same (suc slot)) in
      cc

module _ {T : Type 0} where
  -- a rising number tells the items apart
  above_all : (number : ℕ → ℕ) (slots : List (Option T)) (n : ℕ) → ((slot : ℕ) → n < number slot) → AllByRecursion (λ m. nat_eq n m ≡ false) (numbers_of number slots)
  above_all number [] n above = tt
  above_all number (None ∷ slots) n above = above_all (λ s. number (suc s)) slots n (λ slot. above (suc slot))
  above_all number (Some x ∷ slots) n above = (ne_eqb n (number 0) (λ e. (let h = above 0 in omega arith)), above_all (λ s. number (suc s)) slots n (λ slot. above (suc slot)))

  numbers_apart : (number : ℕ → ℕ) (slots : List (Option T)) → ((s t : ℕ) → s < t → number s < number t) → IsDistinct nat_eq (numbers_of number slots)
  unfolding IsDistinct
  numbers_apart number [] rises = tt
  numbers_apart number (None ∷ slots) rises = numbers_apart (λ s. number (suc s)) slots (λ s t h. rises (suc s) (suc t) (omega arith))
  numbers_apart number (Some x ∷ slots) rises =
      (above_all (λ s. number (suc s)) slots (number 0) (λ slot. rises 0 (suc slot) (omega arith)), numbers_apart (λ s. number (suc s)) slots (λ s t h. rises (suc s) (suc t) (omega arith)))

  -- the items, each with a number of its slot
  lodged : (ℕ → ℕ) → List (Option T) → List (Option (ℕ × T))
  lodged number [] = []
  lodged number (o ∷ slots) = option_map (λ x. (number 0, x)) o ∷ lodged (λ s. number (suc s)) slots

  lodged_items : (number : ℕ → ℕ) (slots : List (Option T)) → map (λ p. p.1) (items_of (lodged number slots)) ≡ items_of slots
  unfolding lodged
  lodged_items number [] = refl
  lodged_items number (None ∷ slots) = lodged_items (λ s. number (suc s)) slots
  lodged_items number (Some x ∷ slots) = ap (λ xs. x ∷ xs) (lodged_items (λ s. number (suc s)) slots)

  lodged_numbers : (number : ℕ → ℕ) (slots : List (Option T)) → map (λ p. p.0) (items_of (lodged number slots)) ≡ numbers_of number slots
  unfolding lodged
  lodged_numbers number [] = refl
  lodged_numbers number (None ∷ slots) = lodged_numbers (λ s. number (suc s)) slots
  lodged_numbers number (Some x ∷ slots) = ap (λ ns. number 0 ∷ ns) (lodged_numbers (λ s. number (suc s)) slots)

  at_lodged : (number : ℕ → ℕ) (slots : List (Option T)) (slot : ℕ) → at (lodged number slots) slot ≡ option_map (λ x. (number slot, x)) (at slots slot)
  unfolding lodged
  at_lodged number [] slot = refl
  at_lodged number (o ∷ slots) zero = refl
  at_lodged number (o ∷ slots) (suc slot) = at_lodged (λ s. number (suc s)) slots slot

  abbrev slot_numbers : List (Option T) → List ℕ
  slot_numbers slots = numbers_of (λ slot. slot) slots

  pub slots_apart : (slots : List (Option T)) → HaveSlots (slot_numbers slots) (items_of slots)
  slots_apart slots = record {
    as_many = ap length (sym (lodged_numbers (λ slot. slot) slots)) ∙ length-map _ _ ∙ sym (length-map _ _) ∙ ap length (lodged_items (λ slot. slot) slots);
    each_once = numbers_apart (λ slot. slot) slots (λ s t h. h);
  }

  -- the place that an item leaves, and its slot with it
  pub record SlotLeft (old new : List (Option T)) (x : T) : Type 0 where
    pub place : ℕ
    pub there : slice_get (items_of old) place ≡ Some x
    pub items : items_of new ≡ remove (items_of old) place
    pub slots : slot_numbers new ≡ remove (slot_numbers old) place

  pub slot_left : (old new : List (Option T)) (slot : ℕ) (x : T) → at old slot ≡ Some x → at new slot ≡ None → ((other : ℕ) → other ≢ slot → at new other ≡ at old other) → SlotLeft old new x
  slot_left old new slot x there none others =
      let before = lodged (λ s. s) old in
      let after = lodged (λ s. s) new in
      let pair = option_map (λ y. (slot, y)) in
      let p = place_of before after slot (slot, x) (at_lodged (λ s. s) old slot ∙ ap pair there) (λ other n. at_lodged (λ s. s) new other ∙ ap (option_map (λ y. (other, y))) (others other n) ∙ sym (at_lodged (λ s. s) old other)) in
      let out = p.removed (at_lodged (λ s. s) new slot ∙ ap pair none) in
      record {
        place = p.place;
        there = ap (λ xs. slice_get xs p.place) (sym (lodged_items (λ s. s) old)) ∙ slice_get-map (λ q. q.1) (items_of before) p.place ∙ ap (option_map (λ q. q.1)) p.there;
        items = sym (lodged_items (λ s. s) new) ∙ ap (map (λ q. q.1)) out ∙ remove-map (λ q. q.1) (items_of before) p.place ∙ ap (λ xs. remove xs p.place) (lodged_items (λ s. s) old);
        slots = sym (lodged_numbers (λ s. s) new) ∙ ap (map (λ q. q.0)) out ∙ remove-map (λ q. q.0) (items_of before) p.place ∙ ap (λ ns. remove ns p.place) (lodged_numbers (λ s. s) old);
      }
