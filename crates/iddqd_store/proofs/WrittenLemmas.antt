-- The item of a slot, and the items with another in its place.
--     SlotPlace, slot_place      the place of a slot that has an item
--     length-written      writing to a slot keeps the number of items
--     written_replaced      where the slot's item is the one that a query finds, writing to it replaces the item found
--     PlaceRead, place_read      the item at a place is that of its slot, to read, to write and to take out
--     others_without      ... and the others are what its removal leaves
--     written_found, others_found      the same, of the item that is found
--     told_of_slot      what is told of each item, at the item of a slot
--     read_back, written_twice, others_written      what was written is there, a second write leaves what it alone would, and the others stay
--     keys_written      a write under the same key leaves the keys
--     same_key_kept, akin_key_kept, akin_keys_differ      where an equal key was written the items still ascend, and their keys still differ
--     others_at_slot, read_at_slot      what a test finds after a write: what it found, or what was written
--     sum_at_slot      the sum of a weight after a write
--     slot_in_sum      the sum is no less than the weight of a slot's item
--     listed_slot      a slot has an item exactly where it is one of the slots
use Rattle.std.proofs.Common.{◌≡◌, ℕ, zero, suc, ◌+◌, ◌<◌, ◌≤◌, ◌↔◌, Bool, true, false, cond, List, [], ◌∷◌, length, find, set, get_or, Option, Some, None, is_some, refl, sym, ap, ◌∙◌, arith, nat_eq, true≢false, subst, map, Ordering, Equal}
use Rattle.std.proofs.lemmas.Bool.{eqb-true, eq-eqb}
use Rattle.std.proofs.lemmas.List.Sums.{sum_by-remove, sum_by-set}
use Rattle.std.proofs.lemmas.Option.{get_or_from_slice_get, slice_get_within}
use Rattle.std.proofs.Math.Seq.{map-set_same}
use Rattle.std.specs.Cmp.{IsEquivalence, IsTotalOrder, Equal-is}
use Rattle.std.specs.List.Sorted.{IsStrictlySortedBy}
use Rattle.std.specs.Option.{option_map}
use Rattle.std.specs.Ordering.{is_eq}
use Rattle.std.specs.List.{AllByRecursion, Contains, IsDistinct, remove, slice_get, sum_by}
use Rattle.iddqd_store.specs.Contents.{Ascends, IsKeyTest, NoTwoAkin, find_item, items_overwritten, items_without}
use Rattle.iddqd_store.specs.SlotItems.{HaveSlots, item_of_slot, without_slot, written_to_slot}
use Rattle.iddqd_store.proofs.ChangeLemmas.{find_replaced}
use Rattle.iddqd_store.proofs.ContentsLemmas.{filter_at, map_at, only_place}
use Rattle.iddqd_store.proofs.KeepsLemmas.{ascends_set, differ_set}
use Rattle.iddqd_store.proofs.OrderLemmas.{Tells, find_tells}
use Rattle.iddqd_store.proofs.SearchLemmas.{at_key}

all_at : (P : ℕ → Type 0) (xs : List ℕ) (i x : ℕ) → AllByRecursion P xs → slice_get xs i ≡ Some x → P x
all_at P [] i x all e = cc
all_at P (y ∷ ys) zero x all e = let same : y ≡ x = cc in subst P same all.0
all_at P (y ∷ ys) (suc i) x all e = all_at P ys i x all.1 e

module _ {T : Type 0} where
  pub record SlotPlace (slots : List ℕ) (items : List T) (slot : ℕ) (x : T) : Type 0 where
    pub place : ℕ
    pub slot_there : slice_get slots place ≡ Some slot
    pub item_there : slice_get items place ≡ Some x
    pub written : (w : T) → written_to_slot slots items slot w ≡ set items place w
    pub others : without_slot slots items slot ≡ remove items place

  pub slot_place : (slots : List ℕ) (items : List T) (slot : ℕ) (x : T) → item_of_slot slots items slot ≡ Some x → SlotPlace slots items slot x
  slot_place [] items slot x e = cc
  slot_place (s ∷ slots) [] slot x e = cc
  slot_place (s ∷ slots) (y ∷ items) slot x e = by (slot_place slots items slot x) (nat_eq s slot) refl e
    where
      by : (item_of_slot slots items slot ≡ Some x → SlotPlace slots items slot x) → (b : Bool) → nat_eq s slot ≡ b → cond b (Some y) (item_of_slot slots items slot) ≡ Some x → SlotPlace (s ∷ slots) (y ∷ items) slot x
      by behind true q there = record { place = zero; slot_there = ap Some (eqb-true s slot q); item_there = there; written = λ w. rw q refl; others = rw q refl }
      by behind false q there =
          let rest = behind there in
          record {
            place = suc rest.place;
            slot_there = rest.slot_there;
            item_there = rest.item_there;
            written = λ w. rw q (ap (λ ys. y ∷ ys) (rest.written w));
            others = rw q (ap (λ ys. y ∷ ys) rest.others);
          }

  pub length-written : (slots : List ℕ) (items : List T) (slot : ℕ) (w : T) → length (written_to_slot slots items slot w) ≡ length items
  length-written [] items slot w = refl
  length-written (s ∷ slots) [] slot w = refl
  length-written (s ∷ slots) (y ∷ items) slot w =
      let rest = length-written slots items slot w in
      elim (nat_eq s slot) as (λ b. length (cond b (w ∷ items) (y ∷ written_to_slot slots items slot w)) ≡ length (y ∷ items)) [ true ↦ refl | false ↦ ap suc rest ]

  pub read_back : (slots : List ℕ) (items : List T) (slot : ℕ) (w : T) → is_some (item_of_slot slots items slot) ≡ true → item_of_slot slots (written_to_slot slots items slot w) slot ≡ Some w
  read_back [] items slot w some = absurd (true≢false (sym some))
  read_back (s ∷ slots) [] slot w some = absurd (true≢false (sym some))
  read_back (s ∷ slots) (y ∷ items) slot w some = by (read_back slots items slot w) (nat_eq s slot) refl some
    where
      by : (is_some (item_of_slot slots items slot) ≡ true → item_of_slot slots (written_to_slot slots items slot w) slot ≡ Some w) → (b : Bool) → nat_eq s slot ≡ b → is_some (cond b (Some y) (item_of_slot slots items slot)) ≡ true → item_of_slot (s ∷ slots) (written_to_slot (s ∷ slots) (y ∷ items) slot w) slot ≡ Some w
      by behind true q there = rw q (rw q refl)
      by behind false q there = rw q (rw q (behind there))

  pub written_twice : (slots : List ℕ) (items : List T) (slot : ℕ) (v w : T) → written_to_slot slots (written_to_slot slots items slot v) slot w ≡ written_to_slot slots items slot w
  written_twice [] items slot v w = refl
  written_twice (s ∷ slots) [] slot v w = refl
  written_twice (s ∷ slots) (y ∷ items) slot v w = by (written_twice slots items slot v w) (nat_eq s slot) refl
    where
      by : written_to_slot slots (written_to_slot slots items slot v) slot w ≡ written_to_slot slots items slot w → (b : Bool) → nat_eq s slot ≡ b → written_to_slot (s ∷ slots) (written_to_slot (s ∷ slots) (y ∷ items) slot v) slot w ≡ written_to_slot (s ∷ slots) (y ∷ items) slot w
      by behind true q = rw q (rw q refl)
      by behind false q = rw q (rw q (ap (λ ys. y ∷ ys) behind))

  pub others_written : (slots : List ℕ) (items : List T) (slot : ℕ) (w : T) → without_slot slots (written_to_slot slots items slot w) slot ≡ without_slot slots items slot
  others_written [] items slot w = refl
  others_written (s ∷ slots) [] slot w = refl
  others_written (s ∷ slots) (y ∷ items) slot w = by (others_written slots items slot w) (nat_eq s slot) refl
    where
      by : without_slot slots (written_to_slot slots items slot w) slot ≡ without_slot slots items slot → (b : Bool) → nat_eq s slot ≡ b → without_slot (s ∷ slots) (written_to_slot (s ∷ slots) (y ∷ items) slot w) slot ≡ without_slot (s ∷ slots) (y ∷ items) slot
      by behind true q = rw q (rw q refl)
      by behind false q = rw q (rw q (ap (λ ys. y ∷ ys) behind))

  -- of slots that each item has one of its own
  pub record PlaceRead (slots : List ℕ) (items : List T) (at slot : ℕ) : Type 0 where
    pub item : item_of_slot slots items slot ≡ slice_get items at
    pub written : (w : T) → written_to_slot slots items slot w ≡ set items at w
    pub others : without_slot slots items slot ≡ remove items at

  pub place_read : (slots : List ℕ) (items : List T) (at slot : ℕ) → HaveSlots slots items → slice_get slots at ≡ Some slot → PlaceRead slots items at slot
  unfolding IsDistinct
  place_read [] items at slot own e = cc
  place_read (s ∷ slots) [] at slot own e = absurd (omega (arith, own.as_many))
  place_read (s ∷ slots) (y ∷ items) zero slot own e =
      let here : s ≡ slot = cc in
      record { item = rw (eq-eqb s slot here) refl; written = λ w. rw (eq-eqb s slot here) refl; others = rw (eq-eqb s slot here) refl }
  place_read (s ∷ slots) (y ∷ items) (suc at) slot own e =
      let rest = place_read slots items at slot (record { as_many = omega (arith, own.as_many); each_once = own.each_once.1 }) e in
      let apart : nat_eq s slot ≡ false = all_at (λ n. nat_eq s n ≡ false) slots at slot own.each_once.0 e in
      record { item = rw apart rest.item; written = λ w. rw apart (ap (λ ys. y ∷ ys) (rest.written w)); others = rw apart (ap (λ ys. y ∷ ys) rest.others) }

  occupied_listed : (slots : List ℕ) (items : List T) (slot : ℕ) → is_some (item_of_slot slots items slot) ≡ true → Contains slots slot
  occupied_listed slots items slot some = by (item_of_slot slots items slot) refl some
    where
      by : (o : Option T) → item_of_slot slots items slot ≡ o → is_some o ≡ true → Contains slots slot
      by None e none = absurd (true≢false (sym none))
      by (Some x) e some =
          let p = slot_place slots items slot x e in
          (p.place, slice_get_within slots p.place slot p.slot_there, get_or_from_slice_get slots p.place slot slot p.slot_there)

  listed_occupied : (slots : List ℕ) (items : List T) (slot : ℕ) → length slots ≡ length items → (i : ℕ) → i < length slots → get_or slots i slot ≡ slot → is_some (item_of_slot slots items slot) ≡ true
  listed_occupied [] items slot many i h e = absurd (omega arith)
  listed_occupied (s ∷ slots) [] slot many i h e = absurd (omega arith)
  listed_occupied (s ∷ slots) (y ∷ items) slot many zero h e = rw (eq-eqb s slot e) refl
  listed_occupied (s ∷ slots) (y ∷ items) slot many (suc i) h e =
      let rest = listed_occupied slots items slot (omega arith) i (omega arith) e in
      elim (nat_eq s slot) as (λ b. is_some (cond b (Some y) (item_of_slot slots items slot)) ≡ true) [ true ↦ refl | false ↦ rest ]

  -- with as many slots as items
  pub listed_slot : (slots : List ℕ) (items : List T) (slot : ℕ) → length slots ≡ length items → (is_some (item_of_slot slots items slot) ≡ true) ↔ Contains slots slot
  listed_slot slots items slot many = (occupied_listed slots items slot, λ c. listed_occupied slots items slot many c.0 c.1 c.2)

-- the slot's item is the one that a query finds
pub others_without : {T K : Type 0} (key : T → K) {eq : K → K → Bool} → IsEquivalence eq → (test : K → Bool) → IsKeyTest eq test → (slots : List ℕ) (items : List T) → NoTwoAkin key eq items → (slot : ℕ) (x : T) → item_of_slot slots items slot ≡ Some x → test (key x) ≡ true → without_slot slots items slot ≡ items_without key test items
others_without key equivalence test tests slots items differ slot x there passes =
    let p = slot_place slots items slot x there in
    let only = only_place key equivalence test tests items differ p.place (slice_get_within items p.place x p.item_there) (λ d. ap (λ y. test (key y)) (get_or_from_slice_get items p.place x d p.item_there) ∙ passes) in
    p.others ∙ sym (filter_at (λ y. test (key y)) items p.place only)

pub written_replaced : {T K : Type 0} (key : T → K) {eq : K → K → Bool} → IsEquivalence eq → (test : K → Bool) → IsKeyTest eq test → (slots : List ℕ) (items : List T) → NoTwoAkin key eq items → (slot : ℕ) (x w : T) → item_of_slot slots items slot ≡ Some x → test (key x) ≡ true → written_to_slot slots items slot w ≡ items_overwritten key test w items
written_replaced key equivalence test tests slots items differ slot x w there passes =
    let p = slot_place slots items slot x there in
    let only = only_place key equivalence test tests items differ p.place (slice_get_within items p.place x p.item_there) (λ d. ap (λ y. test (key y)) (get_or_from_slice_get items p.place x d p.item_there) ∙ passes) in
    p.written w ∙ sym (map_at (λ y. test (key y)) w items p.place only)

pub written_found : {T K : Type 0} (key : T → K) {eq : K → K → Bool} → IsEquivalence eq → (test : K → Bool) → IsKeyTest eq test → (slots : List ℕ) (items : List T) → NoTwoAkin key eq items → (slot : ℕ) (w : T) → is_some (item_of_slot slots items slot) ≡ true → find_item key test items ≡ item_of_slot slots items slot → written_to_slot slots items slot w ≡ items_overwritten key test w items
written_found {T} key equivalence test tests slots items differ slot w some found = by (item_of_slot slots items slot) refl some
  where
    by : (o : Option T) → item_of_slot slots items slot ≡ o → is_some o ≡ true → written_to_slot slots items slot w ≡ items_overwritten key test w items
    by None e none = absurd (true≢false (sym none))
    by (Some x) e there =
        written_replaced key equivalence test tests slots items differ slot x w e (subst (Tells (λ y. test (key y)) items) (found ∙ e) (find_tells (λ y. test (key y)) items)).1

pub others_found : {T K : Type 0} (key : T → K) {eq : K → K → Bool} → IsEquivalence eq → (test : K → Bool) → IsKeyTest eq test → (slots : List ℕ) (items : List T) → NoTwoAkin key eq items → (slot : ℕ) → is_some (item_of_slot slots items slot) ≡ true → find_item key test items ≡ item_of_slot slots items slot → without_slot slots items slot ≡ items_without key test items
others_found {T} key equivalence test tests slots items differ slot some found = by (item_of_slot slots items slot) refl some
  where
    by : (o : Option T) → item_of_slot slots items slot ≡ o → is_some o ≡ true → without_slot slots items slot ≡ items_without key test items
    by None e none = absurd (true≢false (sym none))
    by (Some x) e there =
        others_without key equivalence test tests slots items differ slot x e (subst (Tells (λ y. test (key y)) items) (found ∙ e) (find_tells (λ y. test (key y)) items)).1

-- what is told of each item, at the item of a slot
pub told_of_slot : {T U : Type 0} (tell : T → U) (slots : List ℕ) (items : List T) (slot : ℕ) → item_of_slot slots (map tell items) slot ≡ option_map tell (item_of_slot slots items slot)
told_of_slot tell [] items slot = refl
told_of_slot tell (s ∷ slots) [] slot = refl
told_of_slot tell (s ∷ slots) (y ∷ items) slot =
    let rest = told_of_slot tell slots items slot in
    elim (nat_eq s slot) as (λ b. cond b (Some (tell y)) (item_of_slot slots (map tell items) slot) ≡ option_map tell (cond b (Some y) (item_of_slot slots items slot))) [ true ↦ refl | false ↦ rest ]

module _ {T K : Type 0} (key : T → K) (slots : List ℕ) (items : List T) (slot : ℕ) (x w : T) (there : item_of_slot slots items slot ≡ Some x) where
  -- what is written under the same key leaves the keys
  pub keys_written : key w ≡ key x → map key (written_to_slot slots items slot w) ≡ map key items
  keys_written same =
      let p = slot_place slots items slot x there in
      ap (map key) (p.written w) ∙ map-set_same key items p.place w x (same ∙ ap key (sym (get_or_from_slice_get items p.place x x p.item_there)))

  pub same_key_kept : (cmp : K → K → Ordering) → key w ≡ key x → Ascends key cmp items → Ascends key cmp (written_to_slot slots items slot w)
  same_key_kept cmp same sorted = subst (IsStrictlySortedBy cmp) (sym (keys_written same)) sorted

  module _ {eq : K → K → Bool} (equivalence : IsEquivalence eq) (akin : eq (key x) (key w) ≡ true) where
    pub akin_key_kept : {cmp : K → K → Ordering} → IsTotalOrder cmp → ((a b : K) → eq a b ≡ is_eq (cmp a b)) → Ascends key cmp items → Ascends key cmp (written_to_slot slots items slot w)
    akin_key_kept {cmp} total ties sorted =
        let p = slot_place slots items slot x there in
        let inside = slice_get_within items p.place x p.item_there in
        let equal : cmp (key w) (key x) ≡ Equal = (Equal-is _).0 (sym (ties (key w) (key x)) ∙ equivalence.symm (key w) (key x) ∙ akin) in
        subst (Ascends key cmp) (sym (p.written w)) (ascends_set key total w items p.place sorted inside (at_key key (λ k. cmp (key w) k ≡ Equal) items p.place x inside (sym (get_or_from_slice_get items p.place x x p.item_there)) equal))

    pub akin_keys_differ : NoTwoAkin key eq items → NoTwoAkin key eq (written_to_slot slots items slot w)
    akin_keys_differ differ =
        let p = slot_place slots items slot x there in
        let inside = slice_get_within items p.place x p.item_there in
        subst (NoTwoAkin key eq) (sym (p.written w)) (differ_set key equivalence w items p.place (at_key key (λ k. eq (key w) k ≡ true) items p.place x inside (sym (get_or_from_slice_get items p.place x x p.item_there)) (equivalence.symm (key w) (key x) ∙ akin)) differ)

-- a test that neither the slot's item nor what is written passes finds what it found
pub others_at_slot : {T : Type 0} (p : T → Bool) (slots : List ℕ) (items : List T) (slot : ℕ) (x w : T) → item_of_slot slots items slot ≡ Some x → p x ≡ false → p w ≡ false → find p (written_to_slot slots items slot w) ≡ find p items
others_at_slot p [] items slot x w there fails w_fails = refl
others_at_slot p (s ∷ slots) [] slot x w there fails w_fails = refl
others_at_slot p (s ∷ slots) (y ∷ items) slot x w there fails w_fails = by (nat_eq s slot) refl there (λ later. others_at_slot p slots items slot x w later fails w_fails)
  where
    by : (b : Bool) → nat_eq s slot ≡ b → cond b (Some y) (item_of_slot slots items slot) ≡ Some x → (item_of_slot slots items slot ≡ Some x → find p (written_to_slot slots items slot w) ≡ find p items) → find p (cond b (w ∷ items) (y ∷ written_to_slot slots items slot w)) ≡ cond (p y) (Some y) (find p items)
    by true e here rest = let same : y ≡ x = cc in rw w_fails (rw (ap p same ∙ fails) refl)
    by false e later rest = ap (λ o. cond (p y) (Some y) o) (rest later)

-- a test that found the slot's item, and that what is written passes, finds that
pub read_at_slot : {T : Type 0} (p : T → Bool) (slots : List ℕ) (items : List T) (slot : ℕ) (x w : T) → written_to_slot slots items slot w ≡ map (λ z. cond (p z) w z) items → find p items ≡ Some x → p w ≡ true → find p (written_to_slot slots items slot w) ≡ Some w
read_at_slot p slots items slot x w puts found passes = find_replaced p (λ z. cond (p z) w z) items (written_to_slot slots items slot w) w x puts refl found passes

pub sum_at_slot : {T : Type 0} (f : T → ℕ) (slots : List ℕ) (items : List T) (slot : ℕ) (x w : T) → item_of_slot slots items slot ≡ Some x → sum_by f (written_to_slot slots items slot w) + f x ≡ sum_by f items + f w
sum_at_slot f slots items slot x w there =
    let p = slot_place slots items slot x there in
    ap (λ xs. sum_by f xs + f x) (p.written w)
    ∙ ap (λ y. sum_by f (set items p.place w) + f y) (sym (get_or_from_slice_get items p.place x x p.item_there))
    ∙ sum_by-set f items p.place w x (slice_get_within items p.place x p.item_there)

pub slot_in_sum : {T : Type 0} (f : T → ℕ) (slots : List ℕ) (items : List T) (slot : ℕ) (x : T) → item_of_slot slots items slot ≡ Some x → f x ≤ sum_by f items
slot_in_sum f slots items slot x there =
    let p = slot_place slots items slot x there in
    let weight = ap f (get_or_from_slice_get items p.place x x p.item_there) in
    let removed = sum_by-remove f items p.place x (slice_get_within items p.place x p.item_there) in
    omega arith
