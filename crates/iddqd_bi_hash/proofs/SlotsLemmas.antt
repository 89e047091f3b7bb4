-- The slots that two searches found, one by each key: what they hold, and what is left without them.
--     find_kept      a search among the items that pass is one by both tests
--     found_there, found_items, found_left      they have items; these, that of the first search first; the others
--     both_found_same      both searches found one slot, where one item passes both tests
--     none_same      they are none
--     apart_slots, pair_apart, pair_few, pair_occupied, pair_each      two slots, or one if they are the same
--     one_fewer, took_one, took_two, still_occupied      what a map shows once the items of one or two slots were removed
--     some_values      a `Few` has a value
use Rattle.std.proofs.Common.{◌≡◌, ℕ, ◌+◌, ◌≤◌, ◌==◌, ◌↔◌, Bool, true, false, cond, not, List, [], ◌∷◌, ◌++◌, length, nat_eq, filter, find, Option, Some, None, IfSome, IsSome, IsSomeAnd, is_some, refl, sym, ap, ◌∙◌, arith, subst, ⊎_elim, true≢false}
use Rattle.std.proofs.lemmas.Bool.{cases_eq, eq-eqb, eqb-true, ne_eqb}
use Rattle.std.proofs.lemmas.List.Edits.{length-remove}
use Rattle.std.proofs.lemmas.Option.{slice_get_within}
use Rattle.std.specs.Cmp.{IsEquivalence}
use Rattle.std.specs.List.{AllByRecursion, IsDistinct, cons_option, filter_map}
use Rattle.std.specs.Option.{option_and_then}
use Rattle.iddqd_store.specs.Contents.{IsKeyTest, NoTwoAkin, find_item, items_without}
use Rattle.iddqd_store.specs.Errors.{values_of}
use Rattle.iddqd_store.specs.SlotItems.{item_of_slot, without_slot}
use Rattle.iddqd_store.specs.declared.errors.Few.{Few}
use Rattle.iddqd_store.specs.declared.errors.Few.TheVariants.{One, Two, Three}
use Rattle.iddqd_store.proofs.KeepsLemmas.{differ_filter}
use Rattle.iddqd_store.proofs.WrittenLemmas.{others_found, slot_place}
use Rattle.iddqd_hash_parts.proofs.FoundLemmas.{without_absent}
use Rattle.iddqd_bi_hash.specs.BiHashItems.{BiHashItems}
use Rattle.iddqd_bi_hash.specs.BiHashMap.{LosesPlaceOf}
use Rattle.iddqd_bi_hash.specs.TwoKeys.{as_list, find_by_both, found_same, items_found, items_left, other_slot, slots_of_pair, without_slots}
use Rattle.iddqd_bi_hash.proofs.UniqueLemmas.{both_found}

-- a search among the items that pass is one by both tests
pub find_kept : {T : Type 0} (p q : T → Bool) (xs : List T) → find p (filter q xs) ≡ find (λ x. cond (p x) (q x) false) xs
find_kept p q [] = refl
find_kept p q (x ∷ xs) = by (q x) (p x) refl refl (find_kept p q xs)
  where
    by : (a b : Bool) → q x ≡ a → p x ≡ b → find p (filter q xs) ≡ find (λ x. cond (p x) (q x) false) xs → find p (filter q (x ∷ xs)) ≡ find (λ x. cond (p x) (q x) false) (x ∷ xs)
    by true true e f rest = rw (e, f) refl
    by true false e f rest = rw (e, f) rest
    by false true e f rest = rw (e, f) rest
    by false false e f rest = rw (e, f) rest

-- the items of two slots, each of which may be none
few_items : {T : Type 0} (item : ℕ → Option T) (a b : Option ℕ) → filter_map item (as_list a ++ as_list b) ≡ as_list (option_and_then item a) ++ as_list (option_and_then item b)
few_items item None None = refl
few_items item None (Some s) = elim (item s) as (λ o. cons_option o [] ≡ as_list o) [ None ↦ refl | Some y ↦ refl ]
few_items item (Some s) None = elim (item s) as (λ o. cons_option o [] ≡ as_list o ++ []) [ None ↦ refl | Some y ↦ refl ]
few_items item (Some s) (Some t) = elim (item s) as (λ o. cons_option o (cons_option (item t) []) ≡ as_list o ++ as_list (item t)) [
  | None ↦ elim (item t) as (λ o. cons_option o [] ≡ as_list o) [ None ↦ refl | Some y ↦ refl ]
  | Some x ↦ elim (item t) as (λ o. x ∷ cons_option o [] ≡ x ∷ as_list o) [ None ↦ refl | Some y ↦ refl ]
]

some_of_and : {T : Type 0} (P : T → Type 0) (o : Option T) → IsSomeAnd o P → IsSome o
some_of_and P (Some x) h = refl
some_of_and P None h = absurd h

none_at : {T : Type 0} (slots : List ℕ) (slot : ℕ) → item_of_slot {T = T} slots [] slot ≡ None
none_at [] slot = refl
none_at (s ∷ slots) slot = refl

-- the other slots have their items still
pub stays_in_slot : {T : Type 0} (slots : List ℕ) (items : List T) (a b : ℕ) → nat_eq a b ≡ false → item_of_slot (without_slot slots slots a) (without_slot slots items a) b ≡ item_of_slot slots items b
stays_in_slot [] items a b n = refl
stays_in_slot (s ∷ slots) [] a b n = none_at (without_slot (s ∷ slots) (s ∷ slots) a) b
stays_in_slot (s ∷ slots) (y ∷ items) a b n = by (nat_eq s a) refl (stays_in_slot slots items a b n)
  where
    by : (c : Bool) → nat_eq s a ≡ c → item_of_slot (without_slot slots slots a) (without_slot slots items a) b ≡ item_of_slot slots items b → item_of_slot (without_slot (s ∷ slots) (s ∷ slots) a) (without_slot (s ∷ slots) (y ∷ items) a) b ≡ item_of_slot (s ∷ slots) (y ∷ items) b
    by true e rest = rw e (rw (ap (λ t. nat_eq t b) (eqb-true s a e) ∙ n) refl)
    by false e rest = rw e (ap (λ o. cond (nat_eq s b) (Some y) o) rest)

-- a slot that has an item is itself the slot's
own_slot : {T : Type 0} (slots : List ℕ) (items : List T) (slot : ℕ) → is_some (item_of_slot slots items slot) ≡ true → item_of_slot slots slots slot ≡ Some slot
own_slot [] items slot some = absurd (true≢false (sym some))
own_slot (s ∷ slots) [] slot some = absurd (true≢false (sym some))
own_slot (s ∷ slots) (y ∷ items) slot some = by (nat_eq s slot) refl some (own_slot slots items slot)
  where
    by : (b : Bool) → nat_eq s slot ≡ b → is_some (cond b (Some y) (item_of_slot slots items slot)) ≡ true → (is_some (item_of_slot slots items slot) ≡ true → item_of_slot slots slots slot ≡ Some slot) → item_of_slot (s ∷ slots) (s ∷ slots) slot ≡ Some slot
    by true e there rest = rw e (ap Some (eqb-true s slot e))
    by false e there rest = rw e (rest there)

pub after_taken : {S T : Type 0} (old new : BiHashItems S T) (slot : ℕ) (x : T) → item_of_slot old.slots old.items slot ≡ Some x → LosesPlaceOf slot old new → (new.items ≡ without_slot old.slots old.items slot) × (new.slots ≡ without_slot old.slots old.slots slot)
after_taken old new slot x there leaves =
    let p = slot_place old.slots old.items slot x there in
    let q = slot_place old.slots old.slots slot slot (own_slot old.slots old.items slot (ap is_some there)) in
    ((leaves p.place p.slot_there).0 ∙ sym p.others, (leaves q.place q.slot_there).1 ∙ sym q.others)

pub one_fewer : {S T : Type 0} (old new : BiHashItems S T) (slot : ℕ) (x : T) → item_of_slot old.slots old.items slot ≡ Some x → LosesPlaceOf slot old new → length new.items + 1 ≡ length old.items
one_fewer old new slot x there leaves =
    let p = slot_place old.slots old.items slot x there in
    let left = (leaves p.place p.slot_there).0 in
    omega (arith, length-remove old.items p.place (slice_get_within old.items p.place x p.item_there), ap length left)

pub took_one : {S T : Type 0} (old new : BiHashItems S T) (slot : ℕ) (x : T) → item_of_slot old.slots old.items slot ≡ Some x → LosesPlaceOf slot old new → (x ∷ [] ≡ filter_map (item_of_slot old.slots old.items) (slot ∷ [])) × (new.items ≡ without_slots old.slots old.items (slot ∷ []))
took_one old new slot x there leaves = (sym (ap (λ o. cons_option o []) there), (after_taken old new slot x there leaves).0)

module _ {S T : Type 0} (old mid : BiHashItems S T) (s t : ℕ) (x : T) (there : item_of_slot old.slots old.items s ≡ Some x) (leaves : LosesPlaceOf s old mid) (n : nat_eq s t ≡ false) where
  same_item : item_of_slot mid.slots mid.items t ≡ item_of_slot old.slots old.items t
  same_item =
      let left = after_taken old mid s x there leaves in
      ap (λ items. item_of_slot mid.slots items t) left.0 ∙ ap (λ slots. item_of_slot slots (without_slot old.slots old.items s) t) left.1 ∙ stays_in_slot old.slots old.items s t n

  pub still_occupied : is_some (item_of_slot old.slots old.items t) ≡ true → is_some (item_of_slot mid.slots mid.items t) ≡ true
  still_occupied some = ap is_some same_item ∙ some

  pub took_two : (new : BiHashItems S T) (y : T) → item_of_slot mid.slots mid.items t ≡ Some y → LosesPlaceOf t mid new → (x ∷ y ∷ [] ≡ filter_map (item_of_slot old.slots old.items) (s ∷ t ∷ [])) × (new.items ≡ without_slots old.slots old.items (s ∷ t ∷ []))
  took_two new y here goes =
      let left = after_taken old mid s x there leaves in (
        sym (ap (λ o. cons_option o (cons_option (item_of_slot old.slots old.items t) [])) there ∙ ap (λ o. x ∷ cons_option o []) (sym same_item ∙ here)),
        (after_taken mid new t y here goes).0 ∙ ap (λ items. without_slot mid.slots items t) left.0 ∙ ap (λ slots. without_slot slots (without_slot old.slots old.items s) t) left.1,
      )

pub some_values : {T : Type 0} (few : Few T) → 1 ≤ length (values_of few)
some_values (One a) = omega arith
some_values (Two a b) = omega arith
some_values (Three a b c) = omega arith

pub found_there : (P : ℕ → Type 0) (one other : Option ℕ) → IfSome one P → IfSome other P → AllByRecursion P (as_list one ++ as_list (other_slot one other))
found_there P None None at1 at2 = tt
found_there P None (Some t) at1 at2 = (at2, tt)
found_there P (Some s) None at1 at2 = (at1, tt)
found_there P (Some s) (Some t) at1 at2 = elim (s == t) as (λ b. AllByRecursion P (s ∷ as_list (cond b None (Some t)))) [ true ↦ (at1, tt) | false ↦ (at1, (at2, tt)) ]

pub none_same : (a b : Option ℕ) → [] ≡ as_list a ++ as_list (other_slot a b) → false ≡ found_same a b
none_same None b none = refl
none_same (Some s) b none = cc

pub pair_occupied : (P : ℕ → Type 0) (a b : ℕ) → P a → P b → AllByRecursion P (slots_of_pair a b)
pair_occupied P a b one other = elim (a == b) as (λ c. AllByRecursion P (cond c (a ∷ []) (a ∷ b ∷ []))) [ true ↦ (one, tt) | false ↦ (one, (other, tt)) ]

pub pair_each : (P : ℕ → Type 0) (a b : ℕ) → AllByRecursion P (slots_of_pair a b) → P a × P b
pair_each P a b = ⊎_elim
    (λ same. rw (eq-eqb a b same) (λ all. (all.0, subst P same all.0)))
    (λ n. rw (ne_eqb a b n) (λ all. (all.0, all.1.0)))
    (cases_eq a b)

pub pair_apart : (a b : ℕ) → IsDistinct nat_eq (slots_of_pair a b)
unfolding IsDistinct
pair_apart a b = ⊎_elim
    (λ same. rw (eq-eqb a b same) (tt, tt))
    (λ n. rw (ne_eqb a b n) ((ne_eqb a b n, tt), (tt, tt)))
    (cases_eq a b)

pub pair_few : (a b : ℕ) → length (slots_of_pair a b) ≤ 2
pair_few a b = elim (a == b) as (λ c. length (cond c (a ∷ []) (a ∷ b ∷ [])) ≤ 2) [ true ↦ omega arith | false ↦ omega arith ]

pub apart_slots : (s t : ℕ) → IsDistinct nat_eq (s ∷ t ∷ []) → nat_eq s t ≡ false
unfolding IsDistinct
apart_slots s t apart = apart.0.0

module _ {T K L : Type 0} (key1 : T → K) (key2 : T → L) {eq1 : K → K → Bool} {eq2 : L → L → Bool} (laws1 : IsEquivalence eq1) (laws2 : IsEquivalence eq2) (test1 : K → Bool) (test2 : L → Bool) (tests1 : IsKeyTest eq1 test1) (tests2 : IsKeyTest eq2 test2) (slots : List ℕ) (items : List T) (differ1 : NoTwoAkin key1 eq1 items) (differ2 : NoTwoAkin key2 eq2 items) where
  abbrev item : ℕ → Option T
  item slot = item_of_slot slots items slot

  abbrev apart : T → Option T
  apart y = cond (not (test1 (key1 y))) (Some y) None

  module _ (a b : Option ℕ) (found1 : option_and_then item a ≡ find_item key1 test1 items) (found2 : option_and_then item b ≡ find_item key2 test2 items) (only1 : (slot : ℕ) → (a ≡ Some slot) ↔ IsSomeAnd (item slot) (λ y. test1 (key1 y) ≡ true)) (only2 : (slot : ℕ) → (b ≡ Some slot) ↔ IsSomeAnd (item slot) (λ y. test2 (key2 y) ≡ true)) where
    -- the second item is the one of the second key, if it has not the first too
    second : find_item key2 test2 (items_without key1 test1 items) ≡ option_and_then apart (find_item key2 test2 items)
    second = find_kept (λ y. test2 (key2 y)) (λ y. not (test1 (key1 y))) items ∙ both_found key2 key1 test2 tests2 (λ k. not (test1 k)) items differ2

    -- the slot is not the first one, so its item has not the first key
    not_first : (s : ℕ) → (a ≡ Some s → ⊥) → item s ≡ option_and_then apart (item s)
    not_first s n = by (item s) refl
      where
        passes : (y : T) → item s ≡ Some y → (c : Bool) → test1 (key1 y) ≡ c → Some y ≡ cond (not c) (Some y) None
        passes y e false f = refl
        passes y e true f = absurd (n ((only1 s).1 (rw e f)))

        by : (o : Option T) → item s ≡ o → o ≡ option_and_then apart o
        by None e = refl
        by (Some y) e = passes y e (test1 (key1 y)) refl

    first_out : (o : Option T) → IsSomeAnd o (λ y. test1 (key1 y) ≡ true) → None ≡ option_and_then apart o
    first_out (Some y) has = rw has refl
    first_out None has = refl

    other_item : option_and_then item (other_slot a b) ≡ option_and_then apart (option_and_then item b)
    other_item = by a b refl refl
      where
        by : (c d : Option ℕ) → a ≡ c → b ≡ d → option_and_then item (other_slot c d) ≡ option_and_then apart (option_and_then item d)
        by None None e f = refl
        by (Some s) None e f = refl
        by None (Some t) e f = not_first t (λ h. (let none = sym e ∙ h in cc))
        by (Some s) (Some t) e f = ⊎_elim
            (λ same. rw (eq-eqb s t same) (first_out (item t) ((only1 t).0 (e ∙ ap Some same))))
            (λ n. rw (ne_eqb s t n) (not_first t (λ h. n (let both = sym e ∙ h in cc))))
            (cases_eq s t)

    -- the other item is found in what the first search leaves
    other_found : find_item key2 test2 (items_without key1 test1 items) ≡ option_and_then item (other_slot a b)
    other_found = second ∙ ap (option_and_then apart) (sym found2) ∙ sym other_item

    pub found_items : filter_map item (as_list a ++ as_list (other_slot a b)) ≡ items_found key1 key2 test1 test2 items
    found_items =
        few_items item a (other_slot a b)
        ∙ ap (λ o. as_list o ++ as_list (option_and_then item (other_slot a b))) found1
        ∙ ap (λ o. as_list (find_item key1 test1 items) ++ as_list o) (sym other_found)

    occupied1 : (s : ℕ) → a ≡ Some s → is_some (item s) ≡ true
    occupied1 s e = some_of_and (λ y. test1 (key1 y) ≡ true) (item s) ((only1 s).0 e)

    occupied2 : (t : ℕ) → b ≡ Some t → is_some (item t) ≡ true
    occupied2 t e = some_of_and (λ y. test2 (key2 y) ≡ true) (item t) ((only2 t).0 e)

    mid_differs : NoTwoAkin key2 eq2 (items_without key1 test1 items)
    mid_differs = differ_filter key2 eq2 (λ y. not (test1 (key1 y))) items differ2

    pub found_left : without_slots slots items (as_list a ++ as_list (other_slot a b)) ≡ items_left key1 key2 test1 test2 items
    found_left = by a b refl refl other_found
      where
        none_left : find_item key2 test2 (items_without key1 test1 items) ≡ None → items_without key1 test1 items ≡ items_left key1 key2 test1 test2 items
        none_left none = without_absent key2 test2 (items_without key1 test1 items) none

        first_none : a ≡ None → items ≡ items_without key1 test1 items
        first_none e = without_absent key1 test1 items (sym found1 ∙ ap (option_and_then item) e)

        first_some : (s : ℕ) → a ≡ Some s → without_slot slots items s ≡ items_without key1 test1 items
        first_some s e = others_found key1 laws1 test1 tests1 slots items differ1 s (occupied1 s e) (sym found1 ∙ ap (option_and_then item) e)

        both_left : (s t : ℕ) → a ≡ Some s → b ≡ Some t → nat_eq s t ≡ false → find_item key2 test2 (items_without key1 test1 items) ≡ item t → without_slot (without_slot slots slots s) (without_slot slots items s) t ≡ items_left key1 key2 test1 test2 items
        both_left s t e f n found =
            let left = first_some s e in
            let stays = stays_in_slot slots items s t n in
            others_found key2 laws2 test2 tests2 (without_slot slots slots s) (without_slot slots items s) (subst (NoTwoAkin key2 eq2) (sym left) mid_differs) t (ap is_some stays ∙ occupied2 t f) (ap (find_item key2 test2) left ∙ found ∙ sym stays)
            ∙ ap (items_without key2 test2) left

        by : (c d : Option ℕ) → a ≡ c → b ≡ d → find_item key2 test2 (items_without key1 test1 items) ≡ option_and_then item (other_slot c d) → without_slots slots items (as_list c ++ as_list (other_slot c d)) ≡ items_left key1 key2 test1 test2 items
        by None None e f found = first_none e ∙ none_left found
        by (Some s) None e f found = first_some s e ∙ none_left found
        by None (Some t) e f found =
            others_found key2 laws2 test2 tests2 slots items differ2 t (occupied2 t f) (sym found2 ∙ ap (option_and_then item) f) ∙ ap (items_without key2 test2) (first_none e)
        by (Some s) (Some t) e f found = ⊎_elim
            (λ same. rw (eq-eqb s t same) (first_some s e ∙ none_left (rw (eq-eqb s t same) at found)))
            (λ n. rw (ne_eqb s t n) (both_left s t e f (ne_eqb s t n) (rw (ne_eqb s t n) at found)))
            (cases_eq s t)

    abbrev keeps : T → Option T
    keeps x = cond (test2 (key2 x)) (Some x) None

    passed : (o : Option T) → IsSomeAnd o (λ y. test2 (key2 y) ≡ true) → true ≡ is_some (option_and_then keeps o)
    passed (Some y) has = rw has refl
    passed None has = absurd has

    failed : (s : ℕ) → (b ≡ Some s → ⊥) → false ≡ is_some (option_and_then keeps (item s))
    failed s n = by (item s) refl
      where
        test : (y : T) → item s ≡ Some y → (c : Bool) → test2 (key2 y) ≡ c → false ≡ is_some (cond c (Some y) None)
        test y e false f = refl
        test y e true f = absurd (n ((only2 s).1 (rw e f)))

        by : (o : Option T) → item s ≡ o → false ≡ is_some (option_and_then keeps o)
        by None e = refl
        by (Some y) e = test y e (test2 (key2 y)) refl

    pub both_found_same : found_same a b ≡ is_some (find_by_both key1 key2 test1 test2 items)
    both_found_same = by a b refl refl ∙ ap is_some (ap (option_and_then keeps) found1 ∙ sym (both_found key1 key2 test1 tests1 test2 items differ1))
      where
        both : (s t : ℕ) → b ≡ Some t → found_same (Some s) (Some t) ≡ is_some (option_and_then keeps (item s))
        both s t f = ⊎_elim
            (λ same. rw (eq-eqb s t same) (passed (item s) ((only2 s).0 (f ∙ ap Some (sym same)))))
            (λ n. rw (ne_eqb s t n) (failed s (λ h. n (let same = sym f ∙ h in cc))))
            (cases_eq s t)

        by : (c d : Option ℕ) → a ≡ c → b ≡ d → found_same c d ≡ is_some (option_and_then keeps (option_and_then item a))
        by None d e f = ap (λ o. is_some (option_and_then keeps (option_and_then item o))) (sym e)
        by (Some s) None e f = failed s (λ h. (let none = sym f ∙ h in cc)) ∙ ap (λ o. is_some (option_and_then keeps (option_and_then item o))) (sym e)
        by (Some s) (Some t) e f = both s t f ∙ ap (λ o. is_some (option_and_then keeps (option_and_then item o))) (sym e)
