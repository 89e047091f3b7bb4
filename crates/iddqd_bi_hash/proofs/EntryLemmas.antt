-- What entries of a hash map of two keys stand on.
--     left_lacks1, left_lacks2      no item that two tests leave passes one of them
--     same_slots      the slots of two searches that found one
--     one_item, one_other      the item of an entry whose slots are one, and the others
--     has_items      an entry whose first slot has an item has one
--     both_item, item_if      the item that the first search found passes both tests, if one does
--     same_entry      an entry is told by its map, its slots and whether it is unique
use Rattle.std.proofs.Common.{◌≡◌, ◌==◌, ◌∙◌, ℕ, Bool, true, false, cond, List, [], ◌∷◌, ◌++◌, not, Option, Some, None, IsSome, is_some, refl, sym, ap, ⊎_elim, true≢false}
use Rattle.std.proofs.Props.{props}
use Rattle.std.proofs.lemmas.Bool.{cases_eq, eq-eqb, ne_eqb}
use Rattle.std.specs.List.{filter_map}
use Rattle.std.specs.Option.{option_and_then}
use mathlib.Core.HLevel.{is_prop→PathP}
use Rattle.iddqd_store.specs.Contents.{IsAbsent, items_without}
use Rattle.iddqd_store.specs.SlotItems.{item_of_slot, without_slot}
use Rattle.iddqd_store.proofs.ChangeLemmas.{find_removed, still_absent_removed}
use Rattle.iddqd_bi_hash.specs.TwoKeys.{as_list, found_same, items_left, other_slot, slots_of_pair, without_slots}
use Rattle.iddqd_bi_hash.specs.declared.bi_hash_map.entry.OccupiedEntry.{OccupiedEntry}

module _ {T K L : Type 0} (key1 : T → K) (key2 : T → L) (test1 : K → Bool) (test2 : L → Bool) (items : List T) where
  pub left_lacks1 : IsAbsent key1 test1 (items_left key1 key2 test1 test2 items)
  left_lacks1 =
      still_absent_removed (λ x. test1 (key1 x)) (λ x. not (test2 (key2 x))) (items_without key1 test1 items) (items_left key1 key2 test1 test2 items) refl
      (find_removed (λ x. test1 (key1 x)) (λ x. not (test1 (key1 x))) items (items_without key1 test1 items) refl refl)

  pub left_lacks2 : IsAbsent key2 test2 (items_left key1 key2 test1 test2 items)
  left_lacks2 = find_removed (λ x. test2 (key2 x)) (λ x. not (test2 (key2 x))) (items_without key1 test1 items) (items_left key1 key2 test1 test2 items) refl refl

pub same_slots : (one other : Option ℕ) (first second : ℕ) → slots_of_pair first second ≡ as_list one ++ as_list (other_slot one other) → found_same one other ≡ true → (one ≡ Some first) × (first ≡ second)
same_slots None other first second told same = absurd (true≢false (sym same))
same_slots (Some a) None first second told same = absurd (true≢false (sym same))
same_slots (Some a) (Some b) first second told same =
    let one : slots_of_pair first second ≡ a ∷ [] = told ∙ ap (λ c. a ∷ as_list (cond c None (Some b))) same in
    ⊎_elim
    (λ e. (let is : first ∷ [] ≡ a ∷ [] = rw (eq-eqb first second e) at one in let here : first ≡ a = cc in (ap Some (sym here), e)))
    (λ n. absurd (let is : first ∷ second ∷ [] ≡ a ∷ [] = rw (ne_eqb first second n) at one in cc))
    (cases_eq first second)

module _ {T : Type 0} (slots : List ℕ) (items : List T) (first second : ℕ) (same : first ≡ second) where
  pub one_item : (x : T) → item_of_slot slots items first ≡ Some x → filter_map (item_of_slot slots items) (slots_of_pair first second) ≡ x ∷ []
  one_item x there = rw (eq-eqb first second same) (rw there refl)

  pub one_other : without_slots slots items (slots_of_pair first second) ≡ without_slot slots items first
  one_other = rw (eq-eqb first second same) refl

pub has_items : {T : Type 0} (slots : List ℕ) (items : List T) (first second : ℕ) → is_some (item_of_slot slots items first) ≡ true → filter_map (item_of_slot slots items) (slots_of_pair first second) ≡ [] → ⊥
has_items {T} slots items first second some = by (item_of_slot slots items first) refl some (first == second)
  where
    behind : (x : T) → item_of_slot slots items first ≡ Some x → (rest : List ℕ) → filter_map (item_of_slot slots items) (first ∷ rest) ≡ [] → ⊥
    behind x at rest none =
        let there : filter_map (item_of_slot slots items) (first ∷ rest) ≡ x ∷ filter_map (item_of_slot slots items) rest = rw at refl in
        absurd (let is : x ∷ filter_map (item_of_slot slots items) rest ≡ [] = sym there ∙ none in cc)

    by : (o : Option T) → item_of_slot slots items first ≡ o → is_some o ≡ true → (one : Bool) → filter_map (item_of_slot slots items) (cond one (first ∷ []) (first ∷ second ∷ [])) ≡ [] → ⊥
    by None at s one none = true≢false (sym s)
    by (Some x) at s true none = behind x at [] none
    by (Some x) at s false none = behind x at (second ∷ []) none

-- a test of the first search's item
pub both_item : {T : Type 0} (p : T → Bool) (o found : Option T) → found ≡ option_and_then (λ x. cond (p x) (Some x) None) o → (b : Bool) → b ≡ is_some found → cond b o None ≡ found
both_item p o None is b told = rw told refl
both_item p None (Some y) is b told = absurd (let none : Some y ≡ None = is in cc)
both_item p (Some x) (Some y) is b told = rw told (by (p x) refl is)
  where
    by : (c : Bool) → p x ≡ c → Some y ≡ cond c (Some x) None → Some x ≡ Some y
    by true e found = sym found
    by false e found = absurd (true≢false (ap is_some found))

pub item_if : {T : Type 0} (b : Bool) (one other : Option T) → (b ≡ true → one ≡ other) → cond b one None ≡ cond b other None
item_if true one other same = same refl
item_if false one other same = refl

pub same_entry : {S T : Type 0} (e : OccupiedEntry T S) (there1 : IsSome (item_of_slot e.map.now.slots e.map.now.items e.first)) (there2 : IsSome (item_of_slot e.map.now.slots e.map.now.items e.second)) (same : e.unique ≡ true → e.first ≡ e.second) → record e { there1 = there1; there2 = there2; same = same } ≡ e
same_entry e there1 there2 same i = record e {
  there1 = is_prop→PathP (λ j. IsSome (item_of_slot e.map.now.slots e.map.now.items e.first)) (λ j. hlevel props) there1 e.there1 i;
  there2 = is_prop→PathP (λ j. IsSome (item_of_slot e.map.now.slots e.map.now.items e.second)) (λ j. hlevel props) there2 e.there2 i;
  same = is_prop→PathP (λ j. e.unique ≡ true → e.first ≡ e.second) (λ j. hlevel props) same e.same i;
}
