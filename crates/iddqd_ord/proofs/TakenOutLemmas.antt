-- A slot was taken out of the index, and its item out of the store.
--     IsTakenOut, taken_out      the item at the place, and what is left
--     still_listed      a list of which a part is being taken out, from its front
--     part_taken_out      the first of that part is taken out
--     taken_absent      no item that is left has a key equal to the one's that was taken out
use Rattle.std.proofs.Common.{◌≡◌, ℕ, ◌+◌, ◌-◌, ◌≤◌, Bool, not, List, ◌∷◌, ◌++◌, length, take, drop, Some, None, refl, sym, ap, subst, ◌∙◌, arith, append_assoc, length-append}
use Rattle.std.proofs.Math.Seq.{get_or-append_seam}
use Rattle.std.proofs.lemmas.List.{take-append-drop, take-take}
use Rattle.std.proofs.lemmas.List.Edits.{remove-append_right}
use Rattle.std.proofs.lemmas.Option.{get_or_from_slice_get, slice_get-get_or, slice_get_within}
use Rattle.std.specs.Cmp.{IsEquivalence}
use Rattle.std.specs.List.{remove, slice_get}
use Rattle.std.specs.Option.{option_and_then}
use Rattle.iddqd_ord_index.specs.Listed.{listed_items}
use Rattle.iddqd_store.specs.Contents.{IsAbsent, NoTwoAkin}
use Rattle.iddqd_store.specs.Store.{Store, item_at, store_len, Updates}
use Rattle.iddqd_ord_index.proofs.ListedLemmas.{get-listed}
use Rattle.iddqd_store.proofs.ChangeLemmas.{find_removed}
use Rattle.iddqd_store.proofs.ContentsLemmas.{filter_at, only_place}
use Rattle.iddqd_ord.specs.StoreAndIndex.{ListsOccupied}
use Rattle.iddqd_ord.proofs.StoreAndIndexLemmas.{paired_removed, items_removed}

-- x is the item at the place; both are without it, and belong together
pub record IsTakenOut {T : Type 0} (old new : Store T) (slots left : List ℕ) (i : ℕ) (x : T) : Type 0 where
  pub paired : ListsOccupied new left
  pub item : slice_get (listed_items old slots) i ≡ Some x
  pub items : listed_items new left ≡ remove (listed_items old slots) i

pub taken_out : {T : Type 0} (old new : Store T) (slots left : List ℕ) (i slot : ℕ) (x : T) → ListsOccupied old slots → slice_get slots i ≡ Some slot → left ≡ remove slots i
    → item_at old slot ≡ Some x → Updates old new slot None → store_len new + 1 ≡ store_len old → IsTakenOut old new slots left i x
taken_out old new slots left i slot x paired at gone item updates len = record {
  paired = subst (ListsOccupied new) (sym gone) (paired_removed old new slots paired slot i at updates len);
  item = get-listed old slots paired.occupied i ∙ ap (option_and_then (item_at old)) at ∙ item;
  items = ap (listed_items new) gone ∙ items_removed old new slots paired slot i at updates;
}

-- the slots before `from`, those of the part that are left, and those from `to` on
abbrev pub still_listed : ℕ → ℕ → List ℕ → List ℕ → List ℕ
still_listed from to slots part = take from slots ++ (part ++ drop to slots)

-- all of the part is left
pub all_listed : (from to : ℕ) (slots : List ℕ) → from ≤ to → still_listed from to slots (drop from (take to slots)) ≡ slots
all_listed from to slots le =
    sym (append_assoc (take from slots) (drop from (take to slots)) (drop to slots))
    ∙ (ap (λ l. (l ++ drop from (take to slots)) ++ drop to slots) (sym (take-take from to slots le))
    ∙ (ap (λ l. l ++ drop to slots) (take-append-drop from (take to slots)) ∙ take-append-drop to slots))

-- the first of the part is taken out
module _ {X : Type 0} (front : List X) (x : X) (back : List X) (at : ℕ) (long : length front ≡ at) where
  pub get_first : slice_get (front ++ x ∷ back) at ≡ Some x
  get_first =
      subst (λ n. slice_get (front ++ x ∷ back) n ≡ Some x) long
      (slice_get-get_or (front ++ x ∷ back) (length front) x (omega (arith, length-append front (x ∷ back))) ∙ ap Some (get_or-append_seam front x back x))

  pub remove_first : remove (front ++ x ∷ back) at ≡ front ++ back
  remove_first =
      let z : at - at ≡ 0 = omega arith in
      remove-append_right front (x ∷ back) at at long (omega arith) ∙ ap (λ k. front ++ remove (x ∷ back) k) z

pub taken_absent : {T K : Type 0} (key : T → K) {eq : K → K → Bool} → IsEquivalence eq → (items : List T) → NoTwoAkin key eq items → (i : ℕ) (x : T) → slice_get items i ≡ Some x → IsAbsent key (eq (key x)) (remove items i)
taken_absent key {eq} equivalence items differ i x there =
    let only = only_place key equivalence (eq (key x)) (equivalence.congr (key x)) items differ i (slice_get_within items i x there) (λ d. ap (λ y. eq (key x) (key y)) (get_or_from_slice_get items i x d there) ∙ equivalence.refl (key x)) in
    find_removed (λ y. eq (key x) (key y)) (λ y. not (eq (key x) (key y))) items (remove items i) (sym (filter_at (λ y. eq (key x) (key y)) items i only)) refl
