-- What entries stand on.
--     insert_then_get      what was put in is there
--     put_item, put_written, put_others      where an item was put in at a place, under a slot of its own: the item of that slot, a write to it, and the others
--     same_entry      an entry is told by its map, its slot and its place
use Rattle.std.proofs.Common.{◌≡◌, ℕ, zero, suc, ◌≤◌, List, [], ◌∷◌, length, insert, set, Some, refl, ap, ◌∙◌, arith}
use Rattle.std.proofs.Props.{props}
use Rattle.std.specs.Option.{IsSome}
use Rattle.std.specs.List.{remove, slice_get}
use mathlib.Core.HLevel.{is_prop→PathP}
use Rattle.iddqd_store.specs.Contents.{AddsItem}
use Rattle.iddqd_store.specs.SlotItems.{HaveSlots, item_of_slot, without_slot, written_to_slot}
use Rattle.iddqd_store.proofs.WrittenLemmas.{PlaceRead, place_read}
use Rattle.iddqd_ord.specs.declared.id_ord_map.entry.OccupiedEntry.{OccupiedEntry}

module _ {T : Type 0} where
  pub insert_then_get : (xs : List T) (i : ℕ) (x : T) → i ≤ length xs → slice_get (insert xs i x) i ≡ Some x
  insert_then_get [] zero x h = refl
  insert_then_get [] (suc i) x h = absurd (omega arith)
  insert_then_get (y ∷ ys) zero x h = refl
  insert_then_get (y ∷ ys) (suc i) x h = insert_then_get ys i x (omega arith)

  insert_then_set : (xs : List T) (i : ℕ) (x w : T) → i ≤ length xs → set (insert xs i x) i w ≡ insert xs i w
  insert_then_set [] zero x w h = refl
  insert_then_set [] (suc i) x w h = absurd (omega arith)
  insert_then_set (y ∷ ys) zero x w h = refl
  insert_then_set (y ∷ ys) (suc i) x w h = ap (λ l. y ∷ l) (insert_then_set ys i x w (omega arith))

  insert_then_remove : (xs : List T) (i : ℕ) (x : T) → i ≤ length xs → remove (insert xs i x) i ≡ xs
  insert_then_remove [] zero x h = refl
  insert_then_remove [] (suc i) x h = absurd (omega arith)
  insert_then_remove (y ∷ ys) zero x h = refl
  insert_then_remove (y ∷ ys) (suc i) x h = ap (λ l. y ∷ l) (insert_then_remove ys i x (omega arith))

  module _ (slots : List ℕ) (old new : List T) (place slot : ℕ) (x : T) (own : HaveSlots slots new) (at : slice_get slots place ≡ Some slot) (within : place ≤ length old) (put : new ≡ insert old place x) where
    read : PlaceRead slots new place slot
    read = place_read slots new place slot own at

    pub put_item : item_of_slot slots new slot ≡ Some x
    put_item = read.item ∙ ap (λ xs. slice_get xs place) put ∙ insert_then_get old place x within

    pub put_written : (w : T) → AddsItem w old (written_to_slot slots new slot w)
    put_written w = record {
      place = place;
      within = within;
      put = read.written w ∙ ap (λ xs. set xs place w) put ∙ insert_then_set old place x w within;
    }

    pub put_others : without_slot slots new slot ≡ old
    put_others = read.others ∙ ap (λ xs. remove xs place) put ∙ insert_then_remove old place x within

  pub same_entry : (e : OccupiedEntry T) (there : IsSome (item_of_slot e.map.now.slots e.map.now.items e.slot)) (placed : slice_get e.map.now.slots e.place ≡ Some e.slot) → record e { there = there; placed = placed } ≡ e
  same_entry e there placed i = record e {
    there = is_prop→PathP (λ j. IsSome (item_of_slot e.map.now.slots e.map.now.items e.slot)) (λ j. hlevel props) there e.there i;
    placed = is_prop→PathP (λ j. slice_get e.map.now.slots e.place ≡ Some e.slot) (λ j. hlevel props) placed e.placed i;
  }
