-- What a write to the item of a slot leaves, of the store and the index, and of the keys.
--     item_in_slot      the item of a listed slot is what the store has there
--     written_paired, lent_paired, lent_items, lent_vacant      the pair of store and index after the write
--     slot_is_at, found_is_at      the slot at a place has the item there
use Rattle.std.proofs.Common.{◌≡◌, ℕ, zero, suc, ◌∙◌, ⊎_elim, Bool, true, false, cond, List, [], ◌∷◌, ◌<◌, length, get_or, slice_get, subst, Some, IsSome, is_some, refl, sym, ap, arith, true≢false, nat_eq, le_of_suc-le-suc, not-suc-le-zero, suc-le-suc}
use Rattle.std.proofs.lemmas.Bool.{cases_eq, eqb-true}
use Rattle.iddqd_ord_index.specs.Listed.{listed_items, AreOccupied}
use Rattle.iddqd_store.specs.Holding.{Holding}
use Rattle.iddqd_store.specs.SlotItems.{HaveSlots, item_of_slot, written_to_slot}
use Rattle.iddqd_store.specs.Store.{Store, item_at, IsOccupied, vacant, with_item}
use Rattle.iddqd_ord_index.proofs.ListedLemmas.{listed-updated}
use Rattle.iddqd_store.proofs.StoreLemmas.{given, len_lent, updates-set, vacant_lent}
use Rattle.iddqd_store.proofs.WrittenLemmas.{place_read, slot_place}
use Rattle.iddqd_ord.specs.Guard.{IsSlotAt}
use Rattle.iddqd_ord.specs.StoreAndIndex.{ListsOccupied}

within : {X : Type 0} (xs : List X) (i : ℕ) → i < length xs → IsSome (slice_get xs i)
within [] i lt = absurd (not-suc-le-zero lt)
within (x ∷ xs) zero lt = refl
within (x ∷ xs) (suc i) lt = within xs i (le_of_suc-le-suc lt)

module _ {T : Type 0} where
  -- the item of a listed slot is what the store has there
  pub item_in_slot : (store : Store T) (slots : List ℕ) (slot : ℕ) → AreOccupied store slots → is_some (item_of_slot slots (listed_items store slots) slot) ≡ true → item_of_slot slots (listed_items store slots) slot ≡ item_at store slot
  item_in_slot store [] slot occupied some = absurd (true≢false (sym some))
  item_in_slot store (s ∷ slots) slot occupied some =
      let x = given (item_at store s) (occupied zero s (omega arith)) in
      by (item_in_slot store slots slot (λ k d h. occupied (suc k) d (suc-le-suc h))) x.0 x.1 (nat_eq s slot) refl (rw (x.1) at some)
    where
      by : (is_some (item_of_slot slots (listed_items store slots) slot) ≡ true → item_of_slot slots (listed_items store slots) slot ≡ item_at store slot) → (x : T) → item_at store s ≡ Some x → (b : Bool) → nat_eq s slot ≡ b → is_some (cond (nat_eq s slot) (Some x) (item_of_slot slots (listed_items store slots) slot)) ≡ true → item_of_slot (s ∷ slots) (listed_items store (s ∷ slots)) slot ≡ item_at store slot
      by behind x e true q some = rw e (rw q (sym e ∙ ap (item_at store) (eqb-true s slot q)))
      by behind x e false q some = rw e (rw q (behind (rw q at some)))

  -- an item that is written stays in its slot
  pub written_paired : (store : Store T) (slots : List ℕ) (slot : ℕ) → ListsOccupied store slots → IsOccupied store slot → (w : T) → ListsOccupied (with_item store slot w) slots
  written_paired store slots slot paired here w =
      let updates = updates-set store slot (Some w) here in
      record {
        each_once = paired.each_once;
        occupied = λ k d h. ⊎_elim
            (λ e. ap (λ s. is_some (item_at (with_item store slot w) s)) e ∙ ap is_some updates.changed)
            (λ n. ap is_some (updates.others _ n) ∙ paired.occupied k d h)
            (cases_eq (get_or slots k d) slot);
        listed = λ other there. paired.listed other (⊎_elim
            (λ e. ap (λ s. is_some (item_at store s)) e ∙ here)
            (λ n. ap is_some (sym (updates.others other n)) ∙ there)
            (cases_eq other slot));
        counted = paired.counted ∙ sym (len_lent store slot w here);
      }

  module _ (store : Store T) (slots : List ℕ) (slot : ℕ) (paired : ListsOccupied store slots) (some : is_some (item_of_slot slots (listed_items store slots) slot) ≡ true) where
    pub here : IsOccupied store slot
    here = ap is_some (sym (item_in_slot store slots slot paired.occupied some)) ∙ some

    pub lent_vacant : (w : T) → vacant (with_item store slot w) ≡ vacant store
    lent_vacant w = vacant_lent store slot w here

    pub lent_paired : (w : T) → ListsOccupied (with_item store slot w) slots
    lent_paired = written_paired store slots slot paired here

    pub lent_items : (w : T) → listed_items (with_item store slot w) slots ≡ written_to_slot slots (listed_items store slots) slot w
    lent_items w =
        let updates = updates-set store slot (Some w) here in
        let x = given (item_of_slot slots (listed_items store slots) slot) some in
        let p = slot_place slots (listed_items store slots) slot x.0 x.1 in
        listed-updated store (with_item store slot w) slots p.place slot w paired.each_once paired.occupied p.slot_there updates.changed updates.others ∙ sym (p.written w)

  pub slot_is_at : (m : Holding T) (place slot : ℕ) → HaveSlots m.slots m.items → place < length m.items → slice_get m.slots place ≡ Some slot → IsSlotAt m place slot
  slot_is_at m place slot own lt e =
      let read = place_read m.slots m.items place slot own e in
      record {
        item = read.item;
        there = subst IsSome (sym read.item) (within m.items place lt);
        written = read.written;
        others = read.others;
        placed = e;
      }

  -- the same of a slot that a search of the index found, for what contracts see of the map
  pub found_is_at : (seen m : Holding T) (place slot : ℕ) → HaveSlots seen.slots seen.items → seen ≡ m → place < length seen.slots → slice_get seen.slots place ≡ Some slot → IsSlotAt m place slot
  found_is_at seen m place slot own view lt e = subst (λ m. IsSlotAt m place slot) view (slot_is_at seen place slot own (omega (arith, own.as_many, lt)) e)
