-- A plain list of items that have two keys. By one key alone, all is as in a list of items of that key (`Contents`).
--     find_by_both, FindsByBoth, LacksByBoth      the item whose keys pass both tests (`get_unique`), or that there is none
--     items_without_both, RemovesByBoth      the items, without that one; it was removed
--     items_met, items_unmet      of an item: the items that have one of its keys, in their order and each once, and the others
--     other_slot, found_same      the slot that the second of two searches found, if the first found another; both found one
--     slots_of_pair, slots_found      two slots, or one if they are the same, and those that searches found, if any
--     without_slots      the items, without those of these slots
--     items_found, items_left      of two tests: the items that pass one of them, that of the first key first, and the others
--     items_displaced      of an item: those that have one of its keys, that of the first key first (`insert_overwrite`)
use Rattle.std.specs.Borrow.{Bor}
use Rattle.std.specs.Prelude.{◌≡◌, ◌==◌, ℕ, Bool, true, false, not, List, [], ◌∷◌, ◌++◌, Option, Some, None, filter, find, option_copied, if◌then◌else◌}
use Rattle.iddqd_store.specs.Contents.{find_item, items_without}
use Rattle.iddqd_store.specs.SlotItems.{without_slot}

-- an item, or none, as a list
abbrev pub as_list : {T : Type 0} → Option T → List T
as_list None = []
as_list (Some x) = x ∷ []

abbrev pub other_slot : Option ℕ → Option ℕ → Option ℕ
other_slot None other = other
other_slot (Some a) None = None
other_slot (Some a) (Some b) = if a == b then None else Some b

abbrev pub found_same : Option ℕ → Option ℕ → Bool
found_same None other = false
found_same (Some a) None = false
found_same (Some a) (Some b) = a == b

abbrev pub slots_of_pair : ℕ → ℕ → List ℕ
slots_of_pair a b = if a == b then a ∷ [] else a ∷ b ∷ []

abbrev pub slots_found : Option (ℕ × ℕ) → List ℕ
slots_found None = []
slots_found (Some pair) = slots_of_pair pair.0 pair.1

abbrev pub without_slots : {T : Type 0} → List ℕ → List T → List ℕ → List T
without_slots slots items [] = items
without_slots slots items (s ∷ gone) = without_slots (without_slot slots slots s) (without_slot slots items s) gone

module _ {T K L : Type 0} (key1 : T → K) (key2 : T → L) where
  abbrev pub items_found : (K → Bool) → (L → Bool) → List T → List T
  items_found test1 test2 items = as_list (find_item key1 test1 items) ++ as_list (find_item key2 test2 (items_without key1 test1 items))

  abbrev pub items_left : (K → Bool) → (L → Bool) → List T → List T
  items_left test1 test2 items = items_without key2 test2 (items_without key1 test1 items)

  abbrev pub passes_both : (K → Bool) → (L → Bool) → T → Bool
  passes_both test1 test2 x = if test1 (key1 x) then test2 (key2 x) else false

  abbrev pub find_by_both : (K → Bool) → (L → Bool) → List T → Option T
  find_by_both test1 test2 items = find (passes_both test1 test2) items

  -- a search finds this item and lends it, or there is none
  abbrev pub FindsByBoth : (K → Bool) → (L → Bool) → List T → Option (Bor T) → Type 0
  FindsByBoth test1 test2 items lent = option_copied lent ≡ find_by_both test1 test2 items

  -- no item's keys pass both tests
  abbrev pub LacksByBoth : (K → Bool) → (L → Bool) → List T → Type 0
  LacksByBoth test1 test2 items = find_by_both test1 test2 items ≡ None

  abbrev pub items_without_both : (K → Bool) → (L → Bool) → List T → List T
  items_without_both test1 test2 items = filter (λ x. not (passes_both test1 test2 x)) items

  abbrev pub RemovesByBoth : (K → Bool) → (L → Bool) → List T → List T → Type 0
  RemovesByBoth test1 test2 old new = new ≡ items_without_both test1 test2 old

  module _ (eq1 : K → K → Bool) (eq2 : L → L → Bool) (x : T) where
    abbrev pub has_one_of_keys : T → Bool
    has_one_of_keys y = if eq1 (key1 x) (key1 y) then true else eq2 (key2 x) (key2 y)

    abbrev pub items_met : List T → List T
    items_met items = filter has_one_of_keys items

    abbrev pub items_unmet : List T → List T
    items_unmet items = filter (λ y. not (has_one_of_keys y)) items

    abbrev pub items_displaced : List T → List T
    items_displaced = items_found (eq1 (key1 x)) (eq2 (key2 x))
