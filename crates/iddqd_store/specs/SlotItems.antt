-- The items of a map by their slots: two lists, of the slots and of the items in them.
--     HaveSlots slots items      each item has a slot of its own
--     item_of_slot slots items slot      the item of the slot, or none
--     still_there      a slot that was written still has an item, as a map's guard says of its slot
--     written_to_slot slots items slot w      the items, with w in place of the slot's item (a write by a guard)
--     without_slot slots items slot      the items, without the slot's item (a removal by an occupied entry)
use Rattle.std.specs.Prelude.{◌≡◌, ℕ, List, [], ◌∷◌, length, nat_eq, Option, Some, None, is_some, if◌then◌else◌, ◌==◌}
use Rattle.std.specs.List.{IsDistinct}
use Rattle.std.proofs.Common.{Bool, true, false, cond, refl}

module _ {T : Type 0} where
  pub record HaveSlots (slots : List ℕ) (items : List T) : Type 0 where
    pub as_many : length slots ≡ length items
    pub each_once : IsDistinct nat_eq slots

  abbrev pub item_of_slot : List ℕ → List T → ℕ → Option T
  item_of_slot [] items slot = None
  item_of_slot (s ∷ slots) [] slot = None
  item_of_slot (s ∷ slots) (x ∷ items) slot = if s == slot then Some x else item_of_slot slots items slot

  abbrev pub written_to_slot : List ℕ → List T → ℕ → T → List T
  written_to_slot [] items slot w = items
  written_to_slot (s ∷ slots) [] slot w = []
  written_to_slot (s ∷ slots) (x ∷ items) slot w = if s == slot then w ∷ items else x ∷ written_to_slot slots items slot w

  -- if the slots are passed as items, it returns the slots without this one
  abbrev pub without_slot : List ℕ → List T → ℕ → List T
  without_slot [] items slot = items
  without_slot (s ∷ slots) [] slot = []
  without_slot (s ∷ slots) (x ∷ items) slot = if s == slot then items else x ∷ without_slot slots items slot

  pub still_there : (slots : List ℕ) (items : List T) (slot : ℕ) (w : T) → is_some (item_of_slot slots items slot) ≡ true → is_some (item_of_slot slots (written_to_slot slots items slot w) slot) ≡ true
  still_there [] items slot w some = some
  still_there (s ∷ slots) [] slot w some = some
  still_there (s ∷ slots) (y ∷ items) slot w some = by (still_there slots items slot w) (nat_eq s slot) refl some
    where
      by : (is_some (item_of_slot slots items slot) ≡ true → is_some (item_of_slot slots (written_to_slot slots items slot w) slot) ≡ true) → (b : Bool) → nat_eq s slot ≡ b → is_some (cond b (Some y) (item_of_slot slots items slot)) ≡ true → is_some (item_of_slot (s ∷ slots) (written_to_slot (s ∷ slots) (y ∷ items) slot w) slot) ≡ true
      by behind true q there = rw q (rw q refl)
      by behind false q there = rw q (rw q (behind there))
