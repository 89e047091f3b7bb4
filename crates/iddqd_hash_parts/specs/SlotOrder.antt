-- Where a slot stands among the slots of a hash map, which rise.
--     slots_below n slots      how many of the slots have a number below n
--     IsNext slots from slot      the first slot from this number on
--     AreBelow slots n      each slot has a number below n
--     AreRising slots      the slots rise
--     FindsItemFrom slots items n found      what is found from this number on: the slot with its item, or none
--     behind slots n      the number behind the n-th slot, and 0 in front of the first
--     GoesOnAt slots from      a slot comes behind the one that this number is behind
--     FindsSlotFrom slots items n slot      the first slot from this number on
use Rattle.std.specs.Prelude.{◌≡◌, ℕ, ◌+◌, ◌<◌, ◌≤◌, IfNone, IfSome, List, Option, Some, length, slice_get, [], ◌∷◌, nat_lt, slice_index_or, if◌then◌else◌}
use Rattle.std.specs.Borrow.{Bor}
use Rattle.std.proofs.Common.{zero, suc}
use Rattle.iddqd_store.specs.SlotItems.{HaveSlots, item_of_slot}

abbrev pub slots_below : ℕ → List ℕ → ℕ
slots_below n [] = 0
slots_below n (s ∷ slots) = if nat_lt s n then suc (slots_below n slots) else slots_below n slots

abbrev pub behind : List ℕ → ℕ → ℕ
behind slots zero = 0
behind slots (suc n) = slice_index_or slots n 0 + 1

abbrev pub IsNext : List ℕ → ℕ → ℕ → Type 0
IsNext slots from slot = slice_get slots (slots_below from slots) ≡ Some slot

abbrev pub AreBelow : List ℕ → ℕ → Type 0
AreBelow slots n = slots_below n slots ≡ length slots

-- as many slots as lie in front of it are below the number behind the n-th
abbrev pub AreRising : List ℕ → Type 0
AreRising slots = (n : ℕ) → n ≤ length slots → slots_below (behind slots n) slots ≡ n

-- the first slot from this number on with its item, or none; slots and items are those of a map
pub record FindsItemFrom {T : Type 0} (slots : List ℕ) (items : List T) (from : ℕ) (found : Option (ℕ × Bor T)) : Type 0 where
  pub there : IfSome found (λ f. IsNext slots from f.0)
  pub item : IfSome found (λ f. item_of_slot slots items f.0 ≡ Some f.1.now)
  pub none : IfNone found (AreBelow slots from)
  pub rises : AreRising slots
  pub own : HaveSlots slots items

-- this is the number behind the n-th slot, and a further one comes
abbrev pub GoesOnAt : List ℕ → ℕ → Type 0
GoesOnAt slots from = (n : ℕ) × (from ≡ behind slots n) × (n < length slots)

-- the first slot from this number on
pub record FindsSlotFrom {T : Type 0} (slots : List ℕ) (items : List T) (from slot : ℕ) : Type 0 where
  pub there : IsNext slots from slot
  pub rises : AreRising slots
  pub own : HaveSlots slots items
