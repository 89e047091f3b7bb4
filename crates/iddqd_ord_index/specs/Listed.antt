-- What an ordered index lists.
--     SlotList      the slots in order, and whether one more can be added without memory
--     unprepared slots      these slots, and not prepared
--     occupied_slots store slots      the slots that have an item, in order
--     listed_items store slots, listed_keys key store slots      the items at the slots, in order, and their keys
use Rattle.std.specs.Prelude.{ℕ, Bool, false, List, All, filter, filter_map, is_some}
use Rattle.iddqd_store.specs.Contents.{keys}
use Rattle.iddqd_store.specs.Store.{Store, item_at, IsOccupied}

-- an index as contracts see it: its slots in order, and whether it is prepared for one insertion at any place
pub record SlotList : Type 0 where
  pub slots : List ℕ
  pub prepared : Bool

-- these slots, and not prepared
abbrev pub unprepared : List ℕ → SlotList
unprepared slots = record { slots = slots; prepared = false }

module _ {T : Type 0} where
  -- the items at the slots, in order
  abbrev pub listed_items : Store T → List ℕ → List T
  listed_items store slots = filter_map (item_at store) slots

  -- their keys
  abbrev pub listed_keys : {K : Type 0} → (T → K) → Store T → List ℕ → List K
  listed_keys key store slots = keys key (listed_items store slots)

  -- the slots that have an item, in order
  abbrev pub occupied_slots : Store T → List ℕ → List ℕ
  occupied_slots store slots = filter (λ slot. is_some (item_at store slot)) slots

  -- each slot has an item
  abbrev pub AreOccupied : Store T → List ℕ → Type 0
  AreOccupied store slots = All (IsOccupied store) slots
