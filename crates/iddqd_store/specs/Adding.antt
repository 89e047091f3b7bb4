-- What `extend_unique` of a map of one key leaves and shows. `Unique` has the same of any keys.
--     AddsGiven      all items were inserted
--     ShowsFirstConflict      what it shows of the iterator's items
--     RefusesAdding, StopsAdding      there was no room; what it shows in either case, and what is in the map then
--     HaltsAdding, HaltsAt      the same while the existing item is known by its slot alone, and one step of it
--     Adds, Halts, ShowsConflict      the same of what an iterable gives
--     OnItemRefused, OnItemBack      what holds if an item is returned because there is no room, of the error and of a halt
use Rattle.std.specs.Prelude.{◌≡◌, Bool, List, [], ◌∷◌, Some, OnSome}
use Rattle.iddqd_store.specs.Collecting.{Meets}
use Rattle.iddqd_store.specs.Contents.{NoTwoAkin, find_item}
use Rattle.iddqd_store.specs.Holding.{Holding}
use Rattle.iddqd_store.specs.Refusal.{FindsNoRoom}
use Rattle.iddqd_store.specs.SlotItems.{item_of_slot}
use Rattle.iddqd_store.specs.Unique as unique
use Rattle.iddqd_store.specs.declared.errors.ExtendError.{ExtendError}
use Rattle.iddqd_store.specs.declared.errors.ExtendUniqueError.{ExtendUniqueError}
use Rattle.iddqd_store.specs.declared.errors.ExtendUniqueError.TheVariants.{Duplicate, Refused}
use Rattle.iddqd_store.specs.declared.gives.Gives as gives
use Rattle.iddqd_store.specs.declared.not_inserted.NotInserted.{NotInserted}
use Rattle.iddqd_store.specs.declared.not_inserted.NotInserted.TheVariants.{Akin, NoRoom}

module _ {T K : Type 0} (key : T → K) (eq : K → K → Bool) where
  abbrev pub AddsGiven : (gives : List T → Type 0) (old new : List T) → Type 0
  AddsGiven = unique.AddsGiven (NoTwoAkin key eq)

  abbrev pub ShowsFirstConflict : (gives : List T → T → Type 0) (old : List T) → ExtendUniqueError T → Type 0
  ShowsFirstConflict = unique.ShowsFirstConflict (NoTwoAkin key eq) (Meets key eq)

  abbrev pub RefusesAdding : (gives : List T → T → Type 0) (old new : Holding T) → ExtendError T → Type 0
  RefusesAdding = unique.RefusesAdding (NoTwoAkin key eq) (Meets key eq)

  abbrev pub StopsAdding : (gives : List T → T → Type 0) (old new : Holding T) → ExtendUniqueError T → Type 0
  StopsAdding = unique.StopsAdding (NoTwoAkin key eq) (Meets key eq)

  -- the same, with the slot of the existing item
  abbrev pub HaltsAdding : (gives : List T → T → Type 0) (old new : Holding T) → NotInserted T (ExtendError T) → Type 0
  HaltsAdding gives old new (Akin x slot) =
      (there : T)
      × unique.StopsBeside (NoTwoAkin key eq) (Meets key eq) gives old.items new.items x (there ∷ [])
      × (item_of_slot new.slots new.items slot ≡ Some there)
  HaltsAdding gives old new (NoRoom e) = RefusesAdding gives old new e

  -- x is not inserted
  abbrev pub HaltsAt : T → Holding T → NotInserted T (ExtendError T) → Type 0
  HaltsAt x m (Akin y slot) = (y ≡ x) × (there : T) × (find_item key (eq (key x)) m.items ≡ Some there) × (item_of_slot m.slots m.items slot ≡ Some there)
  HaltsAt x m (NoRoom e) = (e.item ≡ Some x) × FindsNoRoom key eq m.limit m.items x e.error

-- what holds if an item found no room
abbrev pub OnItemRefused : {T : Type 0} → Type 0 → ExtendUniqueError T → Type 0
OnItemRefused P (Duplicate d) = Unit
OnItemRefused P (Refused e) = OnSome e.item P

abbrev pub OnItemBack : {T : Type 0} → Type 0 → NotInserted T (ExtendError T) → Type 0
OnItemBack P (Akin x slot) = Unit
OnItemBack P (NoRoom e) = OnSome e.item P

-- of what an iterable gives, as its `Gives` says
module _ {T K U : Type 0} (key : T → K) (eq : K → K → Bool) (given : gives.Ghosts U T) (iter : U) where
  -- all items were inserted beside the old ones
  abbrev pub Adds : (old new : Holding T) → Type 0
  Adds old new = AddsGiven key eq (given.gives_all iter) old.items new.items

  -- the first item that was not inserted, and what the map holds then
  abbrev pub Halts : (old new : Holding T) → NotInserted T (ExtendError T) → Type 0
  Halts old new = HaltsAdding key eq (given.gives_then iter) old new

  -- the first item whose key one in the map had is shown beside that one
  abbrev pub ShowsConflict : Holding T → ExtendUniqueError T → Type 0
  ShowsConflict old = ShowsFirstConflict key eq (given.gives_then iter) old.items
