-- What it is to insert the items of an iterator, one after another.
--     room_to_reserve      for how many items room is reserved before they are inserted
--     GivesAll, GivesThen      what an iterator gives: these items and no more, or these and then one
--     OverwritesAll      each item replaces the one of an equal key, or is added if there is none (`extend`)
--     Extends, Stops      what `extend` leaves
--     Collects      what `from_iter` makes
-- In a map of one key (`Unique` has the same of any keys):
--     Meets      the item that has a new item's key, or none
--     AddsAll      the items are added, and no two of all have equal keys (`extend_unique`)
--     IsFirstConflict      the first item whose key one in the map has by then, and that one
--     ShowsFirstRepeat, ShowsAkin      the error of `from_iter_unique`, and one step of it
--     CollectsUnique      what `from_iter_unique` makes
use Rattle.std.specs.Prelude.{◌≡◌, ℕ, ◌+◌, ◌/◌, ◌==◌, if◌then◌else◌, Bool, List, [], ◌∷◌, Option, Some, IfSome}
use Rattle.std.specs.Iterator.{YieldsThen}
use Rattle.std.specs.Iterator.Runs.{WholeRun}
use Rattle.iddqd_store.specs.Contents.{IsAbsent, NoTwoAkin, OverwritesItem, find_item}
use Rattle.iddqd_store.specs.Holding.{Holding, max_items}
use Rattle.iddqd_store.specs.Refusal.{FindsNoRoom}
use Rattle.iddqd_store.specs.Unique as unique
use Rattle.iddqd_store.specs.declared.errors.ExtendError.{ExtendError}
use Rattle.iddqd_store.specs.declared.errors.FromIterError.{FromIterError}
use Rattle.iddqd_store.specs.declared.gives.Gives as gives

-- for how many items room is reserved, by how many are in the map and how many are announced: all of these in a map
-- without items, and half of them, rounded up, in another
abbrev pub room_to_reserve : (there coming : ℕ) → ℕ
room_to_reserve there coming = if there == 0 then coming else (coming + 1) / 2

module _ {U S T : Type 0} (becomes : U → S → Type 0) (steps : S → Option T → S → Type 0) where
  abbrev pub GivesAll : U → List T → Type 0
  GivesAll iter xs = (it : S) × becomes iter it × WholeRun steps it (λ run. run.items ≡ xs)

  -- closed, so that a caller's search takes it whole
  unfoldable pub GivesThen : U → List T → T → Type 0
  GivesThen iter xs x = (it : S) × (rest : S) × becomes iter it × YieldsThen steps it xs (Some x) rest

module _ {T K : Type 0} (key : T → K) (eq : K → K → Bool) where
  abbrev pub OverwritesAll : ℕ → List T → List T → List T → Type 0
  OverwritesAll limit [] old new = new ≡ old
  OverwritesAll limit (x ∷ xs) old new = (between : List T) × (back : Option T) × OverwritesItem key eq x limit old back between × OverwritesAll limit xs between new

  -- of the items, x meets the one that has its key, or none
  abbrev pub Meets : T → List T → List T → Type 0
  Meets x items [] = IsAbsent key (eq (key x)) items
  Meets x items (there ∷ []) = find_item key (eq (key x)) items ≡ Some there
  Meets x items (a ∷ b ∷ more) = ⊥

  abbrev pub AddsAll : (xs old new : List T) → Type 0
  AddsAll = unique.AddsAll (NoTwoAkin key eq)

  -- of items that are added to the old ones, those before x have keys of their own, and x has the key of an old one or of one of
  -- them
  abbrev pub IsFirstConflict : (old before : List T) → (x there : T) → Type 0
  IsFirstConflict old before x there = unique.IsFirstConflict (NoTwoAkin key eq) Meets old before x (there ∷ [])

  abbrev pub ShowsAkin : List T → T → FromIterError T → Type 0
  ShowsAkin = unique.ShowsMet Meets

-- of what an iterable gives, as its `Gives` says
module _ {T K U : Type 0} (key : T → K) (eq : K → K → Bool) (given : gives.Ghosts U T) (iter : U) where
  -- all items were inserted, each in place of the one of an equal key
  abbrev pub Extends : (old new : Holding T) → Type 0
  Extends old new = (xs : List T) × given.gives_all iter xs × OverwritesAll key eq old.limit xs old.items new.items

  -- an item found no room and is returned, and those before it were inserted
  abbrev pub Stops : (old new : Holding T) → ExtendError T → Type 0
  Stops old new e =
      IfSome e.item (λ x. (xs : List T) × given.gives_then iter xs x × OverwritesAll key eq old.limit xs old.items new.items × FindsNoRoom key eq old.limit new.items x e.error)

  -- a new map has the items, of equal keys the last
  abbrev pub Collects : Holding T → Type 0
  Collects m = (xs : List T) × given.gives_all iter xs × OverwritesAll key eq max_items xs [] m.items

  -- a new map has the items, and no two of them have equal keys
  abbrev pub CollectsUnique : Holding T → Type 0
  CollectsUnique m = unique.AddsGiven (NoTwoAkin key eq) (given.gives_all iter) [] m.items

  -- the first item that has the key of an earlier one is shown beside that one
  abbrev pub ShowsFirstRepeat : FromIterError T → Type 0
  ShowsFirstRepeat = unique.ShowsFirstRepeat (NoTwoAkin key eq) (Meets key eq) (given.gives_then iter)
