-- What it is to insert items one after another, of which none replaces another, in a map of any keys (`from_iter_unique`,
-- `extend_unique`). A kind of map says two things of a list of items:
--     Differ items      no two of the items have a key in common
--     Meets x items met      of the items, these have a key of x
-- By them:
--     AddsAll, AddsGiven      items are added, and no two of all have a key in common
--     IsFirstRepeat, IsFirstConflict      the first item that has a key of an earlier one, or of one that is in the map by then
--     ShowsMet, ShowsFirstRepeat      the error of `from_iter_unique`, and one step of it
--     StopsBeside      an item meets some, and those before it are in the map
--     FindsNoRoom, RefusesAdding      an item that meets none finds no room, and is returned
--     ShowsFirstConflict, StopsAdding      the error of `extend_unique`, and what is in the map then
-- gives says what the iterator gave: all of its items, or some and then one more. An error shows at least one existing item (`Few`).
use Rattle.std.specs.Prelude.{◌≡◌, ℕ, List, [], ◌++◌, IfSome, IfNone, IsPermutation}
use Rattle.iddqd_store.specs.Errors.{new_item_of, duplicates_of, lent_duplicates_of}
use Rattle.iddqd_store.specs.Holding.{Holding, KeepsItems}
use Rattle.iddqd_store.specs.Refusal.{RefusalKind, refusal_kind}
use Rattle.iddqd_store.specs.declared.errors.ExtendError.{ExtendError}
use Rattle.iddqd_store.specs.declared.errors.ExtendUniqueError.{ExtendUniqueError}
use Rattle.iddqd_store.specs.declared.errors.ExtendUniqueError.TheVariants as extending
use Rattle.iddqd_store.specs.declared.errors.FromIterError.{FromIterError}
use Rattle.iddqd_store.specs.declared.errors.FromIterError.TheVariants as collecting

-- x is shown as new, and the items that it meets as its duplicates
abbrev pub ShowsMet : {T : Type 0} (Meets : T → List T → List T → Type 0) → List T → T → FromIterError T → Type 0
ShowsMet Meets items x (collecting.Duplicate d) = (new_item_of d ≡ x) × Meets x items (duplicates_of d)
ShowsMet Meets items x (collecting.Refused e) = Unit

module _ {T : Type 0} (Differ : List T → Type 0) where
  -- the items xs are added to the old ones, in any order, and no two of them all have a key in common
  pub record AddsAll (xs old new : List T) : Type 0 where
    pub differ : Differ (old ++ xs)
    pub same : IsPermutation (old ++ xs) new

  -- all items of the iterator are added
  abbrev pub AddsGiven : (gives : List T → Type 0) (old new : List T) → Type 0
  AddsGiven gives old new = (items : List T) × gives items × AddsAll items old new

  module _ (Meets : T → List T → List T → Type 0) where
    -- no two items before x have a key in common, and these of them have a key of x
    pub record IsFirstRepeat (before : List T) (x : T) (earlier : List T) : Type 0 where
      pub differ : Differ before
      pub akin : Meets x before earlier

    -- of items that are added to the old ones, no two before x have a key in common, and of the old ones and them these have one of x
    abbrev pub IsFirstConflict : (old before : List T) (x : T) (met : List T) → Type 0
    IsFirstConflict old before x met = IsFirstRepeat (old ++ before) x met

    -- the first item that repeats a key is shown as new, and the earlier ones that it meets as its duplicates
    abbrev pub ShowsFirstRepeat : (gives : List T → T → Type 0) → FromIterError T → Type 0
    ShowsFirstRepeat gives (collecting.Duplicate d) =
        (before : List T) × gives before (new_item_of d) × IsFirstRepeat before (new_item_of d) (duplicates_of d)
    ShowsFirstRepeat gives (collecting.Refused e) = Unit

    -- x is the first item that meets some, and those before it are in the map
    abbrev pub StopsBeside : (gives : List T → T → Type 0) (old new : List T) (x : T) (met : List T) → Type 0
    StopsBeside gives old new x met = (before : List T) × gives before x × IsFirstConflict old before x met × AddsAll before old new

    -- x finds no room: it meets none, and the kind is the limit's if the map is full
    abbrev pub FindsNoRoom : (limit : ℕ) → List T → T → RefusalKind → Type 0
    FindsNoRoom limit items x kind = Meets x items [] × (kind ≡ refusal_kind limit items)

    -- an item that finds no room is returned, and those before it are in the map; without an item, the iterator was
    -- not asked, and nothing has changed but the room
    abbrev pub RefusesAdding : (gives : List T → T → Type 0) (old new : Holding T) → ExtendError T → Type 0
    RefusesAdding gives old new e =
        IfSome e.item (λ x. (before : List T) × gives before x × AddsAll before old.items new.items × FindsNoRoom old.limit new.items x e.error)
        × IfNone e.item (KeepsItems old new)

    -- the first conflict is shown: its item as new, and the items that it meets as its duplicates
    abbrev pub ShowsFirstConflict : (gives : List T → T → Type 0) (old : List T) → ExtendUniqueError T → Type 0
    ShowsFirstConflict gives old (extending.Duplicate d) =
        (before : List T) × gives before (new_item_of d) × IsFirstConflict old before (new_item_of d) (lent_duplicates_of d)
    ShowsFirstConflict gives old (extending.Refused e) = Unit

    -- the first conflict is shown, and the items before it are in the map; or there was no room
    abbrev pub StopsAdding : (gives : List T → T → Type 0) (old new : Holding T) → ExtendUniqueError T → Type 0
    StopsAdding gives old new (extending.Duplicate d) = StopsBeside gives old.items new.items (new_item_of d) (lent_duplicates_of d)
    StopsAdding gives old new (extending.Refused e) = RefusesAdding gives old new e
