-- What the calls of a hash map return and leave. `IsKeyed` says that no two items have equal keys, and that a lookup finds each.
-- Room:
--     SpareFits      the items and the spare together fit the limit
--     KeepsSpare      together they are no fewer than before, and fit the limit
--     Reserves, LacksRoomFor      there is room for n more items, or it was refused
-- Changes:
--     IsEmptyMap, HasNoItems      a map without items, before it allocates and after
--     HashStays      what stays in each call that changes a keyed map: it is keyed, keeps the spare, and has the same hasher
--     HashInserts, HashFills      an item was inserted, or several
--     HashKeeps      nothing has changed but the room, which may have grown
--     HashShrinks      the slots were closed up, and memory was given back
--     IsInsertedAt, LosesPlaceOf      an inserted item has this slot; a slot is gone
-- Searches, insertions and refusals:
--     HashOverwrites, map_overwritten      the item replaced the one of an equal key, which is returned, or was inserted
--     RefusesItem, HashReturnsItem      a refused item is returned, beside the existing one or because there is no room
-- Many items:
--     Extends, Stops, SpareFirst, KeepsIfNoItem      what `extend` leaves
--     Collects, CollectsUnique, IsCollected      the map that `from_iter` and `from_iter_unique` make
--     Adds, Halts, ShowsConflict      what `extend_unique` leaves and returns
-- Copies:
--     CloneHashesAlike      a hasher's clone hashes as the hasher does
-- After a loan:
--     map_after_insertion, map_after_extension, lends_nothing      what the map is once the result is dropped
use Rattle.std.specs.Prelude.{◌≡◌, ℕ, ◌+◌, ◌≤◌, [], length, Bool, IfErr, IfNone, OnSome, Option, IsPermutation, Result, Some}
use Rattle.std.specs.Prelude.{min as least}
use Rattle.std.specs.Borrow.{Fml, RattleType, MutBor, Lends, LendsSoOk, unit}
use Rattle.std.specs.Hash.{HashWrites}
use Rattle.iddqd_store.specs.Adding as adding
use Rattle.iddqd_store.specs.Adding.{AddsGiven, OnItemRefused, StopsAdding}
use Rattle.iddqd_store.specs.Collecting as collecting
use Rattle.iddqd_store.specs.Contents.{AddsItem, find_item, items_overwritten, items_without}
use Rattle.iddqd_store.specs.Holding.{FillsSlots, InsertsItem, Shrinks, max_items}
use Rattle.iddqd_store.specs.Refusal as refusal
use Rattle.iddqd_store.specs.Refusal.{ReturnsItem, OnDuplicate}
use Rattle.iddqd_store.specs.SlotItems.{item_of_slot, without_slot, written_to_slot}
use Rattle.iddqd_store.specs.declared.errors.ExtendError.{ExtendError}
use Rattle.iddqd_store.specs.declared.errors.ExtendUniqueError.{ExtendUniqueError}
use Rattle.iddqd_store.specs.declared.errors.InsertError.{InsertError}
use Rattle.iddqd_store.specs.declared.errors.Refused.{Refused}
use Rattle.iddqd_store.specs.declared.gives.Gives as gives
use Rattle.iddqd_store.specs.declared.not_inserted.NotInserted.{NotInserted}
use Rattle.iddqd_hash_parts.specs.HashItems.{HashItems, holding_of}
use Rattle.iddqd_hash_parts.specs.declared.keyed.Keyed as keyed
pub use Rattle.iddqd_hash_parts.specs.HashChanges.{HashInserts, HashKeeps, HashStays, KeepsSpare, LacksRoomFor, LosesPlaceOf, Reserves, SpareFits}
use Rattle.iddqd_hash.specs.contracts.id_hash_map.IdHashMap.{the_row}

module _ {S T : Type 0} where
  -- no item, no slot and so no stored hash; nothing is spare, since nothing is allocated
  abbrev pub IsEmptyMap : ℕ → HashItems S T → Type 0
  IsEmptyMap limit m = m ≡ record m { items = []; slots = []; hashes = []; spare = 0; vacant = 0; capacity = 0; limit = limit }

  -- no item, no slot and no stored hash; memory may be allocated
  abbrev pub HasNoItems : ℕ → HashItems S T → Type 0
  HasNoItems limit m = m ≡ record m { items = []; slots = []; hashes = []; vacant = 0; limit = limit }

  -- as many new keys as were spare were inserted before an item found no room
  abbrev pub HasSpareFirst : HashItems S T → HashItems S T → Type 0
  HasSpareFirst old new = old.spare + length old.items ≤ length new.items

  abbrev pub SpareFirst : HashItems S T → HashItems S T → ExtendError T → Type 0
  SpareFirst old new e = OnSome e.item (HasSpareFirst old new)

  -- the inserted x has this slot and this stored hash; a write to the slot is as if that item had been inserted
  pub record IsInsertedAt (x : T) (hash : ℕ) (old new : HashItems S T) (slot : ℕ) : Type 0 where
    pub there : item_of_slot new.slots new.items slot ≡ Some x
    pub listed : item_of_slot new.slots new.hashes slot ≡ Some hash
    pub written : (w : T) → AddsItem w old.items (written_to_slot new.slots new.items slot w)
    pub others : without_slot new.slots new.items slot ≡ old.items

  module _ (IsKeyed : HashItems S T → Type 0) where
    pub record HashFills (old new : HashItems S T) : Type 0 where
      pub fills : FillsSlots (holding_of old) (holding_of new)
      pub stays : HashStays IsKeyed old new

    -- if the error has no item, nothing has changed but the room
    abbrev pub KeepsIfNoItem : HashItems S T → HashItems S T → ExtendError T → Type 0
    KeepsIfNoItem old new e = IfNone e.item (HashKeeps IsKeyed old new)

    -- a new map of the default limit, over a default hasher
    pub record IsCollected (is_default : S → Type 0) (m : HashItems S T) : Type 0 where
      pub vacant : m.vacant ≡ 0
      pub limit : m.limit ≡ max_items
      pub spare_fits : SpareFits m
      pub hasher : is_default m.hasher
      pub keyed : IsKeyed m

    -- there is room for `min` items in all, or for as many as before; the spare may be less
    pub record HashShrinks (min : ℕ) (old new : HashItems S T) : Type 0 where
      pub items : IsPermutation old.items new.items
      pub shrinks : Shrinks min (holding_of old) (holding_of new)
      pub spare : least min (old.spare + length old.items) ≤ new.spare + length new.items
      pub spare_fits : SpareFits new
      pub hasher : new.hasher ≡ old.hasher
      pub keyed : IsKeyed new

module _ {S T K : Type 0} (key : T → K) (eq : K → K → Bool) where
  -- the map with x in place of the item of an equal key
  abbrev pub map_overwritten : T → HashItems S T → HashItems S T
  map_overwritten x m = record m { items = items_overwritten key (eq (key x)) x m.items }

  -- the same words as of an ordered map, of what the map holds
  abbrev pub RefusesItem : HashItems S T → T → InsertError T → Type 0
  RefusesItem m = refusal.RefusesItem key eq (holding_of m)

  module _ {U : Type 0} (given : gives.Ghosts U T) (iter : U) where
    abbrev pub Extends : (old new : HashItems S T) → Type 0
    Extends old new = collecting.Extends key eq given iter (holding_of old) (holding_of new)

    abbrev pub Stops : (old new : HashItems S T) → ExtendError T → Type 0
    Stops old new = collecting.Stops key eq given iter (holding_of old) (holding_of new)

    abbrev pub Collects : HashItems S T → Type 0
    Collects m = collecting.Collects key eq given iter (holding_of m)

    abbrev pub CollectsUnique : HashItems S T → Type 0
    CollectsUnique m = collecting.CollectsUnique key eq given iter (holding_of m)

    abbrev pub Adds : (old new : HashItems S T) → Type 0
    Adds old new = adding.Adds key eq given iter (holding_of old) (holding_of new)

    abbrev pub Halts : (old new : HashItems S T) → NotInserted T (ExtendError T) → Type 0
    Halts old new = adding.Halts key eq given iter (holding_of old) (holding_of new)

    abbrev pub ShowsConflict : HashItems S T → ExtendUniqueError T → Type 0
    ShowsConflict old = adding.ShowsConflict key eq given iter (holding_of old)

-- x replaced the item of an equal key, which is returned, or was inserted if there was none; either way it is beside the old items of
-- other keys
pub record HashOverwrites {S T K : Type 0} (key : T → K) (eq : K → K → Bool) (x : T) (old new : HashItems S T) (back : Option T) : Type 0 where
  pub found : back ≡ find_item key (eq (key x)) old.items
  pub replaced : OnSome back (new ≡ map_overwritten key eq x old)
  pub inserted : IfNone back (InsertsItem x (holding_of old) (holding_of new))
  pub there : find_item key (eq (key x)) new.items ≡ Some x
  pub others : AddsItem x (items_without key (eq (key x)) old.items) new.items

-- x was refused room, since nothing was spare, and is returned
pub record HashReturnsItem {S T K : Type 0} (key : T → K) (eq : K → K → Bool) (m : HashItems S T) (x : T) (refused : Refused T) : Type 0 where
  pub back : ReturnsItem key eq (holding_of m) x refused
  pub no_spare : m.spare ≡ 0

-- with a clone of its hasher the map hashes every value as it does (a premise of `clone`)
abbrev pub CloneHashesAlike : {S T : Type 0} → (S → S → Type 0) → (HashItems S T → HashWrites → ℕ) → HashItems S T → Type 0
CloneHashesAlike is_clone hash m = (copy : _) → is_clone m.hasher copy → (writes : HashWrites) → hash (record m { hasher = copy }) writes ≡ hash m writes

-- once the result of an insertion is dropped: at `Ok` the map has the item; at `Err` it keeps its items, and beside a duplicate nothing has changed
abbrev pub map_after_insertion : (S T : RattleType) (own : keyed.Ghosts (HashItems S.Denot T.Denot) T.Denot) → MutBor (HashItems S.Denot T.Denot) → Result (MutBor unit.Denot) (InsertError T.Denot) → T.Denot → Fml
map_after_insertion S T own map result x =
    LendsSoOk (the_row T S) unit map result
    (λ new _. HashInserts own.keyed x map.now new)
    (λ new. HashKeeps own.keyed map.now new × IfErr result (OnDuplicate (new ≡ map.now)))

-- nothing of the map is lent
abbrev pub lends_nothing : (S T : RattleType) → MutBor (HashItems S.Denot T.Denot) → MutBor unit.Denot → Fml
lends_nothing S T map result = Lends (the_row T S) unit map result (λ _. map.now)

-- Once the result of `extend_unique` is dropped: at `Ok` the map has all items, and at `Err` those before the one that was not inserted.
-- As many new keys as were spare are inserted before one finds no room.
abbrev pub map_after_extension : (S T : RattleType) {K U : Type 0} (key : T.Denot → K) (eq : K → K → Bool) (own : keyed.Ghosts (HashItems S.Denot T.Denot) T.Denot) (given : gives.Ghosts U T.Denot) (iter : U) → MutBor (HashItems S.Denot T.Denot) → Result (MutBor unit.Denot) (ExtendUniqueError T.Denot) → Fml
map_after_extension S T key eq own given iter map result =
    LendsSoOk (the_row T S) unit map result
    (λ new _. AddsGiven key eq (given.gives_all iter) map.now.items new.items × HashFills own.keyed map.now new)
    (λ new. HashFills own.keyed map.now new × IfErr result (StopsAdding key eq (given.gives_then iter) (holding_of map.now) (holding_of new)) × IfErr result (OnItemRefused (map.now.spare + length map.now.items ≤ length new.items)))
