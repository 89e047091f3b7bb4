-- What the calls of a hash map of two keys return and leave. `IsKeyedByBoth` says what lookups require.
-- Room:
--     SpareFits, KeepsSpare, Reserves, LacksRoomFor      as of a map of one key (`HashChanges`)
-- Changes:
--     IsEmptyMap, HasNoItems      a map without items, before it allocates and after
--     BiStays      what stays in each call that changes a keyed map: it is keyed, keeps the spare, and has the same hasher
--     BiInserts, BiFills      an item was inserted, or several
--     BiRefills      several were inserted, and each may have replaced others
--     BiKeeps      nothing has changed but the room, which may have grown
--     BiShrinks      the slots were closed up, and memory was given back
--     IsInsertedAt, LosesPlaceOf      an inserted item has this slot; a slot is gone
--     LeavesVacant      these items' slots are vacant
-- Searches, insertions and refusals:
--     FindsSlotByBoth      the slot of the item that two queries find by both keys
--     IsOccupied, AreOccupied      a slot has an item, and each of several has
--     AreItemsOf      the items of several slots are lent
--     items_at, items_beside      the items of several slots, and the others
--     AreHashes, HasNewKeys      of an item: these are the hashes of its keys; no item has one of its keys
--     MeetsNoneBeside      of an item: none of those others has one of its keys
--     AreSlotsMet, AreSlotsDisplaced      of an item: the slots of those that have one of its keys, in rising order, or by key
--     Displaces, KeepsUnmet      of an item: those that have one of its keys are returned; the others stay
--     BiOverwrites      the item was inserted, and those that had one of its keys are returned
--     LosesKey      an item is found by this key no more, unless another item has it
--     RefusesItem, BiReturnsItem      a refused item is returned, beside the existing ones or because there is no room
-- Many items:
--     HasSpareFirst, SpareFirst, KeepsIfNoItem      what `extend` leaves if an item is refused, or room before any
-- Copies:
--     CloneHashesAlike      a hasher's clone hashes as the hasher does
-- After a loan:
--     map_after_insertion      what the map is once the result of an insertion is dropped
use Rattle.std.specs.Prelude.{◌≡◌, ℕ, ◌+◌, ◌≤◌, [], Bool, false, List, length, map, IfErr, IfNone, IfSome, IsPermutation, IsSome, OnSome, Option, Result, Some}
use Rattle.std.specs.Prelude.{min as least}
use Rattle.std.specs.Borrow.{Bor, Fml, RattleType, MutBor, LendsSoOk, unit}
use Rattle.std.specs.Hash.{HashWrites}
use Rattle.std.specs.List.{AllByRecursion, filter_map}
use Rattle.std.specs.Option.{option_and_then}
use Rattle.iddqd_store.specs.Contents.{AddsItem, IsAbsent, find_item}
use Rattle.iddqd_store.specs.Errors.{new_item_of, lent_duplicates_of, values_of}
use Rattle.iddqd_store.specs.Holding.{FillsSlots, InsertsItem, KeepsItems, Shrinks}
use Rattle.iddqd_store.specs.Refusal.{OnDuplicate, RefusalKind, refusal_kind}
use Rattle.iddqd_store.specs.SlotItems.{HaveSlots, item_of_slot, without_slot, written_to_slot}
use Rattle.iddqd_store.specs.declared.errors.ExtendError.{ExtendError}
use Rattle.iddqd_store.specs.declared.errors.Few.{Few}
use Rattle.iddqd_store.specs.declared.errors.InsertError.{InsertError}
use Rattle.iddqd_store.specs.declared.errors.InsertError.TheVariants.{Duplicate, Refused}
use Rattle.iddqd_store.specs.declared.errors.Refused as refused
use Rattle.iddqd_hash_parts.specs.HashChanges as changes
use Rattle.iddqd_hash_parts.specs.SlotsFound.{values_if_any}
use Rattle.iddqd_hash_parts.specs.declared.keyed.Keyed as keyed
use Rattle.iddqd_bi_hash.specs.BiHashItems.{BiHashItems, by_key1, holding_of}
use Rattle.iddqd_bi_hash.specs.TwoKeys.{find_by_both, items_displaced, items_met, items_unmet, without_slots}
use Rattle.iddqd_bi_hash.specs.declared.both.Both as both
use Rattle.iddqd_bi_hash.specs.contracts.bi_hash_map.BiHashMap.{the_row}

module _ {S T : Type 0} where
  -- no item, no slot and so no stored hash; nothing is spare, since nothing is allocated
  abbrev pub IsEmptyMap : ℕ → BiHashItems S T → Type 0
  IsEmptyMap limit m = m ≡ record m { items = []; slots = []; hashes1 = []; hashes2 = []; spare = 0; vacant = 0; capacity = 0; limit = limit }

  -- no item, no slot and no stored hash; memory may be allocated
  abbrev pub HasNoItems : ℕ → BiHashItems S T → Type 0
  HasNoItems limit m = m ≡ record m { items = []; slots = []; hashes1 = []; hashes2 = []; vacant = 0; limit = limit }

  abbrev pub SpareFits : BiHashItems S T → Type 0
  SpareFits m = changes.SpareFits (by_key1 m)

  abbrev pub KeepsSpare : BiHashItems S T → BiHashItems S T → Type 0
  KeepsSpare old new = changes.KeepsSpare (by_key1 old) (by_key1 new)

  abbrev pub Reserves : ℕ → BiHashItems S T → BiHashItems S T → Type 0
  Reserves n old new = changes.Reserves n (by_key1 old) (by_key1 new)

  abbrev pub LacksRoomFor : ℕ → BiHashItems S T → RefusalKind → Type 0
  LacksRoomFor n m = changes.LacksRoomFor n (by_key1 m)

  abbrev pub LosesPlaceOf : ℕ → BiHashItems S T → BiHashItems S T → Type 0
  LosesPlaceOf slot old new = changes.LosesPlaceOf slot (by_key1 old) (by_key1 new)

  abbrev pub LeavesVacant : BiHashItems S T → BiHashItems S T → Few T → Type 0
  LeavesVacant old new few = new.vacant ≡ old.vacant + length (values_of few)

  -- as many items with new keys as were spare were inserted before one found no room
  abbrev pub HasSpareFirst : BiHashItems S T → BiHashItems S T → Type 0
  HasSpareFirst old new = old.spare + length old.items ≤ length new.items

  abbrev pub SpareFirst : BiHashItems S T → BiHashItems S T → ExtendError T → Type 0
  SpareFirst old new e = OnSome e.item (HasSpareFirst old new)

  abbrev pub IsOccupied : BiHashItems S T → ℕ → Type 0
  IsOccupied m slot = IsSome (item_of_slot m.slots m.items slot)

  abbrev pub AreOccupied : BiHashItems S T → List ℕ → Type 0
  AreOccupied m slots = AllByRecursion (λ slot. IsSome (item_of_slot m.slots m.items slot)) slots

  -- the items of these slots, in this order, and the items but for these
  abbrev pub items_at : BiHashItems S T → List ℕ → List T
  items_at m slots = filter_map (item_of_slot m.slots m.items) slots

  abbrev pub items_beside : BiHashItems S T → List ℕ → List T
  items_beside m slots = without_slots m.slots m.items slots

  -- what is lent are the items of these slots, in this order
  abbrev pub AreItemsOf : BiHashItems S T → List ℕ → List (Bor T) → Type 0
  AreItemsOf m slots lents = map (λ lent. Some lent.now) lents ≡ map (item_of_slot m.slots m.items) slots

  -- the inserted x has this slot; a write to the slot is as if that item had been inserted
  pub record IsInsertedAt (x : T) (old new : BiHashItems S T) (slot : ℕ) : Type 0 where
    pub there : item_of_slot new.slots new.items slot ≡ Some x
    pub written : (w : T) → AddsItem w old.items (written_to_slot new.slots new.items slot w)
    pub others : without_slot new.slots new.items slot ≡ old.items

  module _ (IsKeyed : BiHashItems S T → Type 0) where
    pub record BiStays (old new : BiHashItems S T) : Type 0 where
      pub keyed : IsKeyed new
      pub spare : KeepsSpare old new
      pub hasher : new.hasher ≡ old.hasher

    pub record BiInserts (x : T) (old new : BiHashItems S T) : Type 0 where
      pub inserts : InsertsItem x (holding_of old) (holding_of new)
      pub stays : BiStays old new

    pub record BiKeeps (old new : BiHashItems S T) : Type 0 where
      pub keeps : KeepsItems (holding_of old) (holding_of new)
      pub stays : BiStays old new

    pub record BiFills (old new : BiHashItems S T) : Type 0 where
      pub fills : FillsSlots (holding_of old) (holding_of new)
      pub stays : BiStays old new

    -- besides the items
    pub record BiRefills (old new : BiHashItems S T) : Type 0 where
      pub slots : HaveSlots new.slots new.items
      pub capacity : old.capacity ≤ new.capacity
      pub limit : new.limit ≡ old.limit
      pub stays : BiStays old new

    -- if the error has no item, nothing has changed but the room
    abbrev pub KeepsIfNoItem : BiHashItems S T → BiHashItems S T → ExtendError T → Type 0
    KeepsIfNoItem old new e = IfNone e.item (BiKeeps old new)

    -- there is room for `min` items in all, or for as many as before; the spare may be less
    pub record BiShrinks (min : ℕ) (old new : BiHashItems S T) : Type 0 where
      pub items : IsPermutation old.items new.items
      pub shrinks : Shrinks min (holding_of old) (holding_of new)
      pub spare : least min (old.spare + length old.items) ≤ new.spare + length new.items
      pub spare_fits : SpareFits new
      pub hasher : new.hasher ≡ old.hasher
      pub keyed : IsKeyed new

-- the item y, if this is one, is found by its key no more, unless x has the key
abbrev pub LosesKey : {T K : Type 0} → (T → K) → (K → K → Bool) → T → Option T → List T → Type 0
LosesKey {T} key eq x found items = (y : T) → found ≡ Some y → eq (key y) (key x) ≡ false → IsAbsent key (eq (key y)) items

module _ {S T K L : Type 0} (key1 : T → K) (key2 : T → L) where
  -- the slot, if one is found, is of the item whose keys pass both tests
  abbrev pub FindsSlotByBoth : (K → Bool) → (L → Bool) → BiHashItems S T → Option ℕ → Type 0
  FindsSlotByBoth test1 test2 m found = option_and_then (item_of_slot m.slots m.items) found ≡ find_by_both key1 key2 test1 test2 m.items

module _ {T K L : Type 0} (keys : both.Ghosts T K L) where
  -- the items that have one of x's keys, that of the first key first or in their order, and the others
  abbrev pub displaced_by : T → List T → List T
  displaced_by = items_displaced keys.key1 keys.key2 keys.eq1 keys.eq2

  abbrev pub met_by : T → List T → List T
  met_by = items_met keys.key1 keys.key2 keys.eq1 keys.eq2

  abbrev pub unmet_by : T → List T → List T
  unmet_by = items_unmet keys.key1 keys.key2 keys.eq1 keys.eq2

  -- what is returned are the items that have one of x's keys
  abbrev pub Displaces : T → List T → Option (Few T) → Type 0
  Displaces x items back = values_if_any back ≡ displaced_by x items

  -- no item has one of x's keys
  abbrev pub HasNewKeys : T → List T → Type 0
  HasNewKeys x items = met_by x items ≡ []

module _ {S T K L : Type 0} (keys : both.Ghosts T K L) where
  -- the map's hasher gives these hashes for x's keys
  pub record AreHashes (own : keyed.Ghosts (BiHashItems S T) T) (m : BiHashItems S T) (x : T) (hash1 hash2 : ℕ) : Type 0 where
    pub one : hash1 ≡ own.hash m (keys.input1 (keys.key1 x))
    pub other : hash2 ≡ own.hash m (keys.input2 (keys.key2 x))

  -- x is returned: beside the items that have one of its keys, in the order of their slots, or because there was no room
  abbrev pub RefusesItem : BiHashItems S T → T → InsertError T → Type 0
  RefusesItem m x (Duplicate d) =
      (new_item_of d ≡ x) × (lent_duplicates_of d ≡ met_by keys x m.items)
  RefusesItem m x (Refused r) =
      (r.item ≡ x) × (met_by keys x m.items ≡ []) × (r.error ≡ refusal_kind m.limit m.items)

  -- the slots that are found, if any, are of the items that have one of x's keys
  abbrev pub AreSlotsMet : T → BiHashItems S T → Option (Few ℕ) → Type 0
  AreSlotsMet x m found = filter_map (item_of_slot m.slots m.items) (values_if_any found) ≡ met_by keys x m.items

  -- the items but for those of these slots have none of x's keys
  abbrev pub MeetsNoneBeside : T → BiHashItems S T → List ℕ → Type 0
  MeetsNoneBeside x m slots = met_by keys x (items_beside m slots) ≡ []

  abbrev pub AreSlotsDisplaced : T → BiHashItems S T → Option (Few ℕ) → Type 0
  AreSlotsDisplaced x m found = filter_map (item_of_slot m.slots m.items) (values_if_any found) ≡ displaced_by keys x m.items

  abbrev pub KeepsUnmet : T → BiHashItems S T → BiHashItems S T → Type 0
  KeepsUnmet x old new = new.items ≡ unmet_by keys x old.items

  -- x was refused room, since nothing was spare, and is returned; no item has one of its keys
  pub record BiReturnsItem (m : BiHashItems S T) (x : T) (r : refused.Refused T) : Type 0 where
    pub item : r.item ≡ x
    pub absent : met_by keys x m.items ≡ []
    pub kind : r.error ≡ refusal_kind m.limit m.items
    pub no_spare : m.spare ≡ 0

  -- x was inserted, and the items that had one of its keys are returned; if there were some, no memory was needed. Both keys find x. An
  -- item that had one of its keys is found by the other no more
  pub record BiOverwrites (x : T) (old new : BiHashItems S T) (back : Option (Few T)) : Type 0 where
    pub displaced : Displaces keys x old.items back
    pub put : AddsItem x (unmet_by keys x old.items) new.items
    pub slots : HaveSlots new.slots new.items
    pub vacant : IfSome back (λ few. new.vacant + 1 ≡ old.vacant + length (values_of few))
    pub capacity : OnSome back (new.capacity ≡ old.capacity)
    pub inserted : IfNone back (InsertsItem x (holding_of old) (holding_of new))
    pub limit : new.limit ≡ old.limit
    pub there1 : find_item keys.key1 (keys.eq1 (keys.key1 x)) new.items ≡ Some x
    pub there2 : find_item keys.key2 (keys.eq2 (keys.key2 x)) new.items ≡ Some x
    pub gone1 : LosesKey keys.key1 keys.eq1 x (find_item keys.key2 (keys.eq2 (keys.key2 x)) old.items) new.items
    pub gone2 : LosesKey keys.key2 keys.eq2 x (find_item keys.key1 (keys.eq1 (keys.key1 x)) old.items) new.items

-- with a clone of its hasher the map hashes every value as it does (a premise of `clone`)
abbrev pub CloneHashesAlike : {S T : Type 0} → (S → S → Type 0) → (BiHashItems S T → HashWrites → ℕ) → BiHashItems S T → Type 0
CloneHashesAlike is_clone hash m = (copy : _) → is_clone m.hasher copy → (writes : HashWrites) → hash (record m { hasher = copy }) writes ≡ hash m writes

-- once the result of an insertion is dropped: at `Ok` the map has the item; at `Err` it keeps its items, and beside duplicates nothing
-- has changed
abbrev pub map_after_insertion : (S T : RattleType) (own : keyed.Ghosts (BiHashItems S.Denot T.Denot) T.Denot) → MutBor (BiHashItems S.Denot T.Denot) → Result (MutBor unit.Denot) (InsertError T.Denot) → T.Denot → Fml
map_after_insertion S T own map result x =
    LendsSoOk (the_row T S) unit map result
    (λ new _. BiInserts own.keyed x map.now new)
    (λ new. BiKeeps own.keyed map.now new × IfErr result (OnDuplicate (new ≡ map.now)))
