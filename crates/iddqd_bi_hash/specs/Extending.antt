-- What `extend_unique` of a map of two keys leaves and shows. The words are those of a map of any keys (`Unique`).
--     Adds, ShowsConflict      all items were inserted; the first that has a key of one that is there by then is shown
--     Halts, HaltsAdding, HaltsAt      the same while the existing items are known by their slots alone, and one step of it
--     OnItemBack      what holds if an item is returned because there is no room
--     map_after_extension      what the map is once the result is dropped
use Rattle.std.specs.Prelude.{◌≡◌, ◌+◌, ◌≤◌, IfErr, List, OnSome, Result, Some, length}
use Rattle.std.specs.Borrow.{Fml, RattleType, MutBor, LendsSoOk, unit}
use Rattle.std.specs.List.{filter_map}
use Rattle.iddqd_store.specs.Adding.{OnItemRefused}
use Rattle.iddqd_store.specs.Errors.{values_of}
use Rattle.iddqd_store.specs.SlotItems.{item_of_slot}
use Rattle.iddqd_store.specs.Unique as unique
use Rattle.iddqd_store.specs.declared.errors.ExtendUniqueError.{ExtendUniqueError}
use Rattle.iddqd_store.specs.declared.gives.Gives as gives
use Rattle.iddqd_hash_parts.specs.declared.keyed.Keyed as keyed
use Rattle.iddqd_bi_hash.specs.BiHashItems.{BiHashItems, holding_of}
use Rattle.iddqd_bi_hash.specs.BiHashMap.{AreOccupied, AreSlotsDisplaced, BiFills}
use Rattle.iddqd_bi_hash.specs.Collecting.{OwnDiffer, OwnMeets}
use Rattle.iddqd_bi_hash.specs.contracts.bi_hash_map.BiHashMap.{the_row}
use Rattle.iddqd_bi_hash.specs.declared.both.Both as both
use Rattle.iddqd_bi_hash.specs.declared.bi_hash_map.extend_unique.Halted.{Halted}
use Rattle.iddqd_bi_hash.specs.declared.bi_hash_map.extend_unique.Halted.TheVariants.{Met, NoRoom}

-- what holds if an item found no room
abbrev pub OnItemBack : {T : Type 0} → Type 0 → Halted T → Type 0
OnItemBack P (Met x slots) = Unit
OnItemBack P (NoRoom e) = OnSome e.item P

module _ {T K L : Type 0} (keys : both.Ghosts T K L) where
  -- x is not inserted
  abbrev pub HaltsAt : {S : Type 0} → T → BiHashItems S T → Halted T → Type 0
  HaltsAt x m (Met y slots) = (y ≡ x) × AreOccupied m (values_of slots) × AreSlotsDisplaced keys x m (Some slots)
  HaltsAt x m (NoRoom e) =
      (e.item ≡ Some x) × unique.FindsNoRoom (OwnDiffer keys) (OwnMeets keys) m.limit m.items x e.error

  -- the first item that was not inserted, and what the map holds then
  abbrev pub HaltsAdding : {S : Type 0} (gives : List T → T → Type 0) (old new : BiHashItems S T) → Halted T → Type 0
  HaltsAdding gives old new (Met x slots) =
      AreOccupied new (values_of slots)
      × unique.StopsBeside (OwnDiffer keys) (OwnMeets keys) gives old.items new.items x (filter_map (item_of_slot new.slots new.items) (values_of slots))
  HaltsAdding gives old new (NoRoom e) =
      unique.RefusesAdding (OwnDiffer keys) (OwnMeets keys) gives (holding_of old) (holding_of new) e

  -- of what an iterable gives, as its `Gives` says
  module _ {U : Type 0} (given : gives.Ghosts U T) (iter : U) where
    abbrev pub Adds : {S : Type 0} (old new : BiHashItems S T) → Type 0
    Adds old new = unique.AddsGiven (OwnDiffer keys) (given.gives_all iter) old.items new.items

    abbrev pub Halts : {S : Type 0} (old new : BiHashItems S T) → Halted T → Type 0
    Halts old new = HaltsAdding (given.gives_then iter) old new

    abbrev pub ShowsConflict : {S : Type 0} → BiHashItems S T → ExtendUniqueError T → Type 0
    ShowsConflict old = unique.ShowsFirstConflict (OwnDiffer keys) (OwnMeets keys) (given.gives_then iter) old.items

-- Once the result of `extend_unique` is dropped: at `Ok` the map has all items, and at `Err` those before the one that was not inserted.
-- As many items with new keys as were spare are inserted before one finds no room.
abbrev pub map_after_extension : (S T : RattleType) {K L U : Type 0} (keys : both.Ghosts T.Denot K L) (own : keyed.Ghosts (BiHashItems S.Denot T.Denot) T.Denot) (given : gives.Ghosts U T.Denot) (iter : U) → MutBor (BiHashItems S.Denot T.Denot) → Result (MutBor unit.Denot) (ExtendUniqueError T.Denot) → Fml
map_after_extension S T keys own given iter map result =
    LendsSoOk (the_row T S) unit map result
    (λ new _. Adds keys given iter map.now new × BiFills own.keyed map.now new)
    (λ new. BiFills own.keyed map.now new × IfErr result (unique.StopsAdding (OwnDiffer keys) (OwnMeets keys) (given.gives_then iter) (holding_of map.now) (holding_of new)) × IfErr result (OnItemRefused (map.now.spare + length map.now.items ≤ length new.items)))
