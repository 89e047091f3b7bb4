-- What a contract sees of an entry of an ordered map.
--     entry_map, entry_lender      the map as the entry holds it, the name of the reference to the map
--     entry_item, entry_slot      the entry's item, if it is occupied, and the slot of an occupied entry
--     entry_with e w      the map once w is written to the entry; of a vacant one, the map
--     entry_others e      the items but for the entry's
--     entry_follows      the entry ends with the last value written to its item
--     IsEntryOf      what the entry holds of a map: the item, what a write to it leaves, and the others
--     IsEntryFor, IsEntryAt, IsFirstEntry, IsLastEntry      the entry of the item whose key passes the test, of the item at the position, of the first, of the last
--     EntryKeeps, EntryKeepsAkin      an item of the same key, or of an equal one, may be written
--     LendsFound, LendsInserted      what a guard lends of an entry: the item found, or the one that was inserted
--     ShowsFound, ShowsInserted      the same of what is shown
--     EntersInserted      the same of the entry of an inserted item
--     LendsIfVacant, LendsMade, ShowsIfVacant, ShowsMade      if the entry is vacant, this item is inserted, or one that a closure made
--     LendsIfOccupied, ShowsIfOccupied      if the entry is occupied, its item is lent, or shown
--     VisitsEntry, VisitKeepsKey      what a visit leaves, and that it keeps the key
--     LacksKeyOf, MakesAbsent      no item of the entry's map has a key equal to this item's, or to that of one that a closure makes
--     HasKeyOf      the entry's item has a key equal to this item's
--     EntryReturnsItem, EntryRefuses      there was no room for this item, or for the one that is returned
--     rests_if_refused, lends_or_keeps, shows_or_keeps, enters_or_keeps      if an item is refused, the map keeps its items
--     rests_without_entry      with no entry the map stays as it is
pub use Rattle.iddqd_ord.specs.declared.id_ord_map.entry.Entry.TheVariants.{Vacant, Occupied}
use Rattle.std.specs.Prelude.{◌≡◌, ◌-◌, ℕ, [], Bool, IfNone, IfSome, IsSome, IsTrue, List, Option, None, Some, Result, drop, length, option_map, remove, slice_get, slice_set, take}
use Rattle.std.specs.Borrow.{Fml, GName, RattleType, MutBor, RestsIfErr, RestsIfNone, follows}
use Rattle.std.specs.declared.cmp.Ordering.{Ordering}
use mir.Syntax.{named}
use Rattle.iddqd_store.specs.Contents.{AddsItem, Ascends, IsAbsent, find_item, items_overwritten, items_without}
use Rattle.iddqd_store.specs.Holding.{Holding}
use Rattle.iddqd_store.specs.Refusal.{FindsNoRoom, ReturnsItem}
use Rattle.iddqd_store.specs.SlotItems.{item_of_slot, still_there, without_slot}
use Rattle.iddqd_store.specs.declared.errors.Refused.{Refused}
use Rattle.iddqd_ord.specs.declared.id_ord_map.entry.Entry.{Entry}
use Rattle.iddqd_ord.specs.declared.id_ord_map.entry.OccupiedEntry.{OccupiedEntry}
use Rattle.iddqd_ord.specs.declared.id_ord_map.ref_mut.RefMut.{RefMut}
use Rattle.iddqd_ord.specs.declared.id_ord_map.ref_mut.Shown.{Shown}
use Rattle.iddqd_ord.specs.Guard.{guard_lender, lent_item, lent_map, lent_with, shown_item, shown_lender, shown_map, with_item_in_slot}
use Rattle.iddqd_ord.specs.OrdMap.{OrdInserts, OrdKeeps}
use Rattle.iddqd_ord.specs.contracts.id_ord_map.IdOrdMap as map
use Rattle.iddqd_ord.specs.contracts.id_ord_map.entry.OccupiedEntry as occupied

module _ {T : Type 0} where
  abbrev pub entry_map_ref : Entry T → MutBor (Holding T)
  entry_map_ref (Occupied e) = e.map
  entry_map_ref (Vacant e) = e.map

  abbrev pub entry_map : Entry T → Holding T
  entry_map e = (entry_map_ref e).now

  abbrev pub entry_lender : Entry T → GName
  entry_lender e = (entry_map_ref e).ghost_name

  abbrev pub entry_item : Entry T → Option T
  entry_item (Occupied e) = item_of_slot e.map.now.slots e.map.now.items e.slot
  entry_item (Vacant e) = None

  abbrev pub entry_slot : OccupiedEntry T → ℕ
  entry_slot e = e.slot

  abbrev pub entry_with : Entry T → T → Holding T
  entry_with (Occupied e) w = with_item_in_slot e.map.now e.slot w
  entry_with (Vacant e) w = e.map.now

  abbrev pub entry_others : Entry T → List T
  entry_others (Occupied e) = without_slot e.map.now.slots e.map.now.items e.slot
  entry_others (Vacant e) = e.map.now.items

  -- the occupied entry, once w is written to its item
  abbrev pub with_entry_item : OccupiedEntry T → T → OccupiedEntry T
  with_entry_item e w = record {
    map = record e.map { now = with_item_in_slot e.map.now e.slot w };
    slot = e.slot;
    place = e.place;
    there = still_there e.map.now.slots e.map.now.items e.slot w e.there;
    placed = e.placed;
  }

  -- the entry holds the map of this reference, unchanged, at the item x; once w is written to it the items are `after w`
  pub record IsEntryOf (m : MutBor (Holding T)) (x : Option T) (after : T → List T) (rest : List T) (e : Entry T) : Type 0 where
    pub lender : entry_lender e ≡ m.ghost_name
    pub map : entry_map e ≡ m.now
    pub item : entry_item e ≡ x
    pub written : (w : T) → (entry_with e w).items ≡ after w
    pub others : entry_others e ≡ rest

  abbrev pub IsEntryAt : ℕ → MutBor (Holding T) → OccupiedEntry T → Type 0
  IsEntryAt i m e = IsEntryOf m (slice_get m.now.items i) (slice_set m.now.items i) (remove m.now.items i) (Occupied e)

  abbrev pub IsFirstEntry : MutBor (Holding T) → OccupiedEntry T → Type 0
  IsFirstEntry m e = IsEntryOf m (slice_get m.now.items 0) (slice_set m.now.items 0) (drop 1 m.now.items) (Occupied e)

  abbrev pub IsLastEntry : MutBor (Holding T) → OccupiedEntry T → Type 0
  IsLastEntry m e =
      let last = length m.now.items - 1 in
      IsEntryOf m (slice_get m.now.items last) (slice_set m.now.items last) (take last m.now.items) (Occupied e)

  -- the guard lends the entry's item, and a write through it is one to the entry
  pub record LendsFound (e : Entry T) (r : RefMut T) : Type 0 where
    pub map : lent_map r ≡ entry_map e
    pub item : lent_item r ≡ entry_item e
    pub written : (w : T) → lent_with r w ≡ entry_with e w

  abbrev pub LendsIfOccupied : Entry T → RefMut T → Type 0
  LendsIfOccupied e r = IsSome (entry_item e) → LendsFound e r

  -- the entry's item is shown
  pub record ShowsFound (e : Entry T) (s : Shown T) : Type 0 where
    pub map : shown_map s ≡ entry_map e
    pub item : shown_item s ≡ entry_item e

  abbrev pub ShowsIfOccupied : Entry T → Shown T → Type 0
  ShowsIfOccupied e s = IsSome (entry_item e) → ShowsFound e s

  -- if the entry is occupied its item was visited once, and is what the visit made of it; else nothing has changed
  pub record VisitsEntry {V : Type 0} (visits : V → T → V × T × Bool) (v : V) (e after : Entry T) (then : V) : Type 0 where
    pub item : entry_item after ≡ option_map (λ x. (visits v x).1) (entry_item e)
    pub map : IfSome (entry_item e) (λ x. entry_map after ≡ entry_with e (visits v x).1)
    pub visitor : IfSome (entry_item e) (λ x. then ≡ (visits v x).0)
    pub unchanged : IfNone (entry_item e) (entry_map after ≡ entry_map e)
    pub unvisited : IfNone (entry_item e) (then ≡ v)
    pub written : (w : T) → entry_with after w ≡ entry_with e w
    pub others : entry_others after ≡ entry_others e

module _ {T K : Type 0} (key : T → K) where
  abbrev pub IsEntryFor : (K → Bool) → MutBor (Holding T) → Entry T → Type 0
  IsEntryFor test m e =
      IsEntryOf m (find_item key test m.now.items) (λ w. items_overwritten key test w m.now.items) (items_without key test m.now.items) e

  abbrev pub LacksKeyOf : (K → K → Bool) → T → Entry T → Type 0
  LacksKeyOf eq x e = IsAbsent key (eq (key x)) (entry_map e).items

  abbrev pub MakesAbsent : (K → K → Bool) → (T → Type 0) → Entry T → Type 0
  MakesAbsent eq made e = entry_item e ≡ None → (x : T) → made x → LacksKeyOf eq x e

  abbrev pub HasKeyOf : (K → K → Bool) → T → Entry T → Type 0
  HasKeyOf eq x e = IfSome (entry_item e) (λ y. IsTrue (eq (key x) (key y)))

  abbrev pub VisitKeepsKey : {V : Type 0} → (K → K → Bool) → (V → T → V × T × Bool) → V → Entry T → Type 0
  VisitKeepsKey eq visits v e = IfSome (entry_item e) (λ x. IsTrue (eq (key x) (key (visits v x).1)))

  -- the item is returned: the entry's map is full, or memory was refused
  abbrev pub EntryReturnsItem : (K → K → Bool) → T → Entry T → Refused T → Type 0
  EntryReturnsItem eq x e = ReturnsItem key eq (entry_map e) x

  -- the same of whatever item is returned
  abbrev pub EntryRefuses : (K → K → Bool) → Entry T → Refused T → Type 0
  EntryRefuses eq e refused = FindsNoRoom key eq (entry_map e).limit (entry_map e).items refused.item refused.error

module _ {T K : Type 0} (key : T → K) (cmp : K → K → Ordering) where
  -- x was inserted into the entry's map, and the guard lends it; a write through it is as if that item had been inserted
  pub record LendsInserted (x : T) (e : Entry T) (r : RefMut T) : Type 0 where
    pub inserts : OrdInserts key cmp x (entry_map e) (lent_map r)
    pub item : lent_item r ≡ Some x
    pub written : (w : T) → AddsItem w (entry_map e).items (lent_with r w).items

  -- x was inserted into the entry's map, and is shown
  pub record ShowsInserted (x : T) (e : Entry T) (s : Shown T) : Type 0 where
    pub inserts : OrdInserts key cmp x (entry_map e) (shown_map s)
    pub item : shown_item s ≡ Some x

  -- x was inserted into the entry's map, and this is its entry
  pub record EntersInserted (x : T) (e : Entry T) (found : OccupiedEntry T) : Type 0 where
    pub lender : entry_lender (Occupied found) ≡ entry_lender e
    pub inserts : OrdInserts key cmp x (entry_map e) (entry_map (Occupied found))
    pub item : entry_item (Occupied found) ≡ Some x
    pub written : (w : T) → AddsItem w (entry_map e).items (entry_with (Occupied found) w).items
    pub others : entry_others (Occupied found) ≡ (entry_map e).items

  abbrev pub LendsIfVacant : T → Entry T → RefMut T → Type 0
  LendsIfVacant x e r = entry_item e ≡ None → LendsInserted x e r

  abbrev pub LendsMade : (T → Type 0) → Entry T → RefMut T → Type 0
  LendsMade made e r = entry_item e ≡ None → (x : T) × made x × LendsInserted x e r

  abbrev pub ShowsIfVacant : T → Entry T → Shown T → Type 0
  ShowsIfVacant x e s = entry_item e ≡ None → ShowsInserted x e s

  abbrev pub ShowsMade : (T → Type 0) → Entry T → Shown T → Type 0
  ShowsMade made e s = entry_item e ≡ None → (x : T) × made x × ShowsInserted x e s

  -- if the map is keyed, it is so after a write of an item of the same key, or of an equal one
  abbrev pub EntryKeeps : OccupiedEntry T → MutBor T → Type 0
  EntryKeeps e lent =
      Ascends key cmp (entry_map (Occupied e)).items
      → (w : T) → key w ≡ key lent.now → Ascends key cmp (entry_with (Occupied e) w).items

  abbrev pub EntryKeepsAkin : (K → K → Bool) → OccupiedEntry T → MutBor T → Type 0
  EntryKeepsAkin eq e lent =
      Ascends key cmp (entry_map (Occupied e)).items
      → (w : T) → IsTrue (eq (key lent.now) (key w)) → Ascends key cmp (entry_with (Occupied e) w).items

module _ (T : RattleType) where
  -- the entry's lifetime is the second of the signature
  abbrev pub entry_follows : MutBor (OccupiedEntry T.Denot) → MutBor T.Denot → Fml
  entry_follows e x =
      follows (occupied.the_row (record { mir = named 1; lft = [] }) T) T e.ghost_name x.ghost_name (with_entry_item e.now)

  -- with no entry the map stays as it is
  abbrev pub rests_without_entry : MutBor (Holding T.Denot) → Option (OccupiedEntry T.Denot) → Fml
  rests_without_entry m r = RestsIfNone (map.the_row T) m (λ e. e.map.ghost_name) r (λ n. n ≡ m.now)

  -- if an item is refused, the map behind the entry keeps its items; else the result holds the map under this name
  abbrev pub rests_if_refused : {K A E : Type 0} → (T.Denot → K) → (K → K → Ordering) → (A → GName) → Entry T.Denot → Result A E → Fml
  rests_if_refused key cmp name e r = RestsIfErr (map.the_row T) (entry_map_ref e) name r (OrdKeeps key cmp (entry_map e))

  module _ {K : Type 0} (key : T.Denot → K) (cmp : K → K → Ordering) {E : Type 0} where
    abbrev pub lends_or_keeps : Entry T.Denot → Result (RefMut T.Denot) E → Fml
    lends_or_keeps = rests_if_refused key cmp guard_lender

    abbrev pub shows_or_keeps : Entry T.Denot → Result (Shown T.Denot) E → Fml
    shows_or_keeps = rests_if_refused key cmp shown_lender

    abbrev pub enters_or_keeps : Entry T.Denot → Result (OccupiedEntry T.Denot) E → Fml
    enters_or_keeps = rests_if_refused key cmp (λ e. entry_lender (Occupied e))
