-- What a contract sees of an entry of a hash map.
--     entry_map, entry_lender      the map as the entry holds it, the name of the reference to the map
--     entry_item, entry_slot      its item, if it has one, and the slot of an occupied entry
--     entry_with e w      the map once w is written to the entry's item; if the entry is vacant, the map
--     entry_others e      the items but for the entry's
--     LacksKeyOf, LacksKeysOf      no item of its map has a key equal to this item's, or to that of one that a closure makes
--     IsEntryOf, IsEntryFor      the entry of an item, or of none; the entry of what a query finds
--     PassesTest, HasKeyOf, VisitKeepsKey      the key of an item, and after a visit
--     EntryReturnsItem      the item was refused for lack of room, and is returned
--     RemovesAt      the entry's item was removed
--     LendsIfOccupied      if the entry is occupied, its item is lent
--     LendsFound, LendsInserted, EntersInserted      the entry's item is lent; the inserted one is, or has this entry
--     LendsIfVacant, LendsMade      if the entry is vacant, the inserted item is lent, this one or one that a closure made
--     VisitsEntry      the entry's item was visited
--     entry_follows      the entry ends with the last value written to its item
--     EntryKeeps, EntryKeepsAkin      an item of the same key, or of an equal one, may be written
--     rests_if_refused, lent_or_kept, guard_or_kept, entry_or_kept      if an item was refused, the map keeps its items
pub use Rattle.iddqd_hash.specs.declared.id_hash_map.entry.Entry.TheVariants.{Vacant, Occupied}
use Rattle.std.specs.Prelude.{◌≡◌, ℕ, [], Bool, IfNone, IfSome, IsSome, IsTrue, List, Option, None, Some, Result, option_map}
use Rattle.std.specs.Borrow.{Fml, GName, RattleType, MutBor, RestsIfErr, follows}
use mir.Syntax.{named}
use Rattle.iddqd_store.specs.Contents.{AddsItem, IsAbsent, find_item, items_overwritten, items_without}
use Rattle.iddqd_store.specs.Holding.{Removes}
use Rattle.iddqd_store.specs.declared.errors.Refused.{Refused}
use Rattle.iddqd_store.specs.SlotItems.{item_of_slot, still_there, without_slot}
use Rattle.iddqd_hash.specs.declared.id_hash_map.entry.Entry.{Entry}
use Rattle.iddqd_hash.specs.declared.id_hash_map.entry.OccupiedEntry.{OccupiedEntry}
use Rattle.iddqd_hash.specs.declared.id_hash_map.entry.VacantEntry.{VacantEntry}
use Rattle.iddqd_hash.specs.declared.id_hash_map.ref_mut.RefMut.{RefMut}
use Rattle.iddqd_hash.specs.Guard.{guard_lender, lent_item, lent_map, lent_with, with_item_in_slot}
use Rattle.iddqd_hash_parts.specs.HashItems.{HashItems, holding_of}
use Rattle.iddqd_hash_parts.specs.declared.keyed.Keyed as keyed
use Rattle.iddqd_hash.specs.HashMap.{HashReturnsItem, HashInserts, HashKeeps, HashStays}
use Rattle.iddqd_hash.specs.contracts.id_hash_map.IdHashMap as map
use Rattle.iddqd_hash.specs.contracts.id_hash_map.entry.OccupiedEntry as occupied

module _ {S T : Type 0} where
  abbrev pub entry_map_ref : Entry T S → MutBor (HashItems S T)
  entry_map_ref (Occupied e) = e.map
  entry_map_ref (Vacant e) = e.map

  abbrev pub entry_map : Entry T S → HashItems S T
  entry_map e = (entry_map_ref e).now

  abbrev pub entry_lender : Entry T S → GName
  entry_lender e = (entry_map_ref e).ghost_name

  abbrev pub entry_item : Entry T S → Option T
  entry_item (Occupied e) = item_of_slot e.map.now.slots e.map.now.items e.slot
  entry_item (Vacant e) = None

  abbrev pub entry_slot : OccupiedEntry T S → ℕ
  entry_slot e = e.slot

  abbrev pub entry_with : Entry T S → T → HashItems S T
  entry_with (Occupied e) w = with_item_in_slot e.map.now e.slot w
  entry_with (Vacant e) w = e.map.now

  abbrev pub entry_others : Entry T S → List T
  entry_others (Occupied e) = without_slot e.map.now.slots e.map.now.items e.slot
  entry_others (Vacant e) = e.map.now.items

  -- the occupied entry, once w is written to its item
  abbrev pub with_entry_item : OccupiedEntry T S → T → OccupiedEntry T S
  with_entry_item e w = record {
    map = record e.map { now = with_item_in_slot e.map.now e.slot w };
    slot = e.slot;
    hash = e.hash;
    there = still_there e.map.now.slots e.map.now.items e.slot w e.there;
    listed = e.listed;
  }

  -- the entry holds the map of this reference, unchanged, at the item x; a write of w leaves the items `with_item w`
  pub record IsEntryOf (m : MutBor (HashItems S T)) (x : Option T) (with_item : T → List T) (rest : List T) (e : Entry T S) : Type 0 where
    pub lender : entry_lender e ≡ m.ghost_name
    pub map : entry_map e ≡ m.now
    pub item : entry_item e ≡ x
    pub written : (w : T) → (entry_with e w).items ≡ with_item w
    pub others : entry_others e ≡ rest

  -- the guard lends the entry's item, and a write through it is one to the entry
  pub record LendsFound (e : Entry T S) (r : RefMut T S) : Type 0 where
    pub map : lent_map r ≡ entry_map e
    pub item : lent_item r ≡ entry_item e
    pub written : (w : T) → lent_with r w ≡ entry_with e w

  abbrev pub LendsIfOccupied : Entry T S → RefMut T S → Type 0
  LendsIfOccupied e r = IsSome (entry_item e) → LendsFound e r

  -- the item of an occupied entry was visited once, and a vacant one is as it was
  pub record VisitsEntry {V : Type 0} (visits : V → T → V × T × Bool) (v : V) (e : Entry T S) (after : V) (r : Entry T S) : Type 0 where
    pub item : entry_item r ≡ option_map (λ x. (visits v x).1) (entry_item e)
    pub map : IfSome (entry_item e) (λ x. entry_map r ≡ entry_with e (visits v x).1)
    pub visitor : IfSome (entry_item e) (λ x. after ≡ (visits v x).0)
    pub unchanged : IfNone (entry_item e) (entry_map r ≡ entry_map e)
    pub unvisited : IfNone (entry_item e) (after ≡ v)
    pub written : (w : T) → entry_with r w ≡ entry_with e w
    pub others : entry_others r ≡ entry_others e

module _ {T K : Type 0} (key : T → K) where
  abbrev pub PassesTest : (K → Bool) → T → Type 0
  PassesTest test x = IsTrue (test (key x))

  abbrev pub HasKeyOf : (K → K → Bool) → T → T → Type 0
  HasKeyOf eq x y = IsTrue (eq (key x) (key y))

module _ {S T K : Type 0} (key : T → K) where
  abbrev pub IsEntryFor : (K → Bool) → MutBor (HashItems S T) → Entry T S → Type 0
  IsEntryFor test m e =
      IsEntryOf m (find_item key test m.now.items) (λ w. items_overwritten key test w m.now.items) (items_without key test m.now.items) e

  abbrev pub LacksKeyOf : (K → K → Bool) → T → Entry T S → Type 0
  LacksKeyOf eq x e = IsAbsent key (eq (key x)) (entry_map e).items

  -- the same of each item that a closure makes
  abbrev pub LacksKeysOf : (K → K → Bool) → (T → Type 0) → Entry T S → Type 0
  LacksKeysOf eq made e = (x : T) → made x → LacksKeyOf eq x e

  -- the visit of the entry's item would leave it an equal key
  abbrev pub VisitKeepsKey : {V : Type 0} → (K → K → Bool) → (V → T → V × T × Bool) → V → Entry T S → Type 0
  VisitKeepsKey eq visits v e = IfSome (entry_item e) (λ x. HasKeyOf key eq x (visits v x).1)

  -- the refused item is returned, and the entry's map lacked room for it
  abbrev pub EntryReturnsItem : (K → K → Bool) → Entry T S → T → Refused T → Type 0
  EntryReturnsItem eq e x refused = HashReturnsItem key eq (entry_map e) x refused

module _ {S T : Type 0} (own : keyed.Ghosts (HashItems S T) T) where
  -- the entry's item was removed from its map
  pub record RemovesAt (x : T) (e : OccupiedEntry T S) (new : HashItems S T) : Type 0 where
    pub item : entry_item (Occupied e) ≡ Some x
    pub others : new.items ≡ entry_others (Occupied e)
    pub removes : Removes (Some x) (holding_of (entry_map (Occupied e))) (holding_of new)
    pub stays : HashStays own.keyed (entry_map (Occupied e)) new

  -- x was inserted into the entry's map, and the guard lends it; a write through it is as if that item had been inserted
  pub record LendsInserted (x : T) (e : Entry T S) (r : RefMut T S) : Type 0 where
    pub inserts : HashInserts own.keyed x (entry_map e) (lent_map r)
    pub item : lent_item r ≡ Some x
    pub written : (w : T) → AddsItem w (entry_map e).items (lent_with r w).items

  -- x was inserted into the entry's map, and this is its entry
  pub record EntersInserted (x : T) (e : Entry T S) (found : OccupiedEntry T S) : Type 0 where
    pub lender : entry_lender (Occupied found) ≡ entry_lender e
    pub inserts : HashInserts own.keyed x (entry_map e) (entry_map (Occupied found))
    pub item : entry_item (Occupied found) ≡ Some x
    pub written : (w : T) → AddsItem w (entry_map e).items (entry_with (Occupied found) w).items
    pub others : entry_others (Occupied found) ≡ (entry_map e).items

  abbrev pub LendsIfVacant : T → Entry T S → RefMut T S → Type 0
  LendsIfVacant x e r = entry_item e ≡ None → LendsInserted x e r

  abbrev pub LendsMade : (T → Type 0) → Entry T S → RefMut T S → Type 0
  LendsMade made e r = entry_item e ≡ None → (x : T) × made x × LendsInserted x e r

  -- if the map is keyed, it is so after a write of an item of the same key, or of an equal one
  abbrev pub EntryKeeps : {K : Type 0} → (T → K) → OccupiedEntry T S → MutBor T → Type 0
  EntryKeeps key e lent =
      own.keyed (entry_map (Occupied e)) → (w : T) → key w ≡ key lent.now → own.keyed (entry_with (Occupied e) w)

  abbrev pub EntryKeepsAkin : OccupiedEntry T S → MutBor T → Type 0
  EntryKeepsAkin e lent =
      own.keyed (entry_map (Occupied e)) → (w : T) → own.akin lent.now w → own.keyed (entry_with (Occupied e) w)

module _ (S T : RattleType) where
  -- the entry's lifetime is the second of the signature
  abbrev pub entry_follows : MutBor (OccupiedEntry T.Denot S.Denot) → MutBor T.Denot → Fml
  entry_follows e x =
      follows (occupied.the_row (record { mir = named 1; lft = [] }) T S) T e.ghost_name x.ghost_name (with_entry_item e.now)

  -- if an item was refused, the map behind the entry keeps its items; otherwise the result holds the map under this name
  abbrev pub rests_if_refused : {A E : Type 0} → keyed.Ghosts (HashItems S.Denot T.Denot) T.Denot → (A → GName) → Entry T.Denot S.Denot → Result A E → Fml
  rests_if_refused own name e r = RestsIfErr (map.the_row T S) (entry_map_ref e) name r (HashKeeps own.keyed (entry_map e))

  abbrev pub lent_or_kept : {E : Type 0} → keyed.Ghosts (HashItems S.Denot T.Denot) T.Denot → Entry T.Denot S.Denot → Result (RefMut T.Denot S.Denot) E → Fml
  lent_or_kept own e r = rests_if_refused own guard_lender e r

  -- the same of a vacant entry, which returns a guard or its occupied entry
  abbrev pub guard_or_kept : {E : Type 0} → keyed.Ghosts (HashItems S.Denot T.Denot) T.Denot → VacantEntry T.Denot S.Denot → Result (RefMut T.Denot S.Denot) E → Fml
  guard_or_kept own e r = lent_or_kept own (Vacant e) r

  abbrev pub entry_or_kept : {E : Type 0} → keyed.Ghosts (HashItems S.Denot T.Denot) T.Denot → VacantEntry T.Denot S.Denot → Result (OccupiedEntry T.Denot S.Denot) E → Fml
  entry_or_kept own e r = rests_if_refused own (λ found. entry_lender (Occupied found)) (Vacant e) r
