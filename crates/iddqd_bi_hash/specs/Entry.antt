-- What a contract sees of an entry of a hash map of two keys.
--     entry_map, entry_lender      the map as the entry holds it, the name of the reference to the map
--     entry_slots, entry_items, entry_others      its slots and items, that of the first key first, and the items but for these
--     entry_is_unique, entry_item      one item has both keys; that item
--     entry_with e w      the map once w is written to that item; if the entry is vacant, the map
--     still_occupied      after a write to any slot a slot that had an item has one
--     IsEntryFor      the entry of what two queries find
--     AreLent      the entry's items are lent
--     RemovesItems, ReplacesItems      the entry's items were removed, or replaced by one
--     EntryReturnsItem      the item was refused for lack of room, and is returned
--     LendsFound      the entry's item is lent
--     LendsInserted, EntersInserted      the inserted item is lent, or has this entry
--     LendsIfOccupied      the item that has both keys is lent, or else the entry is returned
--     LendsIfVacant, LendsMade      if the entry is vacant, the inserted item is lent, this one or one that a closure made
--     LacksKeysOf, LacksKeysOfMade      no item but the entry's has a key of this item, or of one that a closure makes
--     mut_lender      the name of the reference to the map in what an entry lends
--     MutKeeps, MutKeepsAkin      an item of the same keys, or of equal ones, may be written to what is lent
--     entry_follows      the entry ends with the last value written to its item
--     EntryKeeps, EntryKeepsAkin      an item of the same keys, or of equal ones, may be written
--     rests_if_refused, mut_or_kept, guard_or_kept, entry_or_kept      if an item was refused, the map keeps its items
pub use Rattle.iddqd_bi_hash.specs.declared.bi_hash_map.entry.Entry.TheVariants.{Vacant, Occupied}
pub use Rattle.iddqd_bi_hash.specs.declared.bi_hash_map.entry.OccupiedEntryMut.TheVariants.{Unique, NonUnique}
use Rattle.std.proofs.Common.{cond, refl}
use Rattle.std.specs.Prelude.{◌≡◌, ℕ, ◌+◌, [], ◌∷◌, Bool, true, false, IsTrue, List, Option, None, Some, Result, if◌then◌else◌, is_some, length, map, nat_eq}
use Rattle.std.specs.Borrow.{Bor, Fml, GName, RattleType, MutBor, RestsIfErr, follows}
use mir.Syntax.{named}
use Rattle.std.specs.List.{filter_map}
use Rattle.iddqd_store.specs.Contents.{AddsItem, IsAbsent, items_overwritten}
use Rattle.iddqd_store.specs.Errors.{values_of}
use Rattle.iddqd_store.specs.SlotItems.{HaveSlots, item_of_slot, written_to_slot}
use Rattle.iddqd_store.specs.declared.errors.Few.{Few}
use Rattle.iddqd_store.specs.declared.errors.Refused.{Refused}
use Rattle.iddqd_hash_parts.specs.declared.keyed.Keyed as keyed
use Rattle.iddqd_bi_hash.specs.BiHashItems.{BiHashItems}
use Rattle.iddqd_bi_hash.specs.BiHashMap.{BiInserts, BiKeeps, BiReturnsItem, BiStays}
use Rattle.iddqd_bi_hash.specs.Guard.{GuardKeeps, GuardKeepsAkin, guard_lender, lent_item, lent_map, lent_with, with_item_in_slot}
use Rattle.iddqd_bi_hash.specs.TwoKeys.{find_by_both, items_found, items_left, slots_of_pair, without_slots}
use Rattle.iddqd_bi_hash.specs.declared.both.Both as both
use Rattle.iddqd_bi_hash.specs.declared.bi_hash_map.entry.Entry.{Entry}
use Rattle.iddqd_bi_hash.specs.declared.bi_hash_map.entry.OccupiedEntry.{OccupiedEntry}
use Rattle.iddqd_bi_hash.specs.declared.bi_hash_map.entry.OccupiedEntryMut.{OccupiedEntryMut}
use Rattle.iddqd_bi_hash.specs.declared.bi_hash_map.entry.VacantEntry.{VacantEntry}
use Rattle.iddqd_bi_hash.specs.declared.bi_hash_map.ref_mut.RefMut.{RefMut}
use Rattle.iddqd_bi_hash.specs.contracts.bi_hash_map.BiHashMap as bi_map
use Rattle.iddqd_bi_hash.specs.contracts.bi_hash_map.entry.OccupiedEntry as occupied

-- after a write to any slot a slot that had an item has one
pub still_occupied : {T : Type 0} (slots : List ℕ) (items : List T) (at slot : ℕ) (w : T) → is_some (item_of_slot slots items slot) ≡ true → is_some (item_of_slot slots (written_to_slot slots items at w) slot) ≡ true
still_occupied [] items at slot w some = some
still_occupied (s ∷ slots) [] at slot w some = some
still_occupied (s ∷ slots) (y ∷ items) at slot w some = by (still_occupied slots items at slot w) (nat_eq s at) (nat_eq s slot) refl refl some
  where
    by : (is_some (item_of_slot slots items slot) ≡ true → is_some (item_of_slot slots (written_to_slot slots items at w) slot) ≡ true) → (a b : Bool) → nat_eq s at ≡ a → nat_eq s slot ≡ b → is_some (cond b (Some y) (item_of_slot slots items slot)) ≡ true → is_some (item_of_slot (s ∷ slots) (written_to_slot (s ∷ slots) (y ∷ items) at w) slot) ≡ true
    by behind true true p q there = rw (p, q) refl
    by behind true false p q there = rw (p, q) there
    by behind false true p q there = rw (p, q) refl
    by behind false false p q there = rw (p, q) (behind there)

module _ {S T : Type 0} where
  abbrev pub entry_map_ref : Entry T S → MutBor (BiHashItems S T)
  entry_map_ref (Occupied e) = e.map
  entry_map_ref (Vacant e) = e.map

  abbrev pub entry_map : Entry T S → BiHashItems S T
  entry_map e = (entry_map_ref e).now

  abbrev pub entry_lender : Entry T S → GName
  entry_lender e = (entry_map_ref e).ghost_name

  abbrev pub entry_slots : Entry T S → List ℕ
  entry_slots (Occupied e) = slots_of_pair e.first e.second
  entry_slots (Vacant e) = []

  abbrev pub entry_items : Entry T S → List T
  entry_items e = filter_map (item_of_slot (entry_map e).slots (entry_map e).items) (entry_slots e)

  abbrev pub entry_others : Entry T S → List T
  entry_others e = without_slots (entry_map e).slots (entry_map e).items (entry_slots e)

  abbrev pub entry_is_unique : Entry T S → Bool
  entry_is_unique (Occupied e) = e.unique
  entry_is_unique (Vacant e) = false

  -- the item that both queries found, if there is one
  abbrev pub entry_item : Entry T S → Option T
  entry_item (Occupied e) = if e.unique then item_of_slot e.map.now.slots e.map.now.items e.first else None
  entry_item (Vacant e) = None

  abbrev pub entry_with : Entry T S → T → BiHashItems S T
  entry_with (Occupied e) w = with_item_in_slot e.map.now e.first w
  entry_with (Vacant e) w = e.map.now

  -- the occupied entry, once w is written to its item
  abbrev pub with_entry_item : OccupiedEntry T S → T → OccupiedEntry T S
  with_entry_item e w = record {
    map = record e.map { now = with_item_in_slot e.map.now e.first w };
    first = e.first;
    second = e.second;
    unique = e.unique;
    there1 = still_occupied e.map.now.slots e.map.now.items e.first e.first w e.there1;
    there2 = still_occupied e.map.now.slots e.map.now.items e.first e.second w e.there2;
    same = e.same;
  }

  abbrev pub AreLent : Entry T S → List (Bor T) → Type 0
  AreLent e lents = map (λ lent. lent.now) lents ≡ entry_items e

  abbrev pub mut_lender : OccupiedEntryMut T S → GName
  mut_lender (Unique r) = guard_lender r
  mut_lender (NonUnique e) = entry_lender (Occupied e)

  -- the guard lends the entry's item, and a write through it is one to the entry
  pub record LendsFound (e : Entry T S) (r : RefMut T S) : Type 0 where
    pub map : lent_map r ≡ entry_map e
    pub item : lent_item r ≡ entry_item e
    pub written : (w : T) → lent_with r w ≡ entry_with e w

  -- the guard lends the entry's one item; an entry without one item is vacant
  pub record LendsUnique (e : Entry T S) (r : RefMut T S) : Type 0 where
    pub found : IsTrue (entry_is_unique e) → LendsFound e r
    pub vacant : entry_is_unique e ≡ false → entry_items e ≡ []

  -- the entry is the same, and no item of it has both keys
  pub record ReturnsEntry (e : Entry T S) (r : OccupiedEntry T S) : Type 0 where
    pub same : Occupied r ≡ e
    pub non_unique : entry_is_unique e ≡ false

  abbrev pub LendsIfOccupied : Entry T S → OccupiedEntryMut T S → Type 0
  LendsIfOccupied e (Unique r) = LendsUnique e r
  LendsIfOccupied e (NonUnique r) = ReturnsEntry e r

module _ {S T K L : Type 0} (key1 : T → K) (key2 : T → L) where
  -- the entry holds the map of this reference, unchanged, at the items that pass one of the tests; no other passes one
  pub record IsEntryFor (test1 : K → Bool) (test2 : L → Bool) (m : MutBor (BiHashItems S T)) (e : Entry T S) : Type 0 where
    pub lender : entry_lender e ≡ m.ghost_name
    pub map : entry_map e ≡ m.now
    pub items : entry_items e ≡ items_found key1 key2 test1 test2 m.now.items
    pub others : entry_others e ≡ items_left key1 key2 test1 test2 m.now.items
    pub absent1 : IsAbsent key1 test1 (entry_others e)
    pub absent2 : IsAbsent key2 test2 (entry_others e)
    pub unique : entry_is_unique e ≡ is_some (find_by_both key1 key2 test1 test2 m.now.items)
    pub item : entry_item e ≡ find_by_both key1 key2 test1 test2 m.now.items
    pub written : IsTrue (entry_is_unique e) → (w : T) → (entry_with e w).items ≡ items_overwritten key1 test1 w m.now.items

module _ {T K L : Type 0} (keys : both.Ghosts T K L) where
  -- no item but the entry's has a key of this one
  pub record LacksKeysOf {S : Type 0} (x : T) (e : Entry T S) : Type 0 where
    pub absent1 : IsAbsent keys.key1 (keys.eq1 (keys.key1 x)) (entry_others e)
    pub absent2 : IsAbsent keys.key2 (keys.eq2 (keys.key2 x)) (entry_others e)

  abbrev pub LacksKeysOfMade : {S : Type 0} → (T → Type 0) → Entry T S → Type 0
  LacksKeysOfMade made e = (x : T) → made x → LacksKeysOf x e

  -- the refused item is returned, and the entry's map lacked room for it
  abbrev pub EntryReturnsItem : {S : Type 0} → Entry T S → T → Refused T → Type 0
  EntryReturnsItem e x refused = BiReturnsItem keys (entry_map e) x refused

module _ {S T : Type 0} (own : keyed.Ghosts (BiHashItems S T) T) where
  -- the entry's items were removed from its map
  pub record RemovesItems (e : OccupiedEntry T S) (back : Few T) (new : BiHashItems S T) : Type 0 where
    pub items : values_of back ≡ entry_items (Occupied e)
    pub others : new.items ≡ entry_others (Occupied e)
    pub vacant : new.vacant ≡ (entry_map (Occupied e)).vacant + length (values_of back)
    pub capacity : new.capacity ≡ (entry_map (Occupied e)).capacity
    pub limit : new.limit ≡ (entry_map (Occupied e)).limit
    pub stays : BiStays own.keyed (entry_map (Occupied e)) new

  -- x is in the entry's map in place of the entry's items
  pub record ReplacesItems (x : T) (e : OccupiedEntry T S) (back : Few T) (new : BiHashItems S T) : Type 0 where
    pub items : values_of back ≡ entry_items (Occupied e)
    pub put : AddsItem x (entry_others (Occupied e)) new.items
    pub slots : HaveSlots new.slots new.items
    pub vacant : new.vacant + 1 ≡ (entry_map (Occupied e)).vacant + length (values_of back)
    pub capacity : new.capacity ≡ (entry_map (Occupied e)).capacity
    pub limit : new.limit ≡ (entry_map (Occupied e)).limit
    pub stays : BiStays own.keyed (entry_map (Occupied e)) new

  -- x was inserted into the entry's map, and the guard lends it; a write through it is as if that item had been inserted
  pub record LendsInserted (x : T) (e : Entry T S) (r : RefMut T S) : Type 0 where
    pub inserts : BiInserts own.keyed x (entry_map e) (lent_map r)
    pub item : lent_item r ≡ Some x
    pub written : (w : T) → AddsItem w (entry_map e).items (lent_with r w).items

  abbrev pub LendsIfVacant : T → Entry T S → OccupiedEntryMut T S → Type 0
  LendsIfVacant x e (Unique r) = entry_items e ≡ [] → LendsInserted x e r
  LendsIfVacant x e (NonUnique r) = entry_is_unique e ≡ false

  abbrev pub LendsMade : (T → Type 0) → Entry T S → OccupiedEntryMut T S → Type 0
  LendsMade made e (Unique r) = entry_items e ≡ [] → (x : T) × made x × LendsInserted x e r
  LendsMade made e (NonUnique r) = entry_is_unique e ≡ false

  -- x was inserted into the entry's map, and this is its entry
  pub record EntersInserted (x : T) (e : Entry T S) (found : OccupiedEntry T S) : Type 0 where
    pub lender : entry_lender (Occupied found) ≡ entry_lender e
    pub inserts : BiInserts own.keyed x (entry_map e) (entry_map (Occupied found))
    pub items : entry_items (Occupied found) ≡ x ∷ []
    pub item : entry_item (Occupied found) ≡ Some x
    pub unique : entry_is_unique (Occupied found) ≡ true
    pub written : (w : T) → AddsItem w (entry_map e).items (entry_with (Occupied found) w).items
    pub others : entry_others (Occupied found) ≡ (entry_map e).items

  -- if the map is keyed, it is so after a write of an item of the same keys, or of equal ones
  abbrev pub EntryKeeps : {K L : Type 0} → (T → K) → (T → L) → OccupiedEntry T S → MutBor T → Type 0
  EntryKeeps key1 key2 e lent =
      own.keyed (entry_map (Occupied e)) → (w : T) → key1 w ≡ key1 lent.now → key2 w ≡ key2 lent.now → own.keyed (entry_with (Occupied e) w)

  abbrev pub EntryKeepsAkin : OccupiedEntry T S → MutBor T → Type 0
  EntryKeepsAkin e lent =
      own.keyed (entry_map (Occupied e)) → (w : T) → own.akin lent.now w → own.keyed (entry_with (Occupied e) w)

  -- the map is keyed after a write of an item of the same keys, or of equal ones; where no item is lent, it is keyed
  abbrev pub MutKeeps : {K L : Type 0} → (T → K) → (T → L) → OccupiedEntryMut T S → Type 0
  MutKeeps key1 key2 (Unique r) = GuardKeeps key1 key2 own.keyed r
  MutKeeps key1 key2 (NonUnique e) = own.keyed (entry_map (Occupied e))

  abbrev pub MutKeepsAkin : OccupiedEntryMut T S → Type 0
  MutKeepsAkin (Unique r) = GuardKeepsAkin own r
  MutKeepsAkin (NonUnique e) = own.keyed (entry_map (Occupied e))

module _ (S T : RattleType) where
  -- the entry's lifetime is the second of the signature
  abbrev pub entry_follows : MutBor (OccupiedEntry T.Denot S.Denot) → MutBor T.Denot → Fml
  entry_follows e x =
      follows (occupied.the_row (record { mir = named 1; lft = [] }) T S) T e.ghost_name x.ghost_name (with_entry_item e.now)

  -- if an item was refused, the map behind the entry keeps its items; otherwise the result holds the map under this name
  abbrev pub rests_if_refused : {A E : Type 0} → keyed.Ghosts (BiHashItems S.Denot T.Denot) T.Denot → (A → GName) → Entry T.Denot S.Denot → Result A E → Fml
  rests_if_refused own name e r = RestsIfErr (bi_map.the_row T S) (entry_map_ref e) name r (BiKeeps own.keyed (entry_map e))

  abbrev pub mut_or_kept : {E : Type 0} → keyed.Ghosts (BiHashItems S.Denot T.Denot) T.Denot → Entry T.Denot S.Denot → Result (OccupiedEntryMut T.Denot S.Denot) E → Fml
  mut_or_kept own e r = rests_if_refused own mut_lender e r

  -- the same of a vacant entry, which returns a guard or its occupied entry
  abbrev pub guard_or_kept : {E : Type 0} → keyed.Ghosts (BiHashItems S.Denot T.Denot) T.Denot → VacantEntry T.Denot S.Denot → Result (RefMut T.Denot S.Denot) E → Fml
  guard_or_kept own e r = rests_if_refused own guard_lender (Vacant e) r

  abbrev pub entry_or_kept : {E : Type 0} → keyed.Ghosts (BiHashItems S.Denot T.Denot) T.Denot → VacantEntry T.Denot S.Denot → Result (OccupiedEntry T.Denot S.Denot) E → Fml
  entry_or_kept own e r = rests_if_refused own (λ found. entry_lender (Occupied found)) (Vacant e) r
