-- What a contract sees of a guard of a hash map of two keys.
--     with_item_in_slot m slot w      the map, once w is written to the slot
--     VisitsSlot      the slot's item was visited
--     lent_map, lent_slot, lent_item      the map as the guard holds it, the slot, its item
--     guard_lender      the name of the guard's reference to the map
--     lent_with r w      the map once w is written through the guard
--     GuardFinds, GuardFindsByBoth      it lends the item that a query finds, or two queries
--     GuardOverwrites      a write overwrites that item
--     GuardReads      an item that is written under an equal key is what this key finds
--     GuardKeeps, GuardKeepsAkin      an item of the same keys, or of equal ones, may be written
--     shown_map, shown_item, shown_lender      the same of what `into_ref` returns
--     lends_item, item_follows, guard_follows      the map, or the guard, ends with the last value written
--     rests_at_none      with no guard the map stays as it is
use Rattle.std.specs.Prelude.{◌≡◌, ℕ, [], Bool, true, Option, Some}
use Rattle.std.specs.Borrow.{Fml, GName, RattleType, MutBor, Lends, RestsIfNone, follows}
use mir.Syntax.{named}
use Rattle.iddqd_store.specs.Contents.{find_item, items_overwritten}
use Rattle.iddqd_store.specs.SlotItems.{item_of_slot, still_there, written_to_slot}
use Rattle.iddqd_hash_parts.specs.declared.keyed.Keyed as keyed
use Rattle.iddqd_bi_hash.specs.BiHashItems.{BiHashItems}
use Rattle.iddqd_bi_hash.specs.TwoKeys.{find_by_both}
use Rattle.iddqd_bi_hash.specs.declared.bi_hash_map.ref_mut.RefMut.{RefMut}
use Rattle.iddqd_bi_hash.specs.declared.bi_hash_map.ref_mut.Shown.{Shown}
use Rattle.iddqd_bi_hash.specs.contracts.bi_hash_map.BiHashMap as map
use Rattle.iddqd_bi_hash.specs.contracts.bi_hash_map.ref_mut.RefMut as guard

module _ {S T : Type 0} where
  abbrev pub with_item_in_slot : BiHashItems S T → ℕ → T → BiHashItems S T
  with_item_in_slot m slot w = record m { items = written_to_slot m.slots m.items slot w }

  -- the slot's item was visited, and now is as the visit left it; so is the visitor
  abbrev pub VisitsSlot : {V : Type 0} → (V → T → V × T × Bool) → V → V → ℕ → BiHashItems S T → BiHashItems S T → Bool → Type 0
  VisitsSlot visits before after slot old new kept = (x y : T)
      × (item_of_slot old.slots old.items slot ≡ Some x)
      × (visits before x ≡ (after, y, kept))
      × (new ≡ with_item_in_slot old slot y)

  abbrev pub lent_map : RefMut T S → BiHashItems S T
  lent_map r = r.map.now

  abbrev pub lent_slot : RefMut T S → ℕ
  lent_slot r = r.slot

  abbrev pub lent_item : RefMut T S → Option T
  lent_item r = item_of_slot r.map.now.slots r.map.now.items r.slot

  abbrev pub guard_lender : RefMut T S → GName
  guard_lender r = r.map.ghost_name

  abbrev pub lent_with : RefMut T S → T → BiHashItems S T
  lent_with r w = with_item_in_slot r.map.now r.slot w

  -- the guard, once w is written through it
  abbrev pub with_item : RefMut T S → T → RefMut T S
  with_item r w = record {
    map = record r.map { now = with_item_in_slot r.map.now r.slot w };
    slot = r.slot;
    spent = r.spent;
    there = still_there r.map.now.slots r.map.now.items r.slot w r.there;
  }

  abbrev pub shown_map : Shown T S → BiHashItems S T
  shown_map s = s.map.now

  abbrev pub shown_item : Shown T S → Option T
  shown_item s = item_of_slot s.map.now.slots s.map.now.items s.slot

  abbrev pub shown_lender : Shown T S → GName
  shown_lender s = s.map.ghost_name

module _ {S T K : Type 0} (key : T → K) where
  abbrev pub GuardFinds : (K → Bool) → RefMut T S → Type 0
  GuardFinds test r = find_item key test (lent_map r).items ≡ lent_item r

  abbrev pub GuardOverwrites : (K → Bool) → BiHashItems S T → RefMut T S → Type 0
  GuardOverwrites test m r = (w : T) → (with_item_in_slot m (lent_slot r) w).items ≡ items_overwritten key test w m.items

  -- the lent item's key finds what is written in its place, if that has an equal key
  abbrev pub GuardReads : (K → K → Bool) → RefMut T S → Type 0
  GuardReads eq r = (x w : T) → lent_item r ≡ Some x → eq (key x) (key w) ≡ true → find_item key (eq (key x)) (lent_with r w).items ≡ Some w

module _ {S T K L : Type 0} (key1 : T → K) (key2 : T → L) where
  abbrev pub GuardFindsByBoth : (K → Bool) → (L → Bool) → RefMut T S → Type 0
  GuardFindsByBoth test1 test2 r = find_by_both key1 key2 test1 test2 (lent_map r).items ≡ lent_item r

  -- the map is keyed after a write of an item of the same keys
  abbrev pub GuardKeeps : (BiHashItems S T → Type 0) → RefMut T S → Type 0
  GuardKeeps IsKeyed r = (x w : T) → lent_item r ≡ Some x → key1 w ≡ key1 x → key2 w ≡ key2 x → IsKeyed (lent_with r w)

-- the map is keyed after a write of an item of equal keys
abbrev pub GuardKeepsAkin : {S T : Type 0} → keyed.Ghosts (BiHashItems S T) T → RefMut T S → Type 0
GuardKeepsAkin {S} {T} map r = (x w : T) → lent_item r ≡ Some x → map.akin x w → map.keyed (lent_with r w)

module _ (S T : RattleType) where
  abbrev pub lends_item : MutBor (BiHashItems S.Denot T.Denot) → ℕ → MutBor T.Denot → Fml
  lends_item m slot r = Lends (map.the_row T S) T m r (with_item_in_slot m.now slot)

  abbrev pub rests_at_none : MutBor (BiHashItems S.Denot T.Denot) → Option (RefMut T.Denot S.Denot) → Fml
  rests_at_none m r = RestsIfNone (map.the_row T S) m guard_lender r (λ n. n ≡ m.now)

  abbrev pub item_follows : RefMut T.Denot S.Denot → MutBor T.Denot → Fml
  item_follows r x = follows (map.the_row T S) T r.map.ghost_name x.ghost_name (with_item_in_slot r.map.now r.slot)

  -- the guard's lifetime is the second of the signature
  abbrev pub guard_follows : MutBor (RefMut T.Denot S.Denot) → MutBor T.Denot → Fml
  guard_follows g x =
      follows (guard.the_row (record { mir = named 1; lft = [] }) T S) T g.ghost_name x.ghost_name (with_item g.now)
