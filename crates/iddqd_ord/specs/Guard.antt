-- What a contract sees of a guard of an ordered map.
--     item_in_slot m slot, with_item_in_slot m slot w      the item of the slot, and the map once w is written to it
--     IsSlotAt m place slot      the slot of the item at the place: what it shows, what a write and a removal leave
--     IsInsertedAt x old new at      x was inserted: its slot and its place
--     lent_map, lent_slot, lent_item, guard_lender      the map as the guard holds it, the slot, its item, the name of the reference to the map
--     lent_with r w      the map once w is written through the guard
--     shown_map, shown_item, shown_lender      the same of what `into_ref` returns
--     lends_item, item_follows, guard_follows      the map, or the guard, ends with the last value written
--     rests_at_none      with no guard the map stays as it is
--     GuardFinds, GuardOverwrites      the guard lends the item whose key passes the test, and a write replaces that one
--     GuardReadsAt, GuardWritesAt      the guard lends the item at the position, and a write replaces that one
--     GuardKeeps, GuardKeepsAkin      an item of the same key, or of an equal one, may be written
use Rattle.std.specs.Prelude.{◌≡◌, ℕ, [], Bool, IsSome, IsTrue, Option, Some, remove, slice_get, slice_set}
use Rattle.std.specs.Borrow.{Fml, GName, RattleType, MutBor, Lends, RestsIfNone, follows}
use Rattle.std.specs.declared.cmp.Ordering.{Ordering}
use mir.Syntax.{named}
use Rattle.iddqd_store.specs.Contents.{AddsItem, Ascends, find_item, items_overwritten}
use Rattle.iddqd_store.specs.Holding.{Holding}
use Rattle.iddqd_store.specs.SlotItems.{item_of_slot, still_there, without_slot, written_to_slot}
use Rattle.iddqd_ord.specs.declared.id_ord_map.ref_mut.RefMut.{RefMut}
use Rattle.iddqd_ord.specs.declared.id_ord_map.ref_mut.Shown.{Shown}
use Rattle.iddqd_ord.specs.contracts.id_ord_map.IdOrdMap as map
use Rattle.iddqd_ord.specs.contracts.id_ord_map.ref_mut.RefMut as guard

module _ {T : Type 0} where
  abbrev pub with_item_in_slot : Holding T → ℕ → T → Holding T
  with_item_in_slot m slot w = record m { items = written_to_slot m.slots m.items slot w }

  abbrev pub item_in_slot : Holding T → ℕ → Option T
  item_in_slot m slot = item_of_slot m.slots m.items slot

  pub record IsSlotAt (m : Holding T) (place slot : ℕ) : Type 0 where
    pub item : item_in_slot m slot ≡ slice_get m.items place
    pub there : IsSome (item_in_slot m slot)
    pub written : (w : T) → written_to_slot m.slots m.items slot w ≡ slice_set m.items place w
    pub others : without_slot m.slots m.items slot ≡ remove m.items place
    pub placed : slice_get m.slots place ≡ Some slot

  pub record IsInsertedAt (x : T) (old new : Holding T) (at : ℕ × ℕ) : Type 0 where
    pub there : item_in_slot new at.0 ≡ Some x
    pub placed : slice_get new.slots at.1 ≡ Some at.0
    pub written : (w : T) → AddsItem w old.items (with_item_in_slot new at.0 w).items
    pub others : without_slot new.slots new.items at.0 ≡ old.items

  abbrev pub lent_map : RefMut T → Holding T
  lent_map r = r.map.now

  abbrev pub lent_slot : RefMut T → ℕ
  lent_slot r = r.slot

  abbrev pub lent_item : RefMut T → Option T
  lent_item r = item_of_slot r.map.now.slots r.map.now.items r.slot

  abbrev pub guard_lender : RefMut T → GName
  guard_lender r = r.map.ghost_name

  abbrev pub lent_with : RefMut T → T → Holding T
  lent_with r w = with_item_in_slot r.map.now r.slot w

  -- the guard, once w is written through it
  abbrev pub with_item : RefMut T → T → RefMut T
  with_item r w = record {
    map = record r.map { now = with_item_in_slot r.map.now r.slot w };
    slot = r.slot;
    spent = r.spent;
    there = still_there r.map.now.slots r.map.now.items r.slot w r.there;
  }

  abbrev pub shown_map : Shown T → Holding T
  shown_map s = s.map.now

  abbrev pub shown_item : Shown T → Option T
  shown_item s = item_of_slot s.map.now.slots s.map.now.items s.slot

  abbrev pub shown_lender : Shown T → GName
  shown_lender s = s.map.ghost_name

module _ {T : Type 0} (index : ℕ) where
  abbrev pub GuardReadsAt : RefMut T → Type 0
  GuardReadsAt r = lent_item r ≡ slice_get (lent_map r).items index

  abbrev pub GuardWritesAt : RefMut T → Type 0
  GuardWritesAt r = (w : T) → (lent_with r w).items ≡ slice_set (lent_map r).items index w

module _ {T K : Type 0} (key : T → K) where
  abbrev pub GuardFinds : (K → Bool) → RefMut T → Type 0
  GuardFinds test r = find_item key test (lent_map r).items ≡ lent_item r

  abbrev pub GuardOverwrites : (K → Bool) → Holding T → RefMut T → Type 0
  GuardOverwrites test m r = (w : T) → (with_item_in_slot m (lent_slot r) w).items ≡ items_overwritten key test w m.items

  -- if the map was keyed, it is so after a write of an item of the same key, or of an equal one
  module _ (cmp : K → K → Ordering) where
    abbrev pub GuardKeeps : RefMut T → Type 0
    GuardKeeps r = (x w : T) → lent_item r ≡ Some x → key w ≡ key x → Ascends key cmp (lent_with r w).items

    abbrev pub GuardKeepsAkin : (K → K → Bool) → RefMut T → Type 0
    GuardKeepsAkin eq r =
        (x w : T) → lent_item r ≡ Some x → IsTrue (eq (key x) (key w)) → Ascends key cmp (lent_with r w).items

module _ (T : RattleType) where
  abbrev pub lends_item : MutBor (Holding T.Denot) → ℕ → MutBor T.Denot → Fml
  lends_item m slot r = Lends (map.the_row T) T m r (with_item_in_slot m.now slot)

  abbrev pub rests_at_none : MutBor (Holding T.Denot) → Option (RefMut T.Denot) → Fml
  rests_at_none m r = RestsIfNone (map.the_row T) m guard_lender r (λ n. n ≡ m.now)

  abbrev pub item_follows : RefMut T.Denot → MutBor T.Denot → Fml
  item_follows r x = follows (map.the_row T) T r.map.ghost_name x.ghost_name (with_item_in_slot r.map.now r.slot)

  -- the guard's lifetime is the second of the signature
  abbrev pub guard_follows : MutBor (RefMut T.Denot) → MutBor T.Denot → Fml
  guard_follows g x =
      follows (guard.the_row (record { mir = named 1; lft = [] }) T) T g.ghost_name x.ghost_name (with_item g.now)
