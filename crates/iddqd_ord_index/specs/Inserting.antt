-- How an insertion by a key ends.
--     IfFound, OnInserted, IfUnprepared      what holds if an item has the key, if the slot was inserted, if a full leaf may not be split
--     BelongsIn      the place where a query belongs
--     FindsIn, InsertsIn, ReturnsPlace      what each end of an insertion says: the slot of the key's item, an insertion, the place
--     KeepsUnlessInserted old new result      nothing has changed but by an insertion
--     HasFor, KeepsStock, EndsIn      the unused blocks, and how the insertion ends in a node; inside
use Rattle.std.specs.Prelude.{◌≡◌, ℕ, Bool, false, ◌<◌, ◌≤◌, IsTrue, List, OnSome, Some, Err, insert}
use Rattle.std.specs.declared.cmp.Ordering.{Ordering}
use Rattle.iddqd_store.specs.Store.{Store}
use Rattle.iddqd_ord_index.specs.Changes.{AddsTo, Stock}
use Rattle.iddqd_ord_index.specs.Listed.{SlotList, listed_keys, unprepared}
use Rattle.iddqd_ord_index.specs.Search.{FindsSlot, IsPlaceAmong}
use Rattle.iddqd_ord_index.specs.Shape.{Subtree}
use Rattle.iddqd_ord_index.specs.Standing.{IsAmong, IsPlace}
use Rattle.iddqd_ord_index.specs.declared.ord_index.insert_by_key.Insertion.{Insertion}
use Rattle.iddqd_ord_index.specs.declared.ord_index.insert_by_key.Insertion.TheVariants.{Found, Inserted, Unprepared}
use Rattle.iddqd_ord_index.specs.declared.tree.node.insert_by_key.Outcome.{Outcome}
use Rattle.iddqd_ord_index.specs.declared.tree.node.insert_by_key.Outcome.TheVariants as node

-- what holds of the slot whose item has the key
abbrev pub IfFound : Insertion → (ℕ → Type 0) → Type 0
IfFound (Found slot) P = P slot
IfFound Inserted P = Unit
IfFound (Unprepared place) P = Unit

-- what holds if the slot was inserted
abbrev pub OnInserted : Insertion → Type 0 → Type 0
OnInserted (Found slot) P = Unit
OnInserted Inserted P = P
OnInserted (Unprepared place) P = Unit

-- what holds of the place if a full leaf may not be split
abbrev pub IfUnprepared : Insertion → (ℕ → Type 0) → Type 0
IfUnprepared (Found slot) P = Unit
IfUnprepared Inserted P = Unit
IfUnprepared (Unprepared place) P = P place

module _ {T K : Type 0} (key : T → K) where
  -- a slot that was found is that of the item whose key passes the test
  abbrev pub FindsIn : (K → Bool) → Store T → List ℕ → Insertion → Type 0
  FindsIn test store slots result = IfFound result (λ slot. FindsSlot key test store slots (Some slot))

  -- the place where the query belongs, which no item's key is equal to
  abbrev pub BelongsIn : (K → Ordering) → Store T → List ℕ → ℕ → Type 0
  BelongsIn compare store slots place = IsPlaceAmong compare (listed_keys key store slots) (Err place)

  -- if the slot was inserted, it is where the query belongs
  abbrev pub InsertsIn : (K → Ordering) → Store T → ℕ → SlotList → SlotList → Insertion → Type 0
  InsertsIn compare store slot old new result =
      OnInserted result ((place : ℕ) × BelongsIn compare store old.slots place × (new ≡ unprepared (insert old.slots place slot)))

  -- if a full leaf may not be split, it returns the place where the query belongs
  abbrev pub ReturnsPlace : (K → Ordering) → Store T → List ℕ → Insertion → Type 0
  ReturnsPlace compare store slots result = IfUnprepared result (BelongsIn compare store slots)

-- the index is as it was, unless the slot was inserted
abbrev pub KeepsUnlessInserted : SlotList → SlotList → Insertion → Type 0
KeepsUnlessInserted old new (Found slot) = new ≡ old
KeepsUnlessInserted old new Inserted = Unit
KeepsUnlessInserted old new (Unprepared place) = new ≡ old

-- this many unused blocks are there, and room for one more
abbrev pub HasFor : ℕ → Stock → Type 0
HasFor wanted s = (wanted ≤ s.count) × (wanted < s.room)

-- the unused blocks are as they were, unless the slot was inserted
abbrev pub KeepsStock : Stock → Stock → Outcome → Type 0
KeepsStock old new (node.Found slot) = new ≡ old
KeepsStock old new (node.Inserted split) = Unit
KeepsStock old new (node.Full place) = new ≡ old

-- a node: the slot that the query equals; or the slot was inserted where the query belongs, with a split only if that was
-- allowed; or its leaf is full and may not be split
abbrev pub EndsIn : (ℕ → Ordering) → (ready : Bool) → (slot : ℕ) → Subtree → Subtree → Outcome → Type 0
EndsIn order ready slot old new (node.Found found) = (new ≡ old) × IsAmong order old.slots (Some found)
EndsIn order ready slot old new (node.Inserted split) = (place : ℕ) × IsPlace order old.slots (Err place) × AddsTo (insert old.slots place slot) old.width new split × OnSome split (IsTrue ready)
EndsIn order ready slot old new (node.Full place) = (new ≡ old) × IsPlace order old.slots (Err place) × (ready ≡ false)
