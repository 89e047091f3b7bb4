-- What either map holds, and what a call does to it, for keys of any kind.
use Rattle.std.specs.Prelude.{◌≡◌, ℕ, ◌+◌, ◌-◌, ◌<◌, ◌≤◌, List, length, remove, slice_get, Option, Some, IfNone, IfSome, OnSome}
use Rattle.std.specs.Prelude.{min as least}
use Rattle.iddqd_store.specs.Contents.{AddsItem}
use Rattle.iddqd_store.specs.SlotItems.{HaveSlots}

-- what either map holds, as contracts see it: the items, the slot of each, the number of vacant slots, how many items fit before
-- memory is needed, and the most that the map can hold
pub record Holding (T : Type 0) : Type 0 where
  pub items : List T
  pub slots : List ℕ
  pub vacant : ℕ
  pub capacity : ℕ
  pub limit : ℕ

-- the most items of a map that was given no smaller limit
abbrev pub max_items : ℕ
max_items = 4294967295

-- the item was inserted into a map that was not full; it took a vacant slot if there was one
pub record InsertsItem {T : Type 0} (x : T) (old new : Holding T) : Type 0 where
  pub room : length old.items < old.limit
  pub added : AddsItem x old.items new.items
  pub slots : HaveSlots new.slots new.items
  pub vacant : new.vacant ≡ old.vacant - 1
  pub capacity : old.capacity ≤ new.capacity
  pub limit : new.limit ≡ old.limit

-- nothing has changed but the room, which may have grown
pub record KeepsItems {T : Type 0} (old new : Holding T) : Type 0 where
  pub items : new.items ≡ old.items
  pub slots : new.slots ≡ old.slots
  pub vacant : new.vacant ≡ old.vacant
  pub capacity : old.capacity ≤ new.capacity
  pub limit : new.limit ≡ old.limit

-- new is old without the item at the place; closed, so that a search takes it whole
unfoldable pub LosesPlace : {T : Type 0} → ℕ → (old new : List T) → Type 0
LosesPlace place old new = new ≡ remove old place

-- y has left its place and its slot; the others keep their slots
pub record LeavesSlot {T : Type 0} (y : T) (old new : Holding T) : Type 0 where
  pub place : ℕ
  pub there : slice_get old.items place ≡ Some y
  pub items : LosesPlace place old.items new.items
  pub slots : new.slots ≡ remove old.slots place

-- what a removal leaves that found this, besides the items: its slot is vacant, or nothing was found and nothing has changed
-- (`remove`)
pub record Removes {T : Type 0} (found : Option T) (old new : Holding T) : Type 0 where
  pub slots : IfSome found (λ y. LeavesSlot y old new)
  pub vacant : OnSome found (new.vacant ≡ old.vacant + 1)
  pub unchanged : IfNone found (new ≡ old)
  pub capacity : new.capacity ≡ old.capacity
  pub limit : new.limit ≡ old.limit

-- what `retain` leaves besides the items: each removed item has left a vacant slot
pub record LeavesSlots {T : Type 0} (old new : Holding T) : Type 0 where
  pub slots : HaveSlots new.slots new.items
  pub vacant : new.vacant + length new.items ≡ old.vacant + length old.items
  pub capacity : new.capacity ≡ old.capacity
  pub limit : new.limit ≡ old.limit

-- what inserting many leaves besides the items: each new item has taken a vacant slot if there was one (`extend`)
pub record FillsSlots {T : Type 0} (old new : Holding T) : Type 0 where
  pub slots : HaveSlots new.slots new.items
  pub never_fewer : length old.items ≤ length new.items
  pub vacant : new.vacant ≡ old.vacant - (length new.items - length old.items)
  pub capacity : old.capacity ≤ new.capacity
  pub limit : new.limit ≡ old.limit

-- what a shrink to room for min items leaves, refused or not: no slot is vacant, and the capacity lies between its bounds
-- (`shrink_to`)
pub record Shrinks {T : Type 0} (min : ℕ) (old new : Holding T) : Type 0 where
  pub vacant : new.vacant ≡ 0
  pub lower : new.capacity ≤ old.capacity
  pub holds_items : length old.items ≤ new.capacity
  pub holds_min : least min old.capacity ≤ new.capacity
  pub slots : HaveSlots new.slots new.items
  pub limit : new.limit ≡ old.limit
