-- What calls leave of a hash map, or of one index of a map with several. `IsKeyed` says what lookups require.
--     SpareFits      the items and the spare together fit the limit
--     KeepsSpare      together they are no fewer than before, and fit the limit
--     Reserves, LacksRoomFor      there is room for n more items, or it was refused
--     HashStays      what stays in each call that changes a keyed map: it is keyed, keeps the spare, and has the same hasher
--     HashInserts      an item was inserted
--     HashKeeps      nothing has changed but the room, which may have grown
--     LosesPlaceOf      a slot is gone
use Rattle.std.specs.Prelude.{◌≡◌, ℕ, ◌+◌, ◌<◌, ◌≤◌, length, Some, remove, slice_get}
use Rattle.iddqd_store.specs.Holding.{InsertsItem, KeepsItems}
use Rattle.iddqd_store.specs.Refusal.{IsKindOf, RefusalKind}
use Rattle.iddqd_hash_parts.specs.HashItems.{HashItems, holding_of}

module _ {S T : Type 0} where
  abbrev pub SpareFits : HashItems S T → Type 0
  SpareFits m = m.spare + length m.items ≤ m.limit

  pub record KeepsSpare (old new : HashItems S T) : Type 0 where
    pub never_less : old.spare + length old.items ≤ new.spare + length new.items
    pub spare_fits : SpareFits new

  -- there is room for n more items
  pub record Reserves (n : ℕ) (old new : HashItems S T) : Type 0 where
    pub spare : n ≤ new.spare
    pub capacity : length old.items + n ≤ new.capacity
    pub in_limit : length old.items + n ≤ old.limit

  -- room for n more items was refused, and fewer were spare
  pub record LacksRoomFor (n : ℕ) (m : HashItems S T) (refused : RefusalKind) : Type 0 where
    pub kind : IsKindOf m.limit (length m.items + n) refused
    pub needed : m.spare < n

  -- the slot and its item are gone from their place
  abbrev pub LosesPlaceOf : ℕ → HashItems S T → HashItems S T → Type 0
  LosesPlaceOf slot old new =
      (place : ℕ) → slice_get old.slots place ≡ Some slot → (new.items ≡ remove old.items place) × (new.slots ≡ remove old.slots place)

  module _ (IsKeyed : HashItems S T → Type 0) where
    pub record HashStays (old new : HashItems S T) : Type 0 where
      pub keyed : IsKeyed new
      pub spare : KeepsSpare old new
      pub hasher : new.hasher ≡ old.hasher

    pub record HashInserts (x : T) (old new : HashItems S T) : Type 0 where
      pub inserts : InsertsItem x (holding_of old) (holding_of new)
      pub stays : HashStays old new

    pub record HashKeeps (old new : HashItems S T) : Type 0 where
      pub keeps : KeepsItems (holding_of old) (holding_of new)
      pub stays : HashStays old new
