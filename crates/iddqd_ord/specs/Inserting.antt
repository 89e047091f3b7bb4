-- What an insertion by an item's own key leaves, inside the map.
--     IsInsertedIn x old new slot      x was inserted at some place: its slot
--     MissesItem x old new      why x was not inserted
use Rattle.std.specs.Prelude.{◌≡◌, ℕ, Bool, Some}
use Rattle.iddqd_store.specs.Contents.{find_item}
use Rattle.iddqd_store.specs.Holding.{Holding}
use Rattle.iddqd_store.specs.Refusal.{ReturnsItem}
use Rattle.iddqd_store.specs.SlotItems.{item_of_slot}
use Rattle.iddqd_ord.specs.Guard.{IsInsertedAt}
use Rattle.iddqd_store.specs.declared.errors.Refused.{Refused}
use Rattle.iddqd_store.specs.declared.not_inserted.NotInserted.{NotInserted}
use Rattle.iddqd_store.specs.declared.not_inserted.NotInserted.TheVariants.{Akin, NoRoom}

abbrev pub IsInsertedIn : {T : Type 0} → T → Holding T → Holding T → ℕ → Type 0
IsInsertedIn x old new slot = (place : ℕ) × IsInsertedAt x old new (slot, place)

-- an item of an equal key lies in the slot, and nothing has changed; or there was no room
abbrev pub MissesItem : {T K : Type 0} (key : T → K) (eq : K → K → Bool) (x : T) (old new : Holding T) → NotInserted T (Refused T) → Type 0
MissesItem {T} key eq x old new (Akin y slot) = (y ≡ x) × (new ≡ old) × (there : T) × (find_item key (eq (key x)) old.items ≡ Some there) × (item_of_slot old.slots old.items slot ≡ Some there)
MissesItem key eq x old new (NoRoom r) = ReturnsItem key eq old x r
