-- How the slots of an `ItemStore` are stored, and the chain of the vacant ones. No public clause cites this file.
use Rattle.std.specs.Prelude.{◌≡◌, ◌≢◌, ℕ, ◌^◌, ◌<◌, ◌≤◌, List, map, length, Option, Some, None, is_some, count_by, slice_index_or, if◌then◌else◌, ◌==◌}
use Rattle.iddqd_store.specs.Store.{MovesLast, items_present}
use Rattle.iddqd_store.specs.declared.item_store.chain.Slot.{Slot}
use Rattle.iddqd_store.specs.declared.item_store.chain.Slot.TheVariants.{Vacant, Occupied}

-- the number that stands for no slot, `u32::MAX`
abbrev pub no_slot : ℕ
no_slot = 4294967295

module _ {T : Type 0} where
  -- the item of a slot
  abbrev pub item_of : Slot T → Option T
  item_of (Vacant _) = None
  item_of (Occupied item) = Some item

  -- the slots before and after a vacant one in the chain
  abbrev pub links_of : Slot T → Option (ℕ × ℕ)
  links_of (Vacant links) = Some (links.previous, links.next)
  links_of (Occupied _) = None

  -- the item of each slot
  abbrev pub items_of : List (Slot T) → List (Option T)
  items_of es = map item_of es

  -- the items of these slots, in their order
  abbrev pub items_held : List (Slot T) → List T
  items_held es = items_present (items_of es)

  -- the item of the last slot moves to the vacant one
  abbrev pub MovesItem : List (Slot T) → List (Slot T) → (last hole : ℕ) → Type 0
  MovesItem old new last hole = MovesLast (items_of old) (items_of new) last hole

  -- the links of the slot of this number
  abbrev pub links_at : List (Slot T) → ℕ → Option (ℕ × ℕ)
  links_at es slot = slice_index_or (map links_of es) slot None

  -- the copy is vacant with the same links, or has a clone of the item
  abbrev pub IsSlotClone : (T → T → Type 0) → Slot T → Slot T → Type 0
  IsSlotClone is_clone (Vacant links) copy = copy ≡ Vacant links
  IsSlotClone is_clone (Occupied item) copy = (other : T) × (copy ≡ Occupied other) × is_clone item other

module _ {T : Type 0} where
  -- each slot has what it had, and as many have an item
  pub record SameSlots (old new : List (Option T)) : Type 0 where
    pub at : (slot : ℕ) → slice_index_or new slot None ≡ slice_index_or old slot None
    pub count : count_by is_some new ≡ count_by is_some old

-- the links of all slots but one
abbrev pub links_without : (ℕ → Option (ℕ × ℕ)) → ℕ → ℕ → Option (ℕ × ℕ)
links_without links at slot = if slot == at then None else links slot

-- all links but those of one slot stay; all stay if there is no such slot
abbrev pub KeepsOtherLinks : (ℕ → Option (ℕ × ℕ)) → (ℕ → Option (ℕ × ℕ)) → ℕ → Type 0
KeepsOtherLinks old new at = (s : ℕ) → (at ≢ no_slot → s ≢ at) → new s ≡ old s

-- the slot's next is this, if there is such a slot
abbrev pub SetsNext : (ℕ → Option (ℕ × ℕ)) → (ℕ → Option (ℕ × ℕ)) → ℕ → ℕ → Type 0
SetsNext old new at next = at ≢ no_slot → (p n : ℕ) → old at ≡ Some (p, n) → new at ≡ Some (p, next)

-- the slot's previous is this, if there is such a slot
abbrev pub SetsPrevious : (ℕ → Option (ℕ × ℕ)) → (ℕ → Option (ℕ × ℕ)) → ℕ → ℕ → Type 0
SetsPrevious old new at previous = at ≢ no_slot → (p n : ℕ) → old at ≡ Some (p, n) → new at ≡ Some (previous, n)

-- the next of a vacant slot names it as its previous, and has a lower rank
abbrev pub LinksBack : (ℕ → Option (ℕ × ℕ)) → (ℕ → ℕ) → (s n : ℕ) → Type 0
LinksBack links rank s n = (m : ℕ) × (links n ≡ Some (s, m)) × (rank n < rank s)

-- the links (previous, next) of the vacant slots form one chain from `first`. A rank falls along it, so it ends
pub record IsChained (links : ℕ → Option (ℕ × ℕ)) (first : ℕ) : Type 0 where
  pub rank : ℕ → ℕ
  pub top : ℕ
  -- the number that stands for no slot is none
  pub none : links no_slot ≡ None
  -- the first is vacant and has none before it, and no other has none before it
  pub head : first ≢ no_slot → (n : ℕ) × (links first ≡ Some (no_slot, n))
  pub start : (s n : ℕ) → links s ≡ Some (no_slot, n) → s ≡ first
  -- the next names this one as its previous, and the previous names it as its next
  pub forth : (s p n : ℕ) → links s ≡ Some (p, n) → n ≢ no_slot → LinksBack links rank s n
  pub back : (s p n : ℕ) → links s ≡ Some (p, n) → p ≢ no_slot → (q : ℕ) × (links p ≡ Some (q, s))
  pub below : (s p n : ℕ) → links s ≡ Some (p, n) → rank s < top

module _ {T : Type 0} where
  -- the invariant, over the slots, the number of items, the first vacant slot and the limit
  pub record IsSound (es : List (Slot T)) (len first limit : ℕ) : Type 0 where
    pub counted : len ≡ count_by is_some (items_of es)
    pub within : length es ≤ limit
    pub fits : limit < 2 ^ 32
    pub chained : IsChained (links_at es) first
