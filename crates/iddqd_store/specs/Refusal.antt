-- Why and how an insertion is refused. The list stays, and the item is returned whole.
--     An insertion looks for an item of an equal key first, then at the limit, then asks for memory.
use Rattle.std.specs.Prelude.{◌≡◌, ℕ, Bool, List, [], ◌∷◌, Some, length, ◌==◌, nat_lt, if◌then◌else◌}
use Rattle.std.specs.Borrow.{Bor}
use Rattle.iddqd_store.specs.Contents.{find_item, IsAbsent}
use Rattle.iddqd_store.specs.Errors.{new_item_of, duplicates_of}
use Rattle.iddqd_store.specs.Holding.{Holding}
use Rattle.iddqd_store.specs.declared.errors.Refused as refused
use Rattle.iddqd_store.specs.declared.errors.TryReserveError.{TryReserveError}
use Rattle.iddqd_store.specs.declared.errors.TryReserveErrorKind.TheVariants.{CapacityOverflow, AllocError}
use Rattle.iddqd_store.specs.declared.errors.InsertError.{InsertError}
use Rattle.iddqd_store.specs.declared.errors.InsertError.TheVariants.{Duplicate, Refused}

-- why an insertion was refused (`InsertError`)
abbrev pub InsertionError : Type 0 → Type 0
InsertionError T = InsertError T

-- why room was refused: the map is full, or memory was refused (`TryReserveError`)
abbrev pub RefusalKind : Type 0
RefusalKind = TryReserveError

abbrev pub limit_refused : RefusalKind
limit_refused = record { kind = CapacityOverflow }

abbrev pub memory_refused : RefusalKind
memory_refused = record { kind = AllocError }

-- the kind of a refusal: of a full map its limit, and else memory
abbrev pub refusal_kind : {T : Type 0} → ℕ → List T → RefusalKind
refusal_kind limit items = if length items == limit then limit_refused else memory_refused

-- the kind of a refused reservation of room for this many items in all: the limit if it is below them, and else memory
-- (`reserve`)
abbrev pub reservation_kind : ℕ → ℕ → RefusalKind
reservation_kind limit wanted = if nat_lt limit wanted then limit_refused else memory_refused

-- why room for this many items in all was refused
abbrev pub IsKindOf : ℕ → ℕ → RefusalKind → Type 0
IsKindOf limit wanted kind = kind ≡ reservation_kind limit wanted

-- the list is this one value
abbrev pub IsOnly : {T : Type 0} → List (Bor T) → T → Type 0
IsOnly [] x = ⊥
IsOnly (d ∷ []) x = d.now ≡ x
IsOnly (d ∷ e ∷ more) x = ⊥

module _ {T K : Type 0} (key : T → K) (eq : K → K → Bool) (limit : ℕ) where
  -- x finds no room: its key is absent, and the kind is the limit's if the map is full
  abbrev pub FindsNoRoom : List T → T → RefusalKind → Type 0
  FindsNoRoom items x kind = IsAbsent key (eq (key x)) items × (kind ≡ refusal_kind limit items)

  -- x is returned: beside the existing item of an equal key, which is shown alone (`DuplicateItem`), or because there is no room
  abbrev pub RefusesInsertion : List T → T → InsertError T → Type 0
  RefusesInsertion items x (Duplicate d) = (new_item_of d ≡ x) × (y : T) × IsOnly (duplicates_of d) y × (find_item key (eq (key x)) items ≡ Some y)
  RefusesInsertion items x (Refused r) = (r.item ≡ x) × FindsNoRoom items x r.error

module _ {T K : Type 0} (key : T → K) (eq : K → K → Bool) where
  -- x is returned, and no item of the map has its key: the map is full, or memory was refused
  abbrev pub ReturnsItem : Holding T → T → refused.Refused T → Type 0
  ReturnsItem m x r = (r.item ≡ x) × FindsNoRoom key eq m.limit m.items x r.error

  -- x is returned: beside the item of an equal key, or because there was no room
  abbrev pub RefusesItem : Holding T → T → InsertError T → Type 0
  RefusesItem m x = RefusesInsertion key eq m.limit m.items x

-- what holds if the item is returned because there is no room
abbrev pub OnRefused : {T : Type 0} → Type 0 → InsertError T → Type 0
OnRefused P (Duplicate d) = Unit
OnRefused P (Refused r) = P

-- what holds if an item of an equal key exists
abbrev pub OnDuplicate : {T : Type 0} → Type 0 → InsertError T → Type 0
OnDuplicate P (Duplicate d) = P
OnDuplicate P (Refused r) = Unit
