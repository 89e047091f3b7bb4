-- What it is to put the items of an iterator in a map of two keys. The words are those of a map of any keys (`Unique`).
--     DifferInBoth      no two items have equal first keys, or equal second keys
--     Meets, MeetsNone      the items that have one of a new item's keys, or that none has
--     OverwritesItem, OverwritesAll      an item, or each of several, displaces those that have one of its keys (`extend`)
--     Extends, Stops      what `extend` leaves
--     Collects, CollectsUnique      what `from_iter` and `from_iter_unique` make
--     ShowsFirstRepeat, ShowsMet      the error of `from_iter_unique`, and one step of it
--     OwnDiffer, OwnMeets, OverwritesOwn      the same of an item's own keys (`Both`)
--     IsNewMap, IsCollected      a new map of the default limit, over a default hasher, and one in which no slot is vacant
use Rattle.std.specs.Prelude.{◌≡◌, ◌+◌, ◌-◌, ◌<◌, ◌≤◌, Bool, IfSome, List, [], ◌∷◌, length}
use Rattle.iddqd_store.specs.Contents.{AddsItem, NoTwoAkin}
use Rattle.iddqd_store.specs.Holding.{Holding, KeepsItems, max_items}
use Rattle.iddqd_store.specs.SlotItems.{HaveSlots}
use Rattle.iddqd_store.specs.Unique as unique
use Rattle.iddqd_store.specs.declared.errors.ExtendError.{ExtendError}
use Rattle.iddqd_store.specs.declared.errors.FromIterError.{FromIterError}
use Rattle.iddqd_store.specs.declared.gives.Gives as gives
use Rattle.iddqd_bi_hash.specs.BiHashItems.{BiHashItems, holding_of}
use Rattle.iddqd_bi_hash.specs.BiHashMap.{SpareFits}
use Rattle.iddqd_bi_hash.specs.TwoKeys.{items_displaced, items_unmet}
use Rattle.iddqd_bi_hash.specs.declared.both.Both as both

module _ {S T : Type 0} (IsKeyed : BiHashItems S T → Type 0) (is_default : S → Type 0) where
  pub record IsNewMap (m : BiHashItems S T) : Type 0 where
    pub limit : m.limit ≡ max_items
    pub spare_fits : SpareFits m
    pub hasher : is_default m.hasher
    pub keyed : IsKeyed m

  pub record IsCollected (m : BiHashItems S T) : Type 0 where
    pub vacant : m.vacant ≡ 0
    pub limit : m.limit ≡ max_items
    pub spare_fits : SpareFits m
    pub hasher : is_default m.hasher
    pub keyed : IsKeyed m

-- what a map holds that was given no smaller limit, before it allocates
abbrev pub nothing_held : {T : Type 0} → Holding T
nothing_held = record { items = []; slots = []; vacant = 0; capacity = 0; limit = max_items }

module _ {T K L : Type 0} (key1 : T → K) (key2 : T → L) (eq1 : K → K → Bool) (eq2 : L → L → Bool) where
  -- no two items have equal first keys, or equal second keys
  pub record DifferInBoth (items : List T) : Type 0 where
    pub one : NoTwoAkin key1 eq1 items
    pub other : NoTwoAkin key2 eq2 items

  -- of the items, x meets those that have one of its keys, that of the first key first
  abbrev pub Meets : T → List T → List T → Type 0
  Meets x items met = met ≡ items_displaced key1 key2 eq1 eq2 x items

  -- x is beside the items that have none of its keys. The slots of the others are vacant, and x took a vacant one if there was one. If
  -- there are no others, the map was not full
  pub record OverwritesItem (x : T) (old new : Holding T) : Type 0 where
    pub put : AddsItem x (items_unmet key1 key2 eq1 eq2 x old.items) new.items
    pub room : Meets x old.items [] → length old.items < old.limit
    pub slots : HaveSlots new.slots new.items
    pub vacant : new.vacant ≡ old.vacant + length (items_displaced key1 key2 eq1 eq2 x old.items) - 1
    pub capacity : old.capacity ≤ new.capacity
    pub limit : new.limit ≡ old.limit

  -- one after the other; after the last nothing has changed but the room
  abbrev pub OverwritesAll : (xs : List T) (old new : Holding T) → Type 0
  OverwritesAll [] old new = KeepsItems old new
  OverwritesAll (x ∷ xs) old new = (between : Holding T) × OverwritesItem x old between × OverwritesAll xs between new

-- of an item's own keys
module _ {T K L : Type 0} (keys : both.Ghosts T K L) where
  abbrev pub OwnDiffer : List T → Type 0
  OwnDiffer = DifferInBoth keys.key1 keys.key2 keys.eq1 keys.eq2

  abbrev pub OwnMeets : T → List T → List T → Type 0
  OwnMeets = Meets keys.key1 keys.key2 keys.eq1 keys.eq2

  abbrev pub MeetsNone : T → List T → Type 0
  MeetsNone x items = OwnMeets x items []

  abbrev pub OverwritesOwn : (xs : List T) (old new : Holding T) → Type 0
  OverwritesOwn = OverwritesAll keys.key1 keys.key2 keys.eq1 keys.eq2

  abbrev pub ShowsMet : List T → T → FromIterError T → Type 0
  ShowsMet = unique.ShowsMet OwnMeets

  -- of what an iterable gives, as its `Gives` says
  module _ {U : Type 0} (given : gives.Ghosts U T) (iter : U) where
    -- all items were inserted, each in place of those that had one of its keys
    abbrev pub Extends : {S : Type 0} (old new : BiHashItems S T) → Type 0
    Extends old new = (xs : List T) × given.gives_all iter xs × OverwritesOwn xs (holding_of old) (holding_of new)

    -- an item found no room and is returned, and those before it were inserted
    abbrev pub Stops : {S : Type 0} (old new : BiHashItems S T) → ExtendError T → Type 0
    Stops old new e =
        IfSome e.item (λ x. (xs : List T) × given.gives_then iter xs x × OverwritesOwn xs (holding_of old) (holding_of new) × unique.FindsNoRoom OwnDiffer OwnMeets old.limit new.items x e.error)

    -- a new map has the items; of those that have a key in common the last
    abbrev pub Collects : {S : Type 0} → BiHashItems S T → Type 0
    Collects m = (xs : List T) × given.gives_all iter xs × OverwritesOwn xs nothing_held (holding_of m)

    abbrev pub ShowsFirstRepeat : FromIterError T → Type 0
    ShowsFirstRepeat = unique.ShowsFirstRepeat OwnDiffer OwnMeets (given.gives_then iter)

    abbrev pub CollectsUnique : {S : Type 0} → BiHashItems S T → Type 0
    CollectsUnique m = unique.AddsGiven OwnDiffer (given.gives_all iter) [] m.items
