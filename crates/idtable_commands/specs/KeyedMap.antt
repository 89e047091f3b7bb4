-- What the trait `KeyedMap` tells of a map, and what the calls on one leave.
--     state      the map's items and its spare
--     limit_of      the most items that it ever holds
--     rule      whether it keeps a spare, how its items lie, and in which order it visits them
--     IsKeyed      its items lie as its lookups expect them
--     find_in, find_akin      the item that a test of keys finds in a map, or the key of an item
--     RemovesFrom, VisitsIn, RetainsIn, Overwrites, MakesRoomIn      what one call of that name leaves in a map
--     RefusesIn, RefusesItemIn      why a map refuses an item
--     StopsExtension      why not all of many items were inserted, and what is in the map then
use Rattle.std.specs.Prelude.{◌≡◌, ℕ, Bool, List, length, Option, Some, IfErr, IfNone, IfOk, IfSome, Result, IsPermutation}
use Rattle.std.specs.Borrow.{Fml, RattleType, MutBor, LendsSoOk, unit}
use Rattle.iddqd.specs.Contents.{OverwritesItem, find_item, items_without}
use Rattle.iddqd.specs.Collecting.{room_to_reserve}
use Rattle.iddqd.specs.Errors.{duplicates_of, new_item_of}
use Rattle.iddqd.specs.Refusal.{FindsNoRoom, InsertionError, IsOnly, OnDuplicate, RefusesInsertion}
use Rattle.iddqd.specs.declared.errors.ExtendUniqueError.{ExtendUniqueError}
use Rattle.iddqd.specs.declared.errors.ExtendUniqueError.TheVariants.{Duplicate, Refused}
use Rattle.iddqd.specs.declared.errors.Refused as refused
use Rattle.idtable_commands.specs.Step.{MapRule, MapState, FindsFull, FitsLikely, InsertsAll, InsertsAbsent, KeepsRoom, LeavesRoom, MakesRoom, MeetsAkin, RefusesItem, RefusesRoom, RetainsVisited, VisitsItem}
use Rattle.idtable_commands.specs.declared.keyed_map.extend.NotInserted.{NotInserted}
use Rattle.idtable_commands.specs.declared.keyed_map.extend.NotInserted.TheVariants as not_inserted

module _ {M T : Type 0} (state : M → MapState T) where
  -- the item whose key passes the test, or none
  abbrev pub find_in : {K : Type 0} → (T → K) → (K → Bool) → M → Option T
  find_in key test m = find_item key test (state m).items

  -- the item whose key is equal to x's, or none
  abbrev pub find_akin : {K : Type 0} → (T → K) → (K → K → Bool) → T → M → Option T
  find_akin key eq x m = find_item key (eq (key x)) (state m).items

  -- the item whose key passes the test is removed, if there is one
  abbrev pub RemovesFrom : {K : Type 0} → (T → K) → (K → Bool) → (old new : M) → Type 0
  RemovesFrom key test old new = (state new).items ≡ items_without key test (state old).items

  -- if a visit was made, it was of the item whose key passes the test, and this is what it returned
  abbrev pub VisitsIn : {K V : Type 0} → (T → K) → (V → T → V × T × Bool) → (K → Bool) → (old_visitor new_visitor : V) → (old new : M) → Option Bool → Type 0
  VisitsIn key visits test v w old new made = IfSome made (λ answer. VisitsItem key visits test v w answer (state old).items (state new).items)

  -- the items stay whose visit returns true
  abbrev pub RetainsIn : {K V : Type 0} → MapRule K → (V → T → V × T × Bool) → (old_visitor new_visitor : V) → (old new : M) → Type 0
  RetainsIn rule visits v w old new = RetainsVisited visits rule v w (state old).items (state new).items

module _ {M T : Type 0} (state : M → MapState T) (limit_of : M → ℕ) where
  -- if the call succeeds, x replaced the item of an equal key, which is returned, or was inserted if there was none
  abbrev pub Overwrites : {K E : Type 0} → (T → K) → (K → K → Bool) → T → (old new : M) → Result (Option T) E → Type 0
  Overwrites key eq x old new result = IfOk result (λ found. OverwritesItem key eq x (limit_of old) (state old).items found (state new).items)

  -- an insertion returns x: beside the existing item of an equal key, or because there is no room
  abbrev pub RefusesIn : {K : Type 0} → (T → K) → (K → K → Bool) → M → T → InsertionError T → Type 0
  RefusesIn key eq old x error = RefusesInsertion key eq (limit_of old) (state old).items x error

  -- x is returned because there is no room; never if the spare is above 0
  abbrev pub RefusesItemIn : {K : Type 0} → (T → K) → (K → K → Bool) → M → T → refused.Refused T → Type 0
  RefusesItemIn key eq old x r = RefusesItem key eq (limit_of old) x (state old) (Some r.item) r.error

  -- there is room for this many more items
  abbrev pub MakesRoomIn : {K : Type 0} → MapRule K → ℕ → (old new : M) → Type 0
  MakesRoomIn rule n old new = MakesRoom rule (limit_of old) n (state old) (state new)

module _ {M T K : Type 0} (state : M → MapState T) (limit_of : M → ℕ) (rule : MapRule K) (IsKeyed : M → Type 0) where
  -- what each call leaves, whatever it returns: the map can be searched, under the same limit, and keeps its room
  pub record StaysKeyed (old new : M) : Type 0 where
    pub keyed : IsKeyed new
    pub limit : limit_of new ≡ limit_of old
    pub room : KeepsRoom rule (limit_of old) (state old) (state new)

  -- the items are as they were
  pub record KeepsMap (old new : M) : Type 0 where
    pub items : (state new).items ≡ (state old).items
    pub stays : StaysKeyed old new

  -- what a shrink leaves, refused or not: the items in any order, in a map that can be searched, under the same limit; room may
  -- go
  pub record ShrinksMap (old new : M) : Type 0 where
    pub items : IsPermutation (state old).items (state new).items
    pub keyed : IsKeyed new
    pub limit : limit_of new ≡ limit_of old
    pub room : LeavesRoom rule (limit_of old) 0 (state old) (state new)

  -- the item was inserted: its key was absent and the map was not full
  pub record InsertsIntoMap (key : T → K) (eq : K → K → Bool) (x : T) (old new : M) : Type 0 where
    pub inserted : InsertsAbsent key eq (limit_of old) x (state old).items (state new).items
    pub stays : StaysKeyed old new

-- what the map is once the loan of an insertion's result ends: at `Ok` the item is in; at `Err` the items are as they were, and
-- at a duplicate the whole map is
abbrev pub map_after_insertion : (M : RattleType) {T K : Type 0} (state : M.Denot → MapState T) (limit_of : M.Denot → ℕ) (rule : MapRule K) (IsKeyed : M.Denot → Type 0) (key : T → K) (eq : K → K → Bool) → MutBor M.Denot → Result (MutBor unit.Denot) (InsertionError T) → T → Fml
map_after_insertion M state limit_of rule IsKeyed key eq map result x =
    LendsSoOk M unit map result
    (λ new _. InsertsIntoMap state limit_of rule IsKeyed key eq x map.now new)
    (λ new. KeepsMap state limit_of rule IsKeyed map.now new × IfErr result (OnDuplicate (new ≡ map.now)))

module _ {T K : Type 0} (key : T → K) (eq : K → K → Bool) (limit : ℕ) where
  -- an item whose key one in the map has is shown beside that one alone; or one finds no room; or room to begin with was refused
  abbrev pub StopsExtension : (xs : List T) (old : MapState T) (new : List T) → ExtendUniqueError T → Type 0
  StopsExtension xs old new (Duplicate d) = (y : T) × IsOnly (duplicates_of d) y × FitsLikely key eq limit xs old.items × (after : ℕ) × MeetsAkin key eq limit xs (new_item_of d) y after old.items new
  StopsExtension xs old new (Refused e) = IfSome e.item (λ x. FitsLikely key eq limit xs old.items × (after : ℕ) × FindsFull key eq limit xs x e.error after old new) × IfNone e.item (RefusesRoom limit (room_to_reserve (length old.items) (length xs)) old e.error × (new ≡ old.items))

  -- an item is returned since one of an equal key exists, or it finds no room
  abbrev pub RefusesOne : MapState T → T → NotInserted T → Type 0
  RefusesOne old x (not_inserted.Akin back) = (back ≡ x) × (y : T) × (find_item key (eq (key x)) old.items ≡ Some y)
  RefusesOne old x (not_inserted.Refused r) = (r.item ≡ x) × FindsNoRoom key eq limit old.items x r.error × (old.spare ≡ 0)

  -- the first that is not inserted is returned
  abbrev pub RefusesAmong : (xs : List T) (old : MapState T) (new : List T) → NotInserted T → Type 0
  RefusesAmong xs old new (not_inserted.Akin x) = (y : T) × (after : ℕ) × MeetsAkin key eq limit xs x y after old.items new × (find_item key (eq (key x)) new ≡ Some y)
  RefusesAmong xs old new (not_inserted.Refused r) = (after : ℕ) × FindsFull key eq limit xs r.item r.error after old new

-- what the map is once the loan of an extension's result ends: at `Ok` all items are in; at `Err` the error says why not all are,
-- and which
abbrev pub map_after_extension : (M : RattleType) {T K : Type 0} (state : M.Denot → MapState T) (limit_of : M.Denot → ℕ) (rule : MapRule K) (IsKeyed : M.Denot → Type 0) (key : T → K) (eq : K → K → Bool) → MutBor M.Denot → Result (MutBor unit.Denot) (ExtendUniqueError T) → List T → Fml
map_after_extension M state limit_of rule IsKeyed key eq map result xs =
    LendsSoOk M unit map result
    (λ new _. StaysKeyed state limit_of rule IsKeyed map.now new × FitsLikely key eq (limit_of map.now) xs (state map.now).items × InsertsAll key eq (limit_of map.now) xs (state map.now).items (state new).items)
    (λ new. StaysKeyed state limit_of rule IsKeyed map.now new × IfErr result (StopsExtension key eq (limit_of map.now) xs (state map.now) (state new).items))
