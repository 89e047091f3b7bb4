-- What a map holds, as a plain list of items that is searched, filtered and replaced item by item. How the items are stored plays
-- no part.
--     key      the key that an item shows, by the item's value alone
--     a test of keys      what a query returns for each key; for a key as a query, the key's own `==`
use Rattle.std.specs.Borrow.{Bor}
use Rattle.std.specs.declared.cmp.Ordering.{Ordering}
use Rattle.std.specs.Prelude.{◌≡◌, ℕ, ◌<◌, ◌≤◌, All, Bool, true, not, List, Option, Some, None, IsSomeAnd, length, map, filter, find, insert, option_copied, ◌∷◌, ◌++◌, if◌then◌else◌}
use Rattle.std.specs.List.{IsDistinct}
use Rattle.std.specs.List.Sorted.{IsStrictlySortedBy}
use Rattle.std.specs.Ordering.{is_lt}

-- the test holds of one key, of those equal to it, and of no other
abbrev pub IsKeyTest : {K : Type 0} → (K → K → Bool) → (K → Bool) → Type 0
IsKeyTest eq test = (x y : _) → test x ≡ true → test y ≡ eq x y

-- new is old with x inserted at some place (`insert_unique`)
pub record AddsItem {T : Type 0} (x : T) (old new : List T) : Type 0 where
  pub place : ℕ
  pub within : place ≤ length old
  pub put : new ≡ insert old place x

-- each clone is the value that it was made of (a premise of each call that shows a clone)
abbrev pub ClonesAreEqual : {T : Type 0} → (T → T → Type 0) → Type 0
ClonesAreEqual is_clone = (x y : _) → is_clone x y → y ≡ x

-- no clone is ever refused memory
abbrev pub ClonesSucceed : {T : Type 0} → (T → Type 0) → Type 0
ClonesSucceed is_infallible = (x : _) → is_infallible x

-- each clone has a key equal to that of its original (a premise of each call that copies a map)
abbrev pub ClonesKeepKeys : {T K : Type 0} → (T → K) → (K → K → Bool) → (T → T → Type 0) → Type 0
ClonesKeepKeys key eq is_clone = (x y : _) → is_clone x y → eq (key x) (key y) ≡ true

module _ {T K : Type 0} (key : T → K) where
  -- the keys that the items show
  abbrev pub keys : List T → List K
  keys items = map key items

  -- the item whose key passes the test, or none (`get`)
  abbrev pub find_item : (K → Bool) → List T → Option T
  find_item test items = find (λ x. test (key x)) items

  -- a search finds this item and lends it, or there is none (`get`)
  abbrev pub Finds : (K → Bool) → List T → Option (Bor T) → Type 0
  Finds test items lent = option_copied lent ≡ find_item test items

  -- no item's key passes the test
  abbrev pub IsAbsent : (K → Bool) → List T → Type 0
  IsAbsent test items = find_item test items ≡ None

  -- the items, without the one whose key passes the test (`remove`)
  abbrev pub items_without : (K → Bool) → List T → List T
  items_without test items = filter (λ x. not (test (key x))) items

  -- the item whose key passes the test was removed, if there was one
  abbrev pub RemovesFound : (K → Bool) → List T → List T → Type 0
  RemovesFound test old new = new ≡ items_without test old

  -- the items, with y in place of the one whose key passes the test (`insert_overwrite`)
  abbrev pub items_overwritten : (K → Bool) → T → List T → List T
  items_overwritten test y items = map (λ x. if test (key x) then y else x) items

  -- the item's key finds an item that is equal to it
  abbrev pub FindsEqual : (K → K → Bool) → (T → T → Bool) → List T → T → Type 0
  FindsEqual key_eq eq items x = IsSomeAnd (find_item (key_eq (key x)) items) (λ y. eq x y ≡ true)

  -- both have as many items, and each one's key finds an equal item in the other; no order plays a part (`eq`)
  pub record HaveEqualItems (key_eq : K → K → Bool) (eq : T → T → Bool) (one other : List T) : Type 0 where
    pub as_many : length one ≡ length other
    pub each_found : All (FindsEqual key_eq eq other) one

  -- no two of the items' keys are equal
  abbrev pub NoTwoAkin : (K → K → Bool) → List T → Type 0
  NoTwoAkin eq items = IsDistinct eq (keys items)

  -- the keys ascend strictly along the items
  abbrev pub Ascends : (K → K → Ordering) → List T → Type 0
  Ascends cmp items = IsStrictlySortedBy cmp (keys items)

  -- x inserted at its place among items that ascend: the lesser ones before it, the greater ones behind it
  abbrev pub items_with : (K → K → Ordering) → T → List T → List T
  items_with cmp x items = filter (λ y. is_lt (cmp (key y) (key x))) items ++ x ∷ filter (λ y. is_lt (cmp (key x) (key y))) items

  -- the item of an equal key is returned, and x is whole in its place; or there is none, the map is not full, and x is inserted
  -- (`insert_overwrite`)
  abbrev pub OverwritesItem : (K → K → Bool) → T → ℕ → List T → Option T → List T → Type 0
  OverwritesItem eq x limit old (Some y) new = (find_item (eq (key x)) old ≡ Some y) × (new ≡ items_overwritten (eq (key x)) x old)
  OverwritesItem eq x limit old None new = IsAbsent (eq (key x)) old × (length old < limit) × AddsItem x old new
