-- Where a query stands among items that ascend, and which items lie between two bounds. `compare` says how a query stands to a key.
--     is_from compare bound k      the key is not before the bound
--     is_up_to compare bound k      the key is not behind the bound
--     is_between compare low high k      both
--     items_between compare key low high items      the items whose keys are between the bounds (`range`)
--     IsPart part items      items that stand side by side in the list
--     WalksPart walk items      a walk over such a part: sums over it are no greater, and a `u32` counts it
--     items_to, items_at      the items at the positions up to a bound, or between two (`range_index`)
--     RemovesPart      such items were removed
--     FindsLast      the last item whose key passes the test, lent (`upper_bound`)
--     number_less      how many items are less than the query
--     IsIndexOf      the item at the position found is the one that the query finds; without one, there is none
--     bound_now      a bound by the value of its query
--     FindsRange, RemovesRange      the items whose keys lie in a range are found, or were removed
--     FindsPositions      the items at the positions of a range are found
--     SplitsAt, EndsAt      the elements that pass are those from a position on, or those before it
--     StartsAt, StopsAt      the position of the first item from a bound on, or of the first one behind it
--     WalksFrom      the slots of the items from a bound on
use Rattle.std.specs.Borrow.{Bor}
use Rattle.std.specs.Bound.{bound_map, start_index}
use Rattle.std.specs.Prelude.{◌≡◌, ℕ, ◌+◌, ◌-◌, ◌<◌, ◌≤◌, Bool, true, false, ◌&&◌, List, ◌++◌, length, count_by, drop, filter, option_copied, slice_get, slice_index_or, sum_by, take, MatchResult, Option, Result}
use Rattle.std.specs.declared.cmp.Ordering.{Ordering}
use Rattle.std.specs.Ordering.{is_ge, is_gt, is_le, is_lt}
use Rattle.std.specs.declared.ops.Bound.{Bound}
use Rattle.std.specs.declared.ops.RangeBounds as range_bounds
use Rattle.std.specs.declared.ops.Bound.TheVariants.{Included, Excluded, Unbounded}
use Rattle.iddqd_store.specs.Contents.{IsAbsent, find_item, items_without}
use Rattle.iddqd_store.specs.Holding.{Holding, max_items}

module _ {Q K : Type 0} (compare : Q → K → Ordering) where
  -- the key is not before the bound
  abbrev pub is_from : Bound Q → K → Bool
  is_from (Included q) k = is_le (compare q k)
  is_from (Excluded q) k = is_lt (compare q k)
  is_from Unbounded k = true

  -- the key is not behind the bound
  abbrev pub is_up_to : Bound Q → K → Bool
  is_up_to (Included q) k = is_ge (compare q k)
  is_up_to (Excluded q) k = is_gt (compare q k)
  is_up_to Unbounded k = true

  -- not before the first bound, and not behind the second one
  abbrev pub is_between : Bound Q → Bound Q → K → Bool
  is_between low high k = is_from low k && is_up_to high k

  module _ {T : Type 0} (key : T → K) where
    -- the items whose keys are between the bounds
    abbrev pub items_between : Bound Q → Bound Q → List T → List T
    items_between low high items = filter (λ x. is_between low high (key x)) items

-- the items at the positions that are not behind the bound
abbrev pub items_to : {T : Type 0} → Bound ℕ → List T → List T
items_to (Included n) items = take (n + 1) items
items_to (Excluded n) items = take n items
items_to Unbounded items = items

-- those that are not before the first bound, and not behind the second one
abbrev pub items_at : {T : Type 0} → Bound ℕ → Bound ℕ → List T → List T
items_at low high items = drop (start_index low) (items_to high items)

-- of a range whose bounds are what its trait says (std's `has_bounds`)
module _ {R T : Type 0} (bounds : range_bounds.Ghosts R ℕ) where
  -- the items at the positions in the range
  abbrev pub FindsPositions : R → List T → List T → Type 0
  FindsPositions range items found =
      bounds.has_bounds range → found ≡ items_at (bounds.start_bound range) (bounds.end_bound range) items

module _ {R Q K T : Type 0} (bounds : range_bounds.Ghosts R Q) (compare : Q → K → Ordering) (key : T → K) where
  -- the items whose keys lie in the range
  abbrev pub FindsRange : R → List T → List T → Type 0
  FindsRange range items found =
      bounds.has_bounds range → found ≡ items_between compare key (bounds.start_bound range) (bounds.end_bound range) items

  -- those items were removed
  abbrev pub RemovesRange : R → Holding T → Holding T → Type 0
  RemovesRange range old new =
      bounds.has_bounds range
      → new.items ≡ items_without key (is_between compare (bounds.start_bound range) (bounds.end_bound range)) old.items

-- the value of the query of a bound
abbrev pub bound_now : {Q : Type 0} → Bound (Bor Q) → Bound Q
bound_now bound = bound_map (λ q. q.now) bound

-- items that stand side by side in the list
abbrev pub IsPart : {T : Type 0} → List T → List T → Type 0
IsPart part items = (low : ℕ) × (high : ℕ) × (part ≡ drop low (take high items))

-- a walk over such a part of a map. A method that returns such a walk ensures this too, and its callers can count and sum
pub record WalksPart {T : Type 0} (walk items : List T) : Type 0 where
  pub part : IsPart walk items
  -- a sum over it fits if that over the map does
  pub sums : (number : T → ℕ) → sum_by number walk ≤ sum_by number items
  pub fits : length walk ≤ max_items

-- items that stood side by side were removed
pub record RemovesPart {T : Type 0} (old new : List T) : Type 0 where
  pub low : ℕ
  pub high : ℕ
  pub in_order : low ≤ high
  pub left : new ≡ take low old ++ drop high old

module _ {T K : Type 0} (key : T → K) where
  -- a search finds the last item whose key passes the test and lends it, or there is none
  abbrev pub FindsLast : (K → Bool) → List T → Option (Bor T) → Type 0
  FindsLast test items lent =
      let passing = filter (λ x. test (key x)) items in
      option_copied lent ≡ slice_get passing (length passing - 1)

  -- how many items are less than the query
  abbrev pub number_less : (K → Ordering) → List T → ℕ
  number_less compare items = count_by (λ x. is_gt (compare (key x))) items

  -- the item at the position is the one whose key passes the test; without a position, there is none
  abbrev pub IsIndexOf : (K → Bool) → List T → Result ℕ ℕ → Type 0
  IsIndexOf test items place = MatchResult place
      (λ i. slice_get items i ≡ find_item key test items)
      (λ _. IsAbsent key test items)

-- the elements that pass are those from the position on
pub record SplitsAt {X : Type 0} (test : X → Bool) (xs : List X) (n : ℕ) : Type 0 where
  pub within : n ≤ length xs
  pub before : (k : ℕ) (d : X) → k < n → test (slice_index_or xs k d) ≡ false
  pub behind : (k : ℕ) (d : X) → n ≤ k → k < length xs → test (slice_index_or xs k d) ≡ true

-- the elements that pass are those before the position
pub record EndsAt {X : Type 0} (test : X → Bool) (xs : List X) (n : ℕ) : Type 0 where
  pub within : n ≤ length xs
  pub before : (k : ℕ) (d : X) → k < n → test (slice_index_or xs k d) ≡ true
  pub behind : (k : ℕ) (d : X) → n ≤ k → k < length xs → test (slice_index_or xs k d) ≡ false

module _ {T Q K : Type 0} (key : T → K) (compare : Q → K → Ordering) where
  -- the position of the first item that is not before the bound
  abbrev pub StartsAt : Bound Q → List T → ℕ → Type 0
  StartsAt bound items n = SplitsAt (λ x. is_from compare bound (key x)) items n

  -- the position of the first item that is behind the bound
  abbrev pub StopsAt : Bound Q → List T → ℕ → Type 0
  StopsAt bound items n = EndsAt (λ x. is_up_to compare bound (key x)) items n

  -- the slots of the items that are not before the bound
  abbrev pub WalksFrom : Bound Q → Holding T → List ℕ → Type 0
  WalksFrom bound map walk = (n : ℕ) × StartsAt bound map.items n × (walk ≡ drop n map.slots)
