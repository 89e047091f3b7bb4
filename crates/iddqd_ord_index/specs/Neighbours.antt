-- Two neighbours of which one is a slot short, and what they are when they are rebalanced. No public clause cites this module.
use Rattle.std.specs.Prelude.{◌≡◌, ℕ, ◌+◌, ◌-◌, ◌*◌, ◌^◌, ◌<◌, ◌≤◌, min, nat_lt, if◌then◌else◌, List, ◌∷◌, ◌++◌, length, remove, slice_index_or, slice_set}
use Rattle.std.proofs.Common.{◌≢◌}
use Rattle.iddqd_ord_index.specs.Changes.{Stock}
use Rattle.iddqd_ord_index.specs.Shape.{Subtree, IsDense, IsBranch, least_slots, levels, unused}

-- the slots of both, with one between them
abbrev pub all_slots : Subtree → ℕ → Subtree → List ℕ
all_slots a middle b = a.slots ++ middle ∷ b.slots

abbrev pub IsAsHigh : Subtree → Subtree → Type 0
IsAsHigh a b = a.height ≡ b.height

-- one slot more of its own, or one less
abbrev pub IsWider : Subtree → Subtree → Type 0
IsWider old new = new.width ≡ old.width + 1

abbrev pub IsNarrower : Subtree → Subtree → Type 0
IsNarrower old new = new.width + 1 ≡ old.width

-- of one height, and one of them has a slot too few
pub record IsPair (a b : Subtree) : Type 0 where
  pub height : a.height ≡ b.height
  pub short : min a.width b.width ≡ least_slots - 1
  pub other : 2 * least_slots - 1 ≤ a.width + b.width

-- the slots of both stand in the lower one
pub record IsMerged (a : Subtree) (middle : ℕ) (b lower : Subtree) : Type 0 where
  pub slots : lower.slots ≡ a.slots ++ middle ∷ b.slots
  pub lower_branch : IsBranch (a.height + 1) lower

-- the same slots, cut at another one
pub record IsShifted (a : Subtree) (middle : ℕ) (b lower : Subtree) (top : ℕ) (upper : Subtree) : Type 0 where
  pub slots : a.slots ++ middle ∷ b.slots ≡ lower.slots ++ top ∷ upper.slots
  pub lower_branch : IsBranch (a.height + 1) lower
  pub upper_branch : IsBranch (a.height + 1) upper

-- the j-th branch and the next are such a pair, and their slots can be counted
pub record ArePair (ts : List Subtree) (j : ℕ) : Type 0 where
  pub within : j + 1 < length ts
  pub pair : IsPair (slice_index_or ts j unused) (slice_index_or ts (j + 1) unused)
  pub room : length (slice_index_or ts j unused).slots + length (slice_index_or ts (j + 1) unused).slots + 1 < 2 ^ 32

-- how many slots of their own the j-th branch and the next have
abbrev pub pair_width : List Subtree → ℕ → ℕ
pair_width ts j = (slice_index_or ts j unused).width + (slice_index_or ts (j + 1) unused).width

-- the j-th branch and the next were merged in the place of the j-th
pub record IsMergedAt (j middle : ℕ) (ts us : List Subtree) : Type 0 where
  pub lower : Subtree
  pub merged : IsMerged (slice_index_or ts j unused) middle (slice_index_or ts (j + 1) unused) lower
  pub branches : us ≡ slice_set (remove ts (j + 1)) j lower

-- a slot has moved between the j-th branch and the next
pub record IsShiftedAt (j middle : ℕ) (ts : List Subtree) (top : ℕ) (us : List Subtree) : Type 0 where
  pub lower : Subtree
  pub upper : Subtree
  pub shifted : IsShifted (slice_index_or ts j unused) middle (slice_index_or ts (j + 1) unused) lower top upper
  pub branches : us ≡ slice_set (slice_set ts j lower) (j + 1) upper

-- a branch of a node of height h that may be a slot short
pub record IsShort (h : ℕ) (t : Subtree) : Type 0 where
  pub height : t.height + 1 ≡ h
  pub wide : least_slots - 1 ≤ t.width
  pub dense : IsDense t

-- the branches and slots of a node, but that the i-th branch may be a slot short
pub record IsNear (ts : List Subtree) (ss : List ℕ) (i : ℕ) : Type 0 where
  pub branch : i < length ts
  pub fork : length ts ≡ length ss + 1
  pub some : 0 < length ss
  pub short : IsShort (levels ts) (slice_index_or ts i unused)
  pub others : (k : ℕ) → k < length ts → k ≢ i → IsBranch (levels ts) (slice_index_or ts k unused)

-- the branches and slots of a node, but that the j-th branch and the next are such a pair
pub record AreNeighbours (ts : List Subtree) (ss : List ℕ) (j : ℕ) : Type 0 where
  pub two : ArePair ts j
  pub fork : length ts ≡ length ss + 1
  pub height : (slice_index_or ts j unused).height + 1 ≡ levels ts
  pub others : (k : ℕ) → k < length ts → k ≢ j → k ≢ j + 1 → IsBranch (levels ts) (slice_index_or ts k unused)

-- an unused block is kept as long as it is wanted
abbrev pub given_back : Stock → Stock
given_back s = record s { count = if nat_lt s.count s.wanted then s.count + 1 else s.count }

pub record IsGivenBack (old new : Stock) : Type 0 where
  pub count : new.count ≡ (given_back old).count
  pub wanted : new.wanted ≡ old.wanted
  pub room : new.room ≡ old.room

-- two branches of a node of height h were merged: those that are no leaves have given a block back
pub record MayGiveBack (h : ℕ) (old new : Stock) : Type 0 where
  pub inner : 2 < h → IsGivenBack old new
  pub kept : old.count ≤ new.count
  pub wanted : new.wanted ≡ old.wanted
  pub room : new.room ≡ old.room
