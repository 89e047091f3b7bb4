-- What a change does to a node. No public clause cites this module.
--     AddsIn      the same of the branches and slots of a node
--     AddsTo all width new result      a slot, or a slot and a branch, were put in: all is there, or an upper half was split off
use Rattle.std.specs.Prelude.{◌≡◌, ℕ, ◌+◌, ◌-◌, ◌<◌, ◌≤◌, List, ◌∷◌, ◌++◌, All, length, min, slice_index, slice_set, Option, Some, None}
use Rattle.std.proofs.Common.{Box, Global}
use Rattle.arrayvec.specs.ArrayVec.{ArrayVec}
use Rattle.iddqd_ord_index.specs.Nodes.{below, slots_with, IsBare}
use Rattle.iddqd_ord_index.specs.Shape.{Subtree, IsDense, least_slots, tree}
use Rattle.iddqd_ord_index.specs.declared.tree.node.Block.{Block}
use Rattle.iddqd_ord_index.specs.declared.tree.node.Branches.{Branches}
use Rattle.iddqd_ord_index.specs.declared.tree.node.Node.{Node}

-- the node holds all
pub record IsGrown (all : List ℕ) (width : ℕ) (new : Subtree) : Type 0 where
  pub slots : new.slots ≡ all
  pub wider : width ≤ new.width

-- all stands in two nodes with a slot between them
pub record IsSplit (all : List ℕ) (lower : Subtree) (middle : ℕ) (upper : Subtree) : Type 0 where
  pub slots : all ≡ lower.slots ++ middle ∷ upper.slots
  pub wide : least_slots ≤ lower.width
  pub upper_wide : least_slots ≤ upper.width
  pub upper_height : upper.height ≡ lower.height
  pub upper_dense : IsDense upper

abbrev pub AddsTo : List ℕ → ℕ → Subtree → Option (ℕ × Node) → Type 0
AddsTo all width new None = IsGrown all width new
AddsTo all width new (Some r) = IsSplit all new r.0 r.1

-- a slot and a branch behind it were put in at place i of a node, and an upper half may have been split off
abbrev pub AddsIn : ℕ → ℕ → Subtree → Branches → ArrayVec ℕ → Branches → ArrayVec ℕ → Option (ℕ × Node) → Type 0
AddsIn i middle upper bs ss cs ts result = AddsTo (slots_with bs ss i middle upper) (length ss.items) (tree (below cs) ts.items) result

-- a slot was put in the place of the i-th one
abbrev pub IsReplaced : List ℕ → ℕ → ℕ → ℕ → List ℕ → Type 0
IsReplaced ss i slot old ts = (old ≡ slice_index ss i) × (ts ≡ slice_set ss i slot)

-- as many, or one less
abbrev pub IsSameOrOneLess : ℕ → ℕ → Type 0
IsSameOrOneLess old new = (new ≤ old) × (old ≤ new + 1)

abbrev pub IsShorter : ArrayVec ℕ → ArrayVec ℕ → Type 0
IsShorter old new = length new.items < length old.items

-- blocks without branches
abbrev pub AreBare : List (Box Block Global) → Type 0
AreBare bs = All (λ b. IsBare b.value) bs

-- a tree's unused blocks for branches: how many there are, how many are wanted, and how many fit without memory
pub record Stock : Type 0 where
  pub count : ℕ
  pub wanted : ℕ
  pub room : ℕ

-- a tree of this many levels wants as many blocks: one for each split of an inner node, and one for a new root
abbrev pub WantsFor : ℕ → Stock → Type 0
WantsFor levels s = (s.wanted ≡ levels) × (levels ≤ s.room)

-- one block less
pub record IsTaken (old new : Stock) : Type 0 where
  pub left : old.count ≤ new.count + 1
  pub wanted : new.wanted ≡ old.wanted
  pub room : new.room ≡ old.room

-- this many blocks are there and wanted, and there is room for one more
abbrev pub IsFilled : ℕ → Stock → Type 0
IsFilled wanted s = (wanted ≤ s.count) × (wanted < s.room) × (s.wanted ≡ wanted)

-- if a node has a slot less, each level below but the leaves has given a block back, as long as it was wanted
abbrev pub GivesBack : Subtree → Subtree → Stock → Stock → Type 0
GivesBack old new s t = new.width < old.width → min (s.count + old.height - 2) s.wanted ≤ t.count
