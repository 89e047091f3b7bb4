-- What the fields of a node show. No public clause cites this module.
use Rattle.std.specs.Prelude.{◌≡◌, ℕ, ◌+◌, List, [], All, insert, length, map, option_map, IsSome, IsSomeAnd, Option, Some, None}
use Rattle.std.specs.Box.{with_value}
use Rattle.std.proofs.Common.{Box, Global}
use Rattle.iddqd_ord_index.specs.Cells.{cells_of, items_present, IsPacked}
use Rattle.arrayvec.specs.ArrayVec.{ArrayVec}
use Rattle.iddqd_ord_index.specs.Shape.{Subtree, lists, tree, in_order, IsForked}
use Rattle.iddqd_ord_index.specs.declared.tree.node.Block.{Block}
use Rattle.iddqd_ord_index.specs.declared.tree.node.Branches.{Branches}
use Rattle.iddqd_ord_index.specs.declared.tree.node.Node.{Node}
use Rattle.iddqd_ord_index.specs.declared.tree.node.Node.TheInside.{Inside}

-- the subtrees in these cells
abbrev pub subtrees : List (Option Node) → List Subtree
subtrees os = items_present os

-- the cells in a block, all empty where there is none; and the numbers of slots below the branches
abbrev pub cells_in : Option (Box Block Global) → List (Option Node)
cells_in None = cells_of []
cells_in (Some b) = b.value.nodes

abbrev pub counts_in : Option (Box Block Global) → List ℕ
counts_in None = []
counts_in (Some b) = b.value.counts.items

abbrev pub nodes_of : Branches → List (Option Node)
nodes_of bs = cells_in bs.block

abbrev pub counts_of : Branches → List ℕ
counts_of bs = counts_in bs.block

-- the subtrees below a node with these branches
abbrev pub below : Branches → List Subtree
below bs = subtrees (nodes_of bs)

-- the branches stand in front, and beside each the number of slots below it
pub record AreCounted (os : List (Option Node)) (ns : List ℕ) : Type 0 where
  pub packed : IsPacked os
  pub counted : ns ≡ map (λ t. length t.slots) (subtrees os)

abbrev pub AreBranches : Branches → Type 0
AreBranches bs = AreCounted (nodes_of bs) (counts_of bs)

abbrev pub IsBlock : Block → Type 0
IsBlock b = AreCounted b.nodes b.counts.items

-- there is a block
abbrev pub HasBlock : Branches → Type 0
HasBlock bs = IsSome bs.block

-- the block that the branches lie in
abbrev pub IsBlockOf : Branches → Block → Type 0
IsBlockOf bs b = IsSomeAnd bs.block (λ own. b ≡ own.value)

-- the branches in this block in place of their own
abbrev pub with_block : Branches → Block → Branches
with_block bs b = record { block = option_map (λ own. with_value own b) bs.block }

-- a block without branches
abbrev pub IsBare : Block → Type 0
IsBare b = (b.nodes ≡ cells_of []) × (b.counts.items ≡ [])

abbrev pub subtree_of : Inside → Subtree
subtree_of n = tree (below n.branches) n.slots.items

pub record IsNode (n : Inside) : Type 0 where
  pub branches : AreBranches n.branches
  pub forked : IsForked (below n.branches) n.slots.items

-- this many leaves, one in each cell
pub record AreLeaves (os : List (Option Node)) (n : ℕ) : Type 0 where
  pub cells : length os ≡ n
  pub present : length (subtrees os) ≡ n
  pub low : All (λ t. t.height ≡ 1) (subtrees os)

-- a node's slots with those below it, from its branches and its own slots
abbrev pub slots_of : Branches → ArrayVec ℕ → List ℕ
slots_of bs ss = in_order (lists (below bs)) ss.items

-- the same with a slot more at place i, and a branch behind it
abbrev pub slots_with : Branches → ArrayVec ℕ → ℕ → ℕ → Subtree → List ℕ
slots_with bs ss i middle upper = in_order (insert (lists (below bs)) (i + 1) upper.slots) (insert ss.items i middle)

-- the branches with one more behind the i-th
abbrev pub below_with : Branches → ℕ → Subtree → List Subtree
below_with bs i t = insert (below bs) (i + 1) t
