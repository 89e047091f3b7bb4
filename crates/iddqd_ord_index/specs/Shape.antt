-- A B-tree of slots. A node has at most `most_slots` slots of its own; a leaf has no branches, an inner node one branch
-- more than slots. No public clause cites this module.
--     Subtree      a node as others see it: its slots in order, its height, and how many slots the node itself has
--     in_order, behind      a node's slots in order, from those of its branches and its own between them
--     IsForked      the shape that a node's branches keep
use Rattle.std.specs.Prelude.{◌≡◌, ℕ, ◌+◌, ◌-◌, ◌*◌, ◌^◌, ◌<◌, ◌≤◌, List, [], ◌∷◌, ◌++◌, length, map, take, All, slice_index_or}

-- how many slots a node has of its own at most, and all but the root at least
abbrev pub most_slots : ℕ
most_slots = 11

abbrev pub least_slots : ℕ
least_slots = 5

-- the same of the branches of an inner node
abbrev pub most_branches : ℕ
most_branches = 12

abbrev pub least_branches : ℕ
least_branches = 6

-- what a node holds with all that lies below it: the slots in order, the number of levels, and the node's own number of slots
pub record Subtree : Type 0 where
  pub slots : List ℕ
  pub height : ℕ
  pub width : ℕ

-- own slots, each with the list of a branch behind it
abbrev pub behind : List (List ℕ) → List ℕ → List ℕ
behind [] ss = ss
behind (l ∷ ls) [] = l ++ behind ls []
behind (l ∷ ls) (s ∷ ss) = s ∷ (l ++ behind ls ss)

-- the lists of the branches with the node's own slots between them; a leaf has no branches
abbrev pub in_order : List (List ℕ) → List ℕ → List ℕ
in_order [] ss = ss
in_order (l ∷ ls) ss = l ++ behind ls ss

-- how many slots stand before the branch behind these ones
abbrev pub starts : List (List ℕ) → ℕ
starts [] = 0
starts (l ∷ ls) = length l + 1 + starts ls

-- the branches' lists
abbrev pub lists : List Subtree → List (List ℕ)
lists ts = map (λ t. t.slots) ts

-- how many levels a node with these branches has: one more than they
abbrev pub levels : List Subtree → ℕ
levels [] = 1
levels (t ∷ ts) = t.height + 1

-- a node with these branches and own slots
abbrev pub tree : List Subtree → List ℕ → Subtree
tree ts ss = record { slots = in_order (lists ts) ss; height = levels ts; width = length ss }

-- as many slots at least as the height calls for, where the node itself has this many
pub record IsDense (t : Subtree) : Type 0 where
  pub low : 1 ≤ t.height
  pub many : (t.width + 1) * least_branches ^ (t.height - 1) ≤ length t.slots + 1

-- a tree has at most so many levels: one of 13 holds more slots than there are numbers of 32 bits (HeightLemmas)
abbrev pub most_levels : ℕ
most_levels = 12

-- a branch of a node of height h: one level less, and at least `least_slots` slots in its node
pub record IsBranch (h : ℕ) (t : Subtree) : Type 0 where
  pub height : t.height + 1 ≡ h
  pub wide : least_slots ≤ t.width
  pub dense : IsDense t

-- no branches, or one more than slots, all of one height and each wide enough
pub record IsForked (ts : List Subtree) (ss : List ℕ) : Type 0 where
  pub branches : All (IsBranch (levels ts)) ts
  pub fork : 0 < length ts → length ts ≡ length ss + 1

-- position `at` lies in the i-th branch or right behind it, at `rest` of it
pub record IsBranchAt (ls : List (List ℕ)) (at i rest : ℕ) : Type 0 where
  pub branch : i < length ls
  pub within : rest ≤ length (slice_index_or ls i [])
  pub sum : starts (take i ls) + rest ≡ at

-- an unused node: a leaf without slots
abbrev pub unused : Subtree
unused = record { slots = []; height = 1; width = 0 }
