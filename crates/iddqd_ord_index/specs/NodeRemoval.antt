-- What a removal does to the slots of a node. No public clause cites this module.
use Rattle.std.specs.Prelude.{◌≡◌, ℕ, ◌+◌, ◌-◌, ◌≤◌, ◌++◌, List, length, remove, slice_index, take, Option, Some, None, Ok, Err}
use Rattle.std.specs.declared.cmp.Ordering.{Ordering}
use Rattle.arrayvec.specs.ArrayVec.{ArrayVec}
use Rattle.iddqd_ord_index.specs.Changes.{Stock, GivesBack}
use Rattle.iddqd_ord_index.specs.Nodes.{below, slots_of}
use Rattle.iddqd_ord_index.specs.Shape.{Subtree, lists, starts, tree}
use Rattle.iddqd_ord_index.specs.Standing.{slot_standing, IsPlace}
use Rattle.iddqd_ord_index.specs.declared.tree.node.Branches.{Branches}
use Rattle.iddqd_store.specs.Store.{Store}

-- the position of the i-th own slot of a node with these branches
abbrev pub own_place : Branches → ℕ → ℕ
own_place bs i = starts (take (i + 1) (lists (below bs))) - 1

-- the i-th own slot has left the slots of a node
abbrev pub LosesOwn : ℕ → Branches → ArrayVec ℕ → Branches → ArrayVec ℕ → Type 0
LosesOwn i bs ss cs ts = slots_of cs ts ≡ remove (slots_of bs ss) (own_place bs i)

-- *GivesBack* of the branches and slots of a node
abbrev pub GivesBackIn : Branches → ArrayVec ℕ → Branches → ArrayVec ℕ → Stock → Stock → Type 0
GivesBackIn bs ss cs ts old new = GivesBack (tree (below bs) ss.items) (tree (below cs) ts.items) old new

-- the slot that the query equals has left the list; or there is none, and the list is as it was
abbrev pub Loses : (ℕ → Ordering) → List ℕ → Option ℕ → List ℕ → Type 0
Loses order old None new = ((i : ℕ) × IsPlace order old (Err i)) × (new ≡ old)
Loses order old (Some slot) new = (i : ℕ) × (slot ≡ slice_index old i) × IsPlace order old (Ok i) × (new ≡ remove old i)

-- the same of a query and the slots of two nodes
abbrev pub LosesEqual : {T K : Type 0} → (T → K) → (K → Ordering) → Store T → Subtree → Option ℕ → Subtree → Type 0
LosesEqual key compare store old slot new = Loses (slot_standing key compare store) old.slots slot new.slots

-- `count` of the `most` elements from place `at` on have left a list: a part of it, which lies within these
pub record LosesPart (at most count : ℕ) (old new : List ℕ) : Type 0 where
  pub front : List ℕ
  pub part : List ℕ
  pub back : List ℕ
  pub old_is : old ≡ front ++ (part ++ back)
  pub new_is : new ≡ front ++ back
  pub from : at ≤ length front
  pub to : length front + length part ≤ at + most
  pub number : count ≡ length part

-- the first `count` of these elements stand in the place of those from place `at` on
pub record Writes (at count : ℕ) (more old new : List ℕ) : Type 0 where
  pub front : List ℕ
  pub part : List ℕ
  pub back : List ℕ
  pub old_is : old ≡ front ++ (part ++ back)
  pub new_is : new ≡ front ++ (take count more ++ back)
  pub place : length front ≡ at
  pub number : length part ≡ count
