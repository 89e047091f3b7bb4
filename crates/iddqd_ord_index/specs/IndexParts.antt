-- How an ordered index lies in a tree. No public clause cites this module.
use Rattle.std.specs.Prelude.{◌≡◌, ◌<◌, ◌≤◌, IsTrue, length, nat_eq}
use Rattle.std.specs.List.{IsDistinct}
use Rattle.iddqd_ord_index.specs.Changes.{WantsFor}
use Rattle.iddqd_ord_index.specs.Runs.{IsRunOf}
use Rattle.iddqd_ord_index.specs.Shape.{IsDense}
use Rattle.iddqd_ord_index.specs.declared.ord_index.OrdIndex.TheInside.{Inside}
use Rattle.iddqd_store.specs.Holding.{max_items}

-- one slot more has a number and the blocks that it may need, and there is room for those that are wanted then
abbrev pub IsReady : Inside → Type 0
IsReady i = (length i.root.slots < max_items) × (i.levels ≤ i.pool.count) × (i.levels < i.pool.room)

-- each slot stands once, their places have numbers of 32 bits, and the numbers of slots and levels are those of the tree
pub record IsIndex (i : Inside) : Type 0 where
  pub each_once : IsDistinct nat_eq i.root.slots
  pub numbered : length i.root.slots ≤ max_items
  pub len : i.len ≡ length i.root.slots
  pub levels : i.levels ≡ i.root.height
  pub dense : IsDense i.root
  -- the root of a tree of several levels has a slot of its own
  pub top : 1 < i.root.height → 1 ≤ i.root.width
  -- as many unused blocks are wanted as there are levels, and there is room for them
  pub wanted : 1 < i.levels → WantsFor i.levels i.pool
  pub ready : IsTrue i.prepared → IsReady i
  -- what is kept of the slots that were read last
  pub cached : IsRunOf i.cache i.root.slots
