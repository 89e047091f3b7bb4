-- What a test's index and store of coins keep.
use Rattle.std.specs.Prelude.{ℕ, List}
use Rattle.std.specs.declared.cmp.Ordering.{Ordering}
use Rattle.iddqd_ord_index.specs.Listed.{listed_items, AreOccupied}
use Rattle.iddqd_store.specs.Contents.{Ascends}
use Rattle.iddqd_store.specs.Store.{Store}

-- each listed slot has an item, and the keys of these ascend
pub record InOrder {T K : Type 0} (key : T → K) (cmp : K → K → Ordering) (store : Store T) (slots : List ℕ) : Type 0 where
  pub occupied : AreOccupied store slots
  pub ascending : Ascends key cmp (listed_items store slots)
