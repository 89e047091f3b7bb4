use Rattle.std.proofs.Common.{◌≡◌, ◌+◌, ◌-◌, ◌≤◌, ◌++◌, length, take, drop}
use Rattle.iddqd_ord_index.specs.Listed.{listed_items}
use Rattle.iddqd_store.specs.Store.{store_len, vacant}
use Rattle.iddqd_ord.specs.StoreAndIndex.{KeepsBounds, ListsOccupied}
use Rattle.iddqd_ord.proofs.TakenOutLemmas.{still_listed}
use Rattle.iddqd_ord.proofs.id_ord_map.store_and_index.remove_part_from_both.Given as goal

-- the slots that the walk has not given yet still belong to the store
abbrev pub invariant-drop : goal.invariant-drop
invariant-drop g l = record {
  paired : ListsOccupied l.store (still_listed l.from l.to l.fn.index.slots l.walk);
  items : listed_items l.store (still_listed l.from l.to l.fn.index.slots l.walk) ≡ take l.from (listed_items l.initial.store l.fn.index.slots) ++ drop (l.to - length l.walk) (listed_items l.initial.store l.fn.index.slots);
  within : l.from + length l.walk ≤ l.to;
  vacant : vacant l.store + store_len l.store ≡ vacant l.initial.store + store_len l.initial.store;
  bounds : KeepsBounds l.initial.store l.store;
}

abbrev pub decreases-drop : goal.decreases-drop
decreases-drop g l = length l.walk
