use Rattle.std.proofs.Common.{◌≡◌}
use Rattle.iddqd_ord_index.specs.Listed.{listed_items}
use Rattle.iddqd_store.specs.Store.{EndsOccupied, vacant}
use Rattle.iddqd_ord.specs.StoreAndIndex.{ListsOccupied}
use Rattle.iddqd_ord.proofs.id_ord_map.compact.compact.Given as goal

abbrev pub invariant-loop-store : goal.invariant-loop-store
invariant-loop-store g l = record {
  paired : ListsOccupied l.store l.index.slots;
  items : listed_items l.store l.index.slots ≡ listed_items l.fn.store l.fn.index.slots;
  cut : EndsOccupied l.store.slots;
  capacity : l.store.capacity ≡ l.fn.store.capacity;
  limit : l.store.limit ≡ l.fn.store.limit;
}

abbrev pub decreases-loop-store : goal.decreases-loop-store
decreases-loop-store g l = vacant l.store
