use Rattle.std.proofs.Common.{◌≡◌, ◌+◌, length}
use Rattle.iddqd_store.specs.Store.{store_len, vacant}
use Rattle.iddqd_ord_index.specs.Listed.{listed_items}
use Rattle.iddqd_ord.specs.StoreAndIndex.{KeepsBounds}
use Rattle.iddqd_ord.proofs.VisitingLemmas.{IsVisited, IsVisiting}
use Rattle.iddqd_ord.proofs.id_ord_map.retain.visit_in_store.Given as goal

abbrev pub invariant-visit : goal.invariant-visit
invariant-visit g l = record {
  visiting : IsVisiting (IsVisited g.V.Visit.visits g.T.IdOrdItem.key g.T.Key.Ord.cmp l.initial.visitor (listed_items l.initial.store l.initial.walk) l.visitor) l.store l.initial.walk l.walk;
  vacant : vacant l.store + store_len l.store ≡ vacant l.initial.store + store_len l.initial.store;
  bounds : KeepsBounds l.initial.store l.store;
}

abbrev pub decreases-visit : goal.decreases-visit
decreases-visit g l = length l.walk
