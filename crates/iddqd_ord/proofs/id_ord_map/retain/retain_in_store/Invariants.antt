use Rattle.std.proofs.Common.{◌≡◌, ◌+◌, length}
use Rattle.std.specs.Fn.{CalledAt}
use Rattle.iddqd_store.specs.Contents.{Ascends}
use Rattle.iddqd_store.specs.Store.{store_len, vacant}
use Rattle.iddqd_store.proofs.VisitLemmas.{IsAsked}
use Rattle.iddqd_ord_index.specs.Listed.{listed_items}
use Rattle.iddqd_ord.specs.StoreAndIndex.{KeepsBounds}
use Rattle.iddqd_ord.proofs.VisitingLemmas.{IsVisiting}
use Rattle.iddqd_ord.proofs.id_ord_map.retain.retain_in_store.Given as goal

abbrev pub invariant-visit : goal.invariant-visit
invariant-visit g l = record {
  callable : goal.F-IsAlwaysCallable g l.keep;
  visiting : IsVisiting (λ items at. IsAsked (CalledAt g.F.FnMut) l.initial.keep (listed_items l.initial.store l.initial.walk) l.keep items at × Ascends g.T.IdOrdItem.key g.T.Key.Ord.cmp items) l.store l.initial.walk l.walk;
  vacant : vacant l.store + store_len l.store ≡ vacant l.initial.store + store_len l.initial.store;
  bounds : KeepsBounds l.initial.store l.store;
}

abbrev pub decreases-visit : goal.decreases-visit
decreases-visit g l = length l.walk
