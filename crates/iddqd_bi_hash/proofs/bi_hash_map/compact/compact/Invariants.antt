use Rattle.iddqd_store.specs.Hashing.{hash_under}
use Rattle.iddqd_store.specs.Store.{EndsOccupied, vacant}
use Rattle.iddqd_hash_parts.specs.StoreAndIndex.{MovesItems}
use Rattle.iddqd_bi_hash.specs.BiHashItems.{IsKeyedByBoth}
use Rattle.iddqd_bi_hash.specs.StoreAndIndexes.{ArePaired, bi_map_of}
use Rattle.iddqd_bi_hash.proofs.bi_hash_map.compact.compact.Given as goal

abbrev pub invariant-loop-store : goal.invariant-loop-store
invariant-loop-store g l = record {
  paired : ArePaired l.store l.index1.pairs l.index2.pairs;
  keyed : IsKeyedByBoth g.T.BiHashItem.key1 g.T.BiHashItem.key2 g.T.K1.PartialEq.eq g.T.K2.PartialEq.eq g.T.K1.Hash.hash_input g.T.K2.Hash.hash_input (hash_under g.S.BuildHasher g.S.Hasher.Hasher) (bi_map_of l.store l.index1 l.index2 l.fn.hasher);
  moves1 : MovesItems l.fn.store l.store l.fn.index1 l.index1;
  moves2 : MovesItems l.fn.store l.store l.fn.index2 l.index2;
  cut : EndsOccupied l.store.slots;
}

abbrev pub decreases-loop-store : goal.decreases-loop-store
decreases-loop-store g l = vacant l.store
