use Rattle.iddqd_store.specs.Hashing.{hash_under}
use Rattle.iddqd_store.specs.Store.{EndsOccupied, vacant}
use Rattle.iddqd_hash_parts.specs.HashItems.{KeyedItems}
use Rattle.iddqd_hash_parts.specs.StoreAndIndex.{MovesItems, PairsOccupied, map_of}
use Rattle.iddqd_hash.proofs.id_hash_map.compact.compact.Given as goal

abbrev pub invariant-loop-store : goal.invariant-loop-store
invariant-loop-store g l = record {
  paired : PairsOccupied l.store l.index.pairs;
  keyed : KeyedItems g.T.IdHashItem.key g.T.Key.PartialEq.eq g.T.Key.Hash.hash_input (hash_under g.S.BuildHasher g.S.Hasher.Hasher) (map_of l.store l.index l.fn.hasher);
  moves : MovesItems l.fn.store l.store l.fn.index l.index;
  cut : EndsOccupied l.store.slots;
}

abbrev pub decreases-loop-store : goal.decreases-loop-store
decreases-loop-store g l = vacant l.store
