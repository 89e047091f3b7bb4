use Rattle.std.proofs.Common.{◌≡◌}
use Rattle.std.specs.Prelude.{IsPermutation}
use Rattle.iddqd_store.specs.Hashing.{hash_under}
use Rattle.iddqd_bi_hash.specs.BiHashItems.{IsKeyedByBoth}
use Rattle.iddqd_bi_hash.specs.BiHashMap.{SpareFits}
use Rattle.iddqd_bi_hash.proofs.bi_hash_map.BiHashMap.from_iter_unique.Given as goal

abbrev pub invariant-loop-item : goal.invariant-loop-item
invariant-loop-item g l = (goal.iterator-loop-item g).can_next l.item-iterator
    × (goal.iterator-loop-item g).is_finite l.item-iterator
    × IsPermutation l.yielded l.map.items
    × SpareFits l.map
    × (l.map.vacant ≡ 0)
    × (l.map.limit ≡ 4294967295)
    × (l.map.hasher ≡ l.initial.map.hasher)
    × IsKeyedByBoth g.T.BiHashItem.key1 g.T.BiHashItem.key2 g.T.K1.PartialEq.eq g.T.K2.PartialEq.eq g.T.K1.Hash.hash_input g.T.K2.Hash.hash_input (hash_under g.S.BuildHasher g.S.Hasher.Hasher) l.map
