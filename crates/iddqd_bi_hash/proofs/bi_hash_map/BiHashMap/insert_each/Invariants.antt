use Rattle.iddqd_store.specs.Hashing.{hash_under}
use Rattle.iddqd_store.specs.Unique.{AddsAll}
use Rattle.iddqd_bi_hash.specs.BiHashItems.{IsKeyedByBoth}
use Rattle.iddqd_bi_hash.specs.BiHashMap.{BiFills}
use Rattle.iddqd_bi_hash.specs.Collecting.{DifferInBoth}
use Rattle.iddqd_bi_hash.proofs.bi_hash_map.BiHashMap.insert_each.Given as goal

abbrev pub invariant-loop-item : goal.invariant-loop-item
invariant-loop-item g l = (goal.iterator-loop-item g).can_next l.item-iterator
    × (goal.iterator-loop-item g).is_finite l.item-iterator
    × AddsAll (DifferInBoth g.T.BiHashItem.key1 g.T.BiHashItem.key2 g.T.K1.PartialEq.eq g.T.K2.PartialEq.eq) l.yielded l.fn.self.items l.self.items
    × BiFills (IsKeyedByBoth g.T.BiHashItem.key1 g.T.BiHashItem.key2 g.T.K1.PartialEq.eq g.T.K2.PartialEq.eq g.T.K1.Hash.hash_input g.T.K2.Hash.hash_input (hash_under g.S.BuildHasher g.S.Hasher.Hasher)) l.fn.self l.self
