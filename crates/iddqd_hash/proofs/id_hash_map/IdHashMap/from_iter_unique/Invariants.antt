use Rattle.std.proofs.Common.{◌≡◌}
use Rattle.std.specs.Prelude.{IsPermutation}
use Rattle.iddqd_store.specs.Hashing.{hash_under}
use Rattle.iddqd_hash_parts.specs.HashItems.{KeyedItems}
use Rattle.iddqd_hash.specs.HashMap.{SpareFits}
use Rattle.iddqd_hash.proofs.id_hash_map.IdHashMap.from_iter_unique.Given as goal

abbrev pub invariant-loop-item : goal.invariant-loop-item
invariant-loop-item g l = (goal.iterator-loop-item g).can_next l.item-iterator
    × (goal.iterator-loop-item g).is_finite l.item-iterator
    × IsPermutation l.yielded l.map.items
    × SpareFits l.map
    × (l.map.vacant ≡ 0)
    × (l.map.limit ≡ 4294967295)
    × (l.map.hasher ≡ l.initial.map.hasher)
    × KeyedItems g.T.IdHashItem.key g.T.Key.PartialEq.eq g.T.Key.Hash.hash_input (hash_under g.S.BuildHasher g.S.Hasher.Hasher) l.map
