use Rattle.iddqd_store.specs.Collecting.{AddsAll}
use Rattle.iddqd_store.specs.Hashing.{hash_under}
use Rattle.iddqd_hash_parts.specs.HashItems.{KeyedItems}
use Rattle.iddqd_hash.specs.HashMap.{HashFills}
use Rattle.iddqd_hash.proofs.id_hash_map.IdHashMap.insert_each.Given as goal

abbrev pub invariant-loop-item : goal.invariant-loop-item
invariant-loop-item g l = (goal.iterator-loop-item g).can_next l.item-iterator
    × (goal.iterator-loop-item g).is_finite l.item-iterator
    × AddsAll g.T.IdHashItem.key g.T.Key.PartialEq.eq l.yielded l.fn.self.items l.self.items
    × HashFills (KeyedItems g.T.IdHashItem.key g.T.Key.PartialEq.eq g.T.Key.Hash.hash_input (hash_under g.S.BuildHasher g.S.Hasher.Hasher)) l.fn.self l.self
