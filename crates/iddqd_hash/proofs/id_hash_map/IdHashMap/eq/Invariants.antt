use Rattle.std.proofs.Common.{◌≡◌, ◌↔◌, All, length}
use Rattle.iddqd_store.specs.Contents.{FindsEqual}
use Rattle.iddqd_hash.proofs.id_hash_map.IdHashMap.eq.Given as goal

abbrev pub invariant-loop-item : goal.invariant-loop-item
invariant-loop-item g l =
    (goal.iterator-loop-item g).can_next l.item-iterator ×
    (goal.iterator-loop-item g).is_finite l.item-iterator ×
    (length l.fn.self.items ≡ length l.fn.other.items) ×
    (All (FindsEqual g.T.IdHashItem.key g.T.Key.PartialEq.eq g.T.PartialEq.eq l.fn.other.items) l.fn.self.items
    ↔ All (FindsEqual g.T.IdHashItem.key g.T.Key.PartialEq.eq g.T.PartialEq.eq l.fn.other.items) l.item-iterator)
