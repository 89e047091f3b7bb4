use Rattle.iddqd_store.specs.Collecting.{AddsAll}
use Rattle.iddqd_ord.specs.OrdMap.{OrdFills}
use Rattle.iddqd_ord.proofs.id_ord_map.IdOrdMap.insert_each.Given as goal

abbrev pub invariant-loop-item : goal.invariant-loop-item
invariant-loop-item g l = (goal.iterator-loop-item g).can_next l.item-iterator
    × (goal.iterator-loop-item g).is_finite l.item-iterator
    × AddsAll g.T.IdOrdItem.key g.T.Key.PartialEq.eq l.yielded l.fn.self.items l.self.items
    × OrdFills g.T.IdOrdItem.key g.T.Key.Ord.cmp l.fn.self l.self
