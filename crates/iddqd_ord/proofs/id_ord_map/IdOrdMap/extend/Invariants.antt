use Rattle.iddqd_store.specs.Collecting.{OverwritesAll}
use Rattle.iddqd_store.specs.Contents.{Ascends}
use Rattle.iddqd_store.specs.Holding.{FillsSlots}
use Rattle.iddqd_ord.proofs.id_ord_map.IdOrdMap.extend.Given as goal

abbrev pub invariant-loop-item : goal.invariant-loop-item
invariant-loop-item g l = (goal.iterator-loop-item g).can_next l.item-iterator
    × (goal.iterator-loop-item g).is_finite l.item-iterator
    × OverwritesAll g.T.IdOrdItem.key g.T.Key.PartialEq.eq l.fn.self.limit l.yielded l.fn.self.items l.self.items
    × FillsSlots l.fn.self l.self
    × Ascends g.T.IdOrdItem.key g.T.Key.Ord.cmp l.self.items
