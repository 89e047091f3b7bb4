use Rattle.std.proofs.Common.{◌≡◌, length}
use Rattle.std.specs.Cmp.Lexicographic.{pointwise}
use Rattle.iddqd_ord.proofs.id_ord_map.equality.IdOrdMapPartialEq.eq.Given as goal

abbrev pub invariant-loop-item : goal.invariant-loop-item
invariant-loop-item g l =
    (goal.iterator-loop-item g).can_next l.item-iterator ×
    (goal.iterator-loop-item g).is_finite l.item-iterator ×
    (length l.item-iterator ≡ length l.others) ×
    (pointwise g.T.PartialEq.eq l.item-iterator l.others ≡ pointwise g.T.PartialEq.eq l.fn.self.items l.fn.other.items)
