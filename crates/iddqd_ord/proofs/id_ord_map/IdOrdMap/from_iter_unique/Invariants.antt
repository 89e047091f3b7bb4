use Rattle.std.proofs.Common.{◌≡◌}
use Rattle.std.specs.Prelude.{IsPermutation}
use Rattle.iddqd_store.specs.Contents.{Ascends}
use Rattle.iddqd_ord.proofs.id_ord_map.IdOrdMap.from_iter_unique.Given as goal

abbrev pub invariant-loop-item : goal.invariant-loop-item
invariant-loop-item g l = (goal.iterator-loop-item g).can_next l.item-iterator
    × (goal.iterator-loop-item g).is_finite l.item-iterator
    × IsPermutation l.yielded l.map.items
    × (l.map.vacant ≡ 0)
    × (l.map.limit ≡ 4294967295)
    × Ascends g.T.IdOrdItem.key g.T.Key.Ord.cmp l.map.items
