use Rattle.std.proofs.Common.{◌≡◌}
use Rattle.std.specs.List.Sorted.{IsStrictlySortedBy}
use Rattle.iddqd.specs.Contents.{Ascends}
use Rattle.iddqd_diff.specs.Applying.{IsUnderway}
use Rattle.iddqd_diff.proofs.id_ord_map.applying.apply.Given as goal

abbrev pub invariant-loop-difference : goal.invariant-loop-difference
invariant-loop-difference g l =
    (goal.iterator-loop-difference g).can_next l.difference-iterator ×
    (goal.iterator-loop-difference g).is_finite l.difference-iterator ×
    Ascends g.T.IdOrdItem.key g.T.Key.Ord.cmp l.map.items ×
    (l.map.limit ≡ l.fn.map.limit) ×
    IsUnderway g.T.IdOrdItem.key g.T.Key.PartialEq.eq g.T.Clone.is_clone (λ xs ys. xs ≡ ys) (IsStrictlySortedBy g.T.Key.Ord.cmp) l.fn.before.items l.fn.after.items l.fn.map.items l.map.items l.difference-iterator
