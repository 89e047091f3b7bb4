use Rattle.std.proofs.Common.{◌≡◌, ◌+◌}
use Rattle.std.specs.List.{filter_map, sum_by}
use Rattle.iddqd_diff.specs.Difference.{added_item}
use Rattle.test_callers.specs.Differences.{added}
use Rattle.test_callers.proofs.differences.added_sum.Given as goal

abbrev pub invariant-loop-difference : goal.invariant-loop-difference
invariant-loop-difference l =
    goal.iterator-loop-difference.can_next l.difference-iterator ×
    goal.iterator-loop-difference.is_finite l.difference-iterator ×
    (l.sum + sum_by (λ x. x.value) (filter_map added_item l.difference-iterator) ≡ sum_by (λ x. x.value) (added l.fn.before.items l.fn.after.items))
