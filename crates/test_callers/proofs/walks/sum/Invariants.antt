use Rattle.std.proofs.Common.{◌≡◌, ◌+◌}
use Rattle.std.specs.List.{sum_by}
use Rattle.test_callers.proofs.walks.sum.Given as goal

abbrev pub invariant-loop-pair : goal.invariant-loop-pair
invariant-loop-pair l =
    goal.iterator-loop-pair.can_next l.pair-iterator ×
    goal.iterator-loop-pair.is_finite l.pair-iterator ×
    (l.sum + sum_by (λ pair. pair.value) l.pair-iterator ≡ sum_by (λ pair. pair.value) l.fn.all.items)
