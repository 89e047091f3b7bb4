use Rattle.std.proofs.Common.{◌≡◌, ◌+◌, ◌<◌, ◌^◌, length}
use Rattle.std.specs.List.{filter_map}
use Rattle.iddqd_diff.specs.Difference.{new_item, old_item}
use Rattle.test_callers.proofs.differences.count_by_hash.Given as goal

abbrev pub invariant-loop-difference : goal.invariant-loop-difference
invariant-loop-difference l =
    goal.iterator-loop-difference.can_next l.difference-iterator ×
    goal.iterator-loop-difference.is_finite l.difference-iterator ×
    (l.numbers.removed + l.numbers.kept + length (filter_map old_item l.difference-iterator) ≡ length l.fn.before.items) ×
    (l.numbers.added + l.numbers.kept + length (filter_map new_item l.difference-iterator) ≡ length l.fn.after.items) ×
    (l.numbers.removed + l.numbers.added + l.numbers.kept + length l.difference-iterator < 2 ^ 33)
