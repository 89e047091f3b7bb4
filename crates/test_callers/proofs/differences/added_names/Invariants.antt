use Rattle.std.proofs.Common.{◌≡◌, ◌++◌, filter, map}
use Rattle.std.specs.List.{filter_map}
use Rattle.std.specs.String.{string_eq}
use Rattle.iddqd_diff.specs.Difference.{added_item, lacks}
use Rattle.test_callers.proofs.differences.added_names.Given as goal

abbrev pub invariant-loop-difference : goal.invariant-loop-difference
invariant-loop-difference l =
    goal.iterator-loop-difference.can_next l.difference-iterator ×
    goal.iterator-loop-difference.is_finite l.difference-iterator ×
    (map (λ name. name.now) l.names.items ++ map (λ x. x.name) (filter_map added_item l.difference-iterator) ≡ map (λ x. x.name) (filter (lacks (λ x. x.name) string_eq l.fn.before.items) l.fn.after.items))
