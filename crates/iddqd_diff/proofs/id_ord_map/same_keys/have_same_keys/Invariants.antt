use Rattle.std.proofs.Common.{◌≡◌}
use Rattle.std.specs.List.{filter_map}
use Rattle.iddqd_diff.specs.Difference.{added_item, removed_item}
use Rattle.iddqd_diff.proofs.id_ord_map.same_keys.have_same_keys.Given as goal

abbrev pub invariant-loop-difference : goal.invariant-loop-difference
invariant-loop-difference g l =
    (goal.iterator-loop-difference g).can_next l.difference-iterator ×
    (goal.iterator-loop-difference g).is_finite l.difference-iterator ×
    (filter_map removed_item l.initial.difference-iterator ≡ filter_map removed_item l.difference-iterator) ×
    (filter_map added_item l.initial.difference-iterator ≡ filter_map added_item l.difference-iterator)
