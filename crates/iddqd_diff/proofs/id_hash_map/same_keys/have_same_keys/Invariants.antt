use Rattle.std.proofs.Common.{◌≡◌, length}
use Rattle.std.specs.List.{filter_map}
use Rattle.iddqd_diff.specs.Difference.{added_item, removed_item}
use Rattle.iddqd_diff.proofs.id_hash_map.same_keys.have_same_keys.Given as goal

abbrev pub invariant-loop-difference : goal.invariant-loop-difference
invariant-loop-difference g l =
    (goal.iterator-loop-difference g).can_next l.differences ×
    (goal.iterator-loop-difference g).is_finite l.differences ×
    (filter_map removed_item l.initial.differences ≡ filter_map removed_item l.differences) ×
    (filter_map added_item l.initial.differences ≡ filter_map added_item l.differences)

abbrev pub decreases-loop-difference : goal.decreases-loop-difference
decreases-loop-difference g l = length l.differences
