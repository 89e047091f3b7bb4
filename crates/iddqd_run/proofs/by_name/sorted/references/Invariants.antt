use Rattle.std.proofs.Common.{◌≡◌, ◌++◌}
use Rattle.iddqd_run.specs.Shown.{all_lent}
use Rattle.iddqd_run.proofs.by_name.sorted.references.Given as goal

abbrev pub invariant-loop-entry : goal.invariant-loop-entry
invariant-loop-entry l =
    goal.iterator-loop-entry.can_next l.entry-iterator ×
    goal.iterator-loop-entry.is_finite l.entry-iterator ×
    (all_lent l.lent.items ++ l.entry-iterator ≡ l.fn.map.items)
