use Rattle.std.proofs.Common.{◌≡◌, ◌++◌, length}
use Rattle.std.specs.Prelude.{codes, decimal, string_bytes}
use Rattle.iddqd_run.specs.Answer.{list_text}
use Rattle.iddqd_run.specs.Shown.{entries_of}
use Rattle.iddqd_run.proofs.by_name.write_ascending.Given as goal

-- the entries that are left complete the list
abbrev pub invariant-loop-entry : goal.invariant-loop-entry
invariant-loop-entry l =
    goal.iterator-loop-entry.can_next l.entry-iterator ×
    goal.iterator-loop-entry.is_finite l.entry-iterator ×
    (string_bytes l.text ++ list_text (entries_of l.entry-iterator)
    ≡ string_bytes l.fn.text ++ (codes "list " ++ decimal (length l.fn.map.items) ++ list_text (entries_of l.fn.map.items)))
