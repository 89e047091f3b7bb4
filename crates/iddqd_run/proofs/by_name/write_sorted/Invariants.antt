use Rattle.std.proofs.Common.{◌≡◌, ◌≤◌, ◌++◌, length, drop}
use Rattle.std.specs.Prelude.{codes, decimal, string_bytes}
use Rattle.iddqd_run.specs.Answer.{list_text}
use Rattle.iddqd_run.specs.Shown.{all_lent, entries_of}
use Rattle.iddqd_run.proofs.by_name.write_sorted.Given as goal

-- the entries that are left complete the list
abbrev pub invariant-loop-entry : goal.invariant-loop-entry
invariant-loop-entry l =
    (l.entry-index ≤ length l.fn.sorted) × (l.entry-index-end ≡ length l.fn.sorted) ×
    (string_bytes l.text ++ list_text (entries_of (all_lent (drop l.entry-index l.fn.sorted)))
    ≡ string_bytes l.fn.text ++ (codes "list " ++ decimal (length (all_lent l.fn.sorted)) ++ list_text (entries_of (all_lent l.fn.sorted))))
