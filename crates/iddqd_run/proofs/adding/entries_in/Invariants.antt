use Rattle.std.proofs.Common.{◌≡◌}
use Rattle.idtable_lines.specs.Parsed.{length_behind, pairs_behind}
use Rattle.idtable_lines.specs.Lines.{pairs_of, words_of}
use Rattle.iddqd_run.specs.Shown.{entries_of}
use Rattle.iddqd_run.proofs.AddAllLemmas.{after_pairs}
use Rattle.iddqd_run.proofs.adding.entries_in.Given as goal

-- the entries so far are the first pairs, and those that are left are the others
abbrev pub invariant-loop-left : goal.invariant-loop-left
invariant-loop-left l = after_pairs (entries_of l.entries.items) (pairs_behind l.left) ≡ pairs_of (words_of l.fields)

abbrev pub decreases-loop-left : goal.decreases-loop-left
decreases-loop-left l = length_behind l.left
