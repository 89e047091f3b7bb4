use Rattle.std.proofs.Common.{◌≡◌, is_some}
use Rattle.idtable_lines.specs.Parsed.{length_behind, pairs_behind}
use Rattle.idtable_lines.specs.Lines.{pairs_of, words_of}
use Rattle.iddqd_run.proofs.adding.not_made.Given as goal

-- the fields follow the form if those that are left do
abbrev pub invariant-loop-left : goal.invariant-loop-left
invariant-loop-left l = is_some (pairs_behind l.left) ≡ is_some (pairs_of (words_of l.fields))

abbrev pub decreases-loop-left : goal.decreases-loop-left
decreases-loop-left l = length_behind l.left
