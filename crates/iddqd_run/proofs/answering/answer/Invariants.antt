use Rattle.std.proofs.Common.{ℕ, ◌+◌, ◌≤◌, List, [], ◌++◌, length, string_bytes}
use Rattle.iddqd_run.specs.Answer as answer
use Rattle.iddqd_run.specs.Answer.{RepliesWithRefusals}
use Rattle.idtable_lines.specs.Lines.{lines_of}
use Rattle.iddqd_run.specs.Shown.{ShowsEntries}
use Rattle.iddqd_run.proofs.answering.answer.Given as goal

-- whatever the replies to the lines that are left, they complete those so far
abbrev pub invariant-loop-rest : goal.invariant-loop-rest
invariant-loop-rest g l = record {
  entries : List answer.Entry;
  shows : ShowsEntries l.table entries;
  replied : (more : ℕ) (text : List ℕ) → RepliesWithRefusals g.M.ByName.kind (lines_of l.rest) entries more text → RepliesWithRefusals g.M.ByName.kind (lines_of l.input) [] (l.refusals + more) (string_bytes l.text ++ text);
  counted : l.refusals + length l.rest ≤ length l.input;
}

abbrev pub decreases-loop-rest : goal.decreases-loop-rest
decreases-loop-rest g l = length l.rest
