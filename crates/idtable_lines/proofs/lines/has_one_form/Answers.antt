-- For speed alone: the prover finds these proofs by itself, but later.
use Rattle.std.proofs.Common.{rules}
use Rattle.idtable_lines.proofs.lines.has_one_form.Goals as goal

pub returns-then-first-ne48 : goal.returns-then-first-ne48
returns-then-first-ne48 c = search rules

pub returns-else-first-ne48 : goal.returns-else-first-ne48
returns-else-first-ne48 c = search rules

pub returns-else-first-ne43 : goal.returns-else-first-ne43
returns-else-first-ne43 c = search rules
