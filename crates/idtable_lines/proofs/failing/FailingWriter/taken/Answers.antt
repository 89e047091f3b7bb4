-- For speed alone: the prover finds these proofs by itself, but later.
use Rattle.std.proofs.Common.{rules}
use Rattle.idtable_lines.proofs.failing.FailingWriter.taken.Goals as goal

pub returns : goal.returns
returns c = search rules
