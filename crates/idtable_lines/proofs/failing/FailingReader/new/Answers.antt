-- For speed alone: the prover finds these proofs by itself, but later.
use Rattle.std.proofs.Common.{rules}
use Rattle.idtable_lines.proofs.failing.FailingReader.new.Goals as goal

pub returns-clause-rest : goal.returns-clause-rest
returns-clause-rest c = search rules
