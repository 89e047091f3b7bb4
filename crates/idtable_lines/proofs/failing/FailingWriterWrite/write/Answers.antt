-- For speed alone: the prover finds these proofs by itself, but later.
use Rattle.std.proofs.Common.{rules}
use Rattle.idtable_lines.proofs.failing.FailingWriterWrite.write.Goals as goal

pub returns-clause-bytes : goal.returns-clause-bytes
returns-clause-bytes c = search rules

pub returns-clause-takes : goal.returns-clause-takes
returns-clause-takes c = search rules

pub returns-clause-memory : goal.returns-clause-memory
returns-clause-memory c = search rules
