-- For speed alone: the prover finds these proofs by itself, but later.
use Rattle.std.proofs.Common.{rules}
use Rattle.iddqd_run.proofs.serving.fault_text.Goals as goal

pub returns-in-Read : goal.returns-in-Read
returns-in-Read c = search rules
