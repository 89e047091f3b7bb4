-- For speed alone: the prover finds these proofs by itself, but later.
use Rattle.std.proofs.Common.{rules}
use Rattle.iddqd_run.proofs.statuses.exit_status.Goals as goal

pub returns-in-Err-Fault : goal.returns-in-Err-Fault
returns-in-Err-Fault c = search rules

pub returns-in-Err-Usage : goal.returns-in-Err-Usage
returns-in-Err-Usage c = search rules
