-- For speed alone: the prover finds these proofs by itself, but later.
use Rattle.std.proofs.Common.{arith, rules}
use Rattle.std.proofs.lemmas.Grind.{common_steps}
use Rattle.iddqd_run.proofs.adding.entries_in.Goals as goal

pub returns-in_default-first_pair : goal.returns-in_default-first_pair
returns-in_default-first_pair c = search rules

pub loop-left-preserved : goal.loop-left-preserved
loop-left-preserved c = grind (arith, common_steps)
