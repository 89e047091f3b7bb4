-- For speed alone: the prover finds these proofs by itself, but later.
use Rattle.std.proofs.Common.{rules}
use Rattle.iddqd_store.proofs.steps.Steps.add_one.Goals as goal

pub returns-clause-step : goal.returns-clause-step
returns-clause-step c = search rules

pub returns-clause-never_resets : goal.returns-clause-never_resets
returns-clause-never_resets c = search rules
