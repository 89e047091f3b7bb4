-- For speed alone: the prover finds these proofs by itself, but later.
use Rattle.std.proofs.Common.{rules}
use Rattle.iddqd_store.proofs.steps.Steps.equal.Goals as goal

pub returns-clause-value : goal.returns-clause-value
returns-clause-value g c = search rules
