-- For speed alone: the prover finds these proofs by itself, but later.
use Rattle.std.proofs.Common.{rules}
use Rattle.iddqd_store.proofs.queries.AnyEquivalent.equivalent.Goals as goal

pub returns : goal.returns
returns g c = search rules
