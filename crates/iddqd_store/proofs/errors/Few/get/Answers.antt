-- For speed alone: the prover finds these proofs by itself, but later.
use Rattle.std.proofs.Common.{rules}
use Rattle.iddqd_store.proofs.errors.Few.get.Goals as goal

pub returns-in-Three-eq2 : goal.returns-in-Three-eq2
returns-in-Three-eq2 g c = search rules
