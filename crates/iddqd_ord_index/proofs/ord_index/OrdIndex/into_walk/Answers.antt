-- For speed alone: the prover finds these proofs by itself, but later.
use Rattle.std.proofs.Common.{rules}
use Rattle.iddqd_ord_index.proofs.ord_index.OrdIndex.into_walk.Goals as goal

pub returns-clause-slots : goal.returns-clause-slots
returns-clause-slots c = search rules
