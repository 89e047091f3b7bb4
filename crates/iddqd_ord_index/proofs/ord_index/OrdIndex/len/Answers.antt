-- For speed alone: the prover finds these proofs by itself, but later.
use Rattle.std.proofs.Common.{rules}
use Rattle.iddqd_ord_index.proofs.ord_index.OrdIndex.len.Goals as goal

pub returns-clause-number : goal.returns-clause-number
returns-clause-number c = search rules
