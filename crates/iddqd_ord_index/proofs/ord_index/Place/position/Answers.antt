-- For speed alone: the prover finds these proofs by itself, but later.
use Rattle.std.proofs.Common.{rules}
use Rattle.iddqd_ord_index.proofs.ord_index.Place.position.Goals as goal

pub returns : goal.returns
returns c = search rules
