-- For speed alone: the prover finds these proofs by itself, but later.
use Rattle.std.proofs.Common.{rules}
use Rattle.iddqd_ord.proofs.id_ord_map.IdOrdMap.iter_mut.Goals as goal

pub returns-clause-start : goal.returns-clause-start
returns-clause-start g c = search rules
