-- For speed alone: the prover finds these proofs by itself, but later.
use Rattle.std.proofs.Common.{rules}
use Rattle.iddqd_ord.proofs.id_ord_map.IdOrdMap.range.Goals as goal

pub returns-clause-items : goal.returns-clause-items
returns-clause-items g c = search rules
