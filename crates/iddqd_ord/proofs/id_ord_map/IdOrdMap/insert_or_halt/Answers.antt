-- For speed alone: the prover finds these proofs by itself, but later.
use Rattle.std.proofs.Common.{rules}
use Rattle.iddqd_ord.proofs.id_ord_map.IdOrdMap.insert_or_halt.Goals as goal

pub returns-in-Err-Akin-clause-halted : goal.returns-in-Err-Akin-clause-halted
returns-in-Err-Akin-clause-halted g c = search rules
