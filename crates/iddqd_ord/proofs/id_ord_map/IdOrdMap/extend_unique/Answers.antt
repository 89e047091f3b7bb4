-- For speed alone: the prover finds these proofs by itself, but later.
use Rattle.std.proofs.Common.{rules}
use Rattle.iddqd_ord.proofs.id_ord_map.IdOrdMap.extend_unique.Goals as goal

pub invariant_of-self-in-Err-Akin : goal.invariant_of-self-in-Err-Akin
invariant_of-self-in-Err-Akin g c = search rules

pub returns-in-Err-Akin : goal.returns-in-Err-Akin
returns-in-Err-Akin g c = search rules
