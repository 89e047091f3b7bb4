-- For speed alone: the prover finds these proofs by itself, but later.
use Rattle.std.proofs.Common.{arith}
use Rattle.std.proofs.lemmas.Grind.{common_steps}
use Rattle.iddqd_ord.proofs.id_ord_map.IdOrdMap.last_entry.Goals as goal

pub returns : goal.returns
returns g c = grind (arith, common_steps)
