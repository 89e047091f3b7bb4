-- For speed alone: the prover finds these proofs by itself, but later.
use Rattle.std.proofs.Common.{arith, rules}
use Rattle.std.proofs.lemmas.Grind.{common_steps}
use Rattle.iddqd_ord.proofs.id_ord_map.equality.IdOrdMapPartialEq.eq.Goals as goal

pub returns-then-len : goal.returns-then-len
returns-then-len g c = grind (arith, common_steps)

pub returns-then-ne : goal.returns-then-ne
returns-then-ne g c = search rules

pub returns : goal.returns
returns g c = search rules
