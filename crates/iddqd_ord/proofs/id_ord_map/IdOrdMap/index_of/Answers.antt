-- For speed alone: the prover finds these proofs by itself, but later.
use Rattle.std.proofs.Common.{rules}
use Rattle.iddqd_ord.proofs.id_ord_map.IdOrdMap.index_of.Goals as goal

pub returns-clause-place : goal.returns-clause-place
returns-clause-place g c = search rules

pub returns-clause-rank : goal.returns-clause-rank
returns-clause-rank g c = search rules

pub returns-clause-found : goal.returns-clause-found
returns-clause-found g c = search rules
