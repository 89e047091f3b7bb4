-- For speed alone: the prover finds these proofs by itself, but later.
use Rattle.std.proofs.Common.{rules}
use Rattle.iddqd_ord.proofs.id_ord_map.IdOrdMap.with_capacity.Goals as goal

pub returns-in_err-store-clause-refused : goal.returns-in_err-store-clause-refused
returns-in_err-store-clause-refused g c = search rules

pub returns-clause-in_limit : goal.returns-clause-in_limit
returns-clause-in_limit g c = search rules

pub returns-clause-empty : goal.returns-clause-empty
returns-clause-empty g c = search rules
