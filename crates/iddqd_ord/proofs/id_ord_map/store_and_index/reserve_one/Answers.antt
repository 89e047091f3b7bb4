-- For speed alone: the prover finds these proofs by itself, but later.
use Rattle.std.proofs.Common.{rules}
use Rattle.iddqd_ord.proofs.id_ord_map.store_and_index.reserve_one.Goals as goal

pub returns-then-len-limit-clause-kind : goal.returns-then-len-limit-clause-kind
returns-then-len-limit-clause-kind g c = search rules
