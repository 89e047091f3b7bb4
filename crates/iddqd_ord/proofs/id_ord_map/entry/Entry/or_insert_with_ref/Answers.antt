-- For speed alone: the prover finds these proofs by itself, but later.
use Rattle.std.proofs.Common.{rules}
use Rattle.iddqd_ord.proofs.id_ord_map.entry.Entry.or_insert_with_ref.Goals as goal

pub returns-in-Vacant : goal.returns-in-Vacant
returns-in-Vacant g c = search rules
