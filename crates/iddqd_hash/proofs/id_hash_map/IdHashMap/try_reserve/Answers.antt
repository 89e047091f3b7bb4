-- For speed alone: the prover finds these proofs by itself, but later.
use Rattle.std.proofs.Common.{rules}
use Rattle.iddqd_hash.proofs.id_hash_map.IdHashMap.try_reserve.Goals as goal

pub returns-clause-reserves : goal.returns-clause-reserves
returns-clause-reserves g c = search rules
