-- For speed alone: the prover finds these proofs by itself, but later.
use Rattle.std.proofs.Common.{rules}
use Rattle.iddqd_hash.proofs.id_hash_map.IdHashMap.get.Goals as goal

pub returns-clause-found : goal.returns-clause-found
returns-clause-found g c = search rules

pub returns-clause-spare_fits : goal.returns-clause-spare_fits
returns-clause-spare_fits g c = search rules
