-- For speed alone: the prover finds these proofs by itself, but later.
use Rattle.std.proofs.Common.{rules}
use Rattle.iddqd_hash.proofs.id_hash_map.room.IdHashMap+T.with_capacity.Goals as goal

pub returns-clause-spare : goal.returns-clause-spare
returns-clause-spare g c = search rules

pub returns-clause-capacity : goal.returns-clause-capacity
returns-clause-capacity g c = search rules

pub returns-clause-in_limit : goal.returns-clause-in_limit
returns-clause-in_limit g c = search rules

pub returns-clause-refused : goal.returns-clause-refused
returns-clause-refused g c = search rules
