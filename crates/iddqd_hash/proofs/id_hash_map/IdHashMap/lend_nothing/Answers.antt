-- For speed alone: the prover finds these proofs by itself, but later.
use Rattle.std.proofs.Common.{rules}
use Rattle.iddqd_hash.proofs.id_hash_map.IdHashMap.lend_nothing.Goals as goal

pub invariant_of-self-lent : goal.invariant_of-self-lent
invariant_of-self-lent g c = search rules

pub returns : goal.returns
returns g c = search rules
