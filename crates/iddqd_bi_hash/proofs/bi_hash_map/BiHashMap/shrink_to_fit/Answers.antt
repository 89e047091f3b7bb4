-- For speed alone: the prover finds these proofs by itself, but later.
use Rattle.std.proofs.Common.{rules}
use Rattle.iddqd_bi_hash.proofs.bi_hash_map.BiHashMap.shrink_to_fit.Goals as goal

pub returns-clause-shrinks : goal.returns-clause-shrinks
returns-clause-shrinks g c = search rules

pub returns-clause-frees : goal.returns-clause-frees
returns-clause-frees g c = search rules
