-- For speed alone: the prover finds these proofs by itself, but later.
use Rattle.std.proofs.Common.{rules}
use Rattle.iddqd_bi_hash.proofs.bi_hash_map.ref_mut.RefMut.into_ref.Goals as goal

pub returns-clause-map : goal.returns-clause-map
returns-clause-map g c = search rules
