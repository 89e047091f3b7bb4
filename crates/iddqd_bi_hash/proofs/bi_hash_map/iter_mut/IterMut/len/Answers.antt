-- For speed alone: the prover finds these proofs by itself, but later.
use Rattle.std.proofs.Common.{rules}
use Rattle.iddqd_bi_hash.proofs.bi_hash_map.iter_mut.IterMut.len.Goals as goal

pub returns : goal.returns
returns g c = search rules
