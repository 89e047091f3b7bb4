-- For speed alone: the prover finds these proofs by itself, but later.
use Rattle.std.proofs.Common.{rules}
use Rattle.iddqd_bi_hash.proofs.bi_hash_map.ref_mut.RefMut.reborrow.Goals as goal

pub returns-clause-same : goal.returns-clause-same
returns-clause-same g c = search rules

pub returns-clause-guard : goal.returns-clause-guard
returns-clause-guard g c = search rules
