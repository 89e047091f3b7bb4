-- For speed alone: the prover finds these proofs by itself, but later.
use Rattle.std.proofs.Common.{rules}
use Rattle.iddqd_store.proofs.errors.Few.len.Goals as goal

pub returns-in-Two : goal.returns-in-Two
returns-in-Two g c = search rules
