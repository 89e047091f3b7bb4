-- For speed alone: the prover finds these proofs by itself, but later.
use Rattle.std.proofs.Common.{rules}
use Rattle.iddqd_store.proofs.errors.DuplicateItem+T+ref+T.into_owned.Goals as goal

pub returns-in-Err-clause-new : goal.returns-in-Err-clause-new
returns-in-Err-clause-new g c = search rules

pub returns-in-Err-clause-duplicates : goal.returns-in-Err-clause-duplicates
returns-in-Err-clause-duplicates g c = search rules

pub returns-in-Err-clause-back : goal.returns-in-Err-clause-back
returns-in-Err-clause-back g c = search rules
