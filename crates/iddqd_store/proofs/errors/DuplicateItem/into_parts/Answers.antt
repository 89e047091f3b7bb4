-- For speed alone: the prover finds these proofs by itself, but later.
use Rattle.std.proofs.Common.{rules}
use Rattle.iddqd_store.proofs.errors.DuplicateItem.into_parts.Goals as goal

pub returns-clause-new : goal.returns-clause-new
returns-clause-new g c = search rules

pub returns-clause-duplicates : goal.returns-clause-duplicates
returns-clause-duplicates g c = search rules
