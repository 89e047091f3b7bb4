-- For speed alone: the prover finds these proofs by itself, but later.
use Rattle.std.proofs.Common.{rules}
use Rattle.iddqd_store.proofs.validation.ValidateCompact.internal_check.Goals as goal

pub returns-in_default : goal.returns-in_default
returns-in_default c = search rules
