-- For speed alone: the prover finds these proofs by itself, but later.
use Rattle.std.proofs.Common.{rules}
use Rattle.iddqd_diff.proofs.difference.Difference+ref+T+ref+T.is_changed.Goals as goal

pub returns-in-Kept : goal.returns-in-Kept
returns-in-Kept g c = search rules
