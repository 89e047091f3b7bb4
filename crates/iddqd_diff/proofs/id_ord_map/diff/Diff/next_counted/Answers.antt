-- For speed alone: the prover finds these proofs by itself, but later.
use Rattle.std.proofs.Common.{rules}
use Rattle.iddqd_diff.proofs.id_ord_map.diff.Diff.next_counted.Goals as goal

pub returns-in-Equal-clause-gives : goal.returns-in-Equal-clause-gives
returns-in-Equal-clause-gives g c = search rules
