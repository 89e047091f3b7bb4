-- For speed alone: the prover finds these proofs by itself, but later.
use Rattle.std.proofs.Common.{rules}
use Rattle.iddqd_ord_index.proofs.tree.root.pop_root_level.Goals as goal

pub returns-then-levels-eq1-clause-top : goal.returns-then-levels-eq1-clause-top
returns-then-levels-eq1-clause-top c = search rules
