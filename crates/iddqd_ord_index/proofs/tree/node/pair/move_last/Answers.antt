-- For speed alone: the prover finds these proofs by itself, but later.
use Rattle.std.proofs.Common.{arith}
use Rattle.std.proofs.lemmas.Grind.{common_steps}
use Rattle.iddqd_ord_index.proofs.tree.node.pair.move_last.Goals as goal

pub returns-then-is_empty-clause-below : goal.returns-then-is_empty-clause-below
returns-then-is_empty-clause-below c = grind (arith, common_steps)

pub returns-then-is_empty-clause-upper_below : goal.returns-then-is_empty-clause-upper_below
returns-then-is_empty-clause-upper_below c = grind (arith, common_steps)

pub returns-clause-below : goal.returns-clause-below
returns-clause-below c = grind (arith, common_steps)

pub returns-clause-upper_below : goal.returns-clause-upper_below
returns-clause-upper_below c = grind (arith, common_steps)
