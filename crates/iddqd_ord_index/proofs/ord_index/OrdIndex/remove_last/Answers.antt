-- For speed alone: the prover finds these proofs by itself, but later.
use Rattle.std.proofs.Common.{arith, rules}
use Rattle.std.proofs.lemmas.Grind.{common_steps}
use Rattle.iddqd_ord_index.proofs.ord_index.OrdIndex.remove_last.Goals as goal

pub invariant_of-self : goal.invariant_of-self
invariant_of-self c = search rules

pub returns-then-self-eq0-clause-slot : goal.returns-then-self-eq0-clause-slot
returns-then-self-eq0-clause-slot c = grind (arith, common_steps)

pub returns-then-self-eq0-clause-after : goal.returns-then-self-eq0-clause-after
returns-then-self-eq0-clause-after c = grind (arith, common_steps)

pub returns-clause-slot : goal.returns-clause-slot
returns-clause-slot c = search rules

pub returns-clause-after : goal.returns-clause-after
returns-clause-after c = grind (arith, common_steps)
