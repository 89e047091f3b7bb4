-- All but `updates` for speed alone: the prover finds these proofs by itself, but later.
use Rattle.std.proofs.Common.{None, arith, rules}
use Rattle.std.proofs.lemmas.Grind.{common_steps}
use Rattle.iddqd_store.proofs.StoreLemmas.{updates-set}
use Rattle.iddqd_store.proofs.item_store.ItemStore.remove.Goals as goal

pub invariant_of-self : goal.invariant_of-self
invariant_of-self g c = grind (arith, common_steps)

pub returns-clause-item : goal.returns-clause-item
returns-clause-item g c = search rules

pub returns-clause-store : goal.returns-clause-store
returns-clause-store g c = grind (arith, common_steps)

pub returns-clause-updates : goal.returns-clause-updates
returns-clause-updates g c = rw (returns-clause-store g c) (updates-set c.args.self.now c.args.slot None c.requires)

pub returns-clause-len : goal.returns-clause-len
returns-clause-len g c = grind (arith, common_steps)

pub returns-clause-vacant : goal.returns-clause-vacant
returns-clause-vacant g c = grind (arith, common_steps)

pub vacate-item-requires-clause-number : goal.vacate-item-requires-clause-number
vacate-item-requires-clause-number g c = grind (arith, common_steps)

pub overflow_sub-self : goal.overflow_sub-self
overflow_sub-self g c = grind (arith, common_steps)
