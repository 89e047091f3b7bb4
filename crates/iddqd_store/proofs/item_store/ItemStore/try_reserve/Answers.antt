-- For speed alone: the prover finds these proofs by itself, but later.
use Rattle.std.proofs.Common.{arith}
use Rattle.std.proofs.lemmas.Grind.{common_steps}
use Rattle.iddqd_store.proofs.item_store.ItemStore.try_reserve.Goals as goal

pub returns-clause-ok : goal.returns-clause-ok
returns-clause-ok g c = grind (arith, common_steps)

pub returns-clause-overflow : goal.returns-clause-overflow
returns-clause-overflow g c = grind (arith, common_steps)

pub overflow_sub-self-inside : goal.overflow_sub-self-inside
overflow_sub-self-inside g c = grind (arith, common_steps)

pub overflow_sub-capacity : goal.overflow_sub-capacity
overflow_sub-capacity g c = grind (arith, common_steps)
