-- For speed alone: the prover finds these proofs by itself, but later.
use Rattle.std.proofs.Common.{arith, rules}
use Rattle.std.proofs.lemmas.Grind.{common_steps}
use Rattle.iddqd_store.proofs.item_store.ItemStore.capacity.Goals as goal

pub returns-clause-number : goal.returns-clause-number
returns-clause-number g c = search rules

pub returns-clause-holds : goal.returns-clause-holds
returns-clause-holds g c = grind (arith, common_steps)
