-- For speed alone: the prover finds these proofs by itself, but later.
use Rattle.std.proofs.Common.{arith, rules}
use Rattle.std.proofs.lemmas.Grind.{common_steps}
use Rattle.iddqd_store.proofs.item_store.ItemStore.len.Goals as goal

pub returns-clause-items : goal.returns-clause-items
returns-clause-items g c = search rules

pub returns-clause-limit : goal.returns-clause-limit
returns-clause-limit g c = grind (arith, common_steps)

pub returns-clause-fits : goal.returns-clause-fits
returns-clause-fits g c = grind (arith, common_steps)
