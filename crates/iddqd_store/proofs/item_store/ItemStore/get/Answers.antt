-- For speed alone: the prover finds these proofs by itself, but later.
use Rattle.std.proofs.Common.{arith}
use Rattle.std.proofs.lemmas.Grind.{common_steps}
use Rattle.iddqd_store.proofs.item_store.ItemStore.get.Goals as goal

pub returns-in-Some-Occupied : goal.returns-in-Some-Occupied
returns-in-Some-Occupied g c = grind (arith, common_steps)

pub returns-in_default : goal.returns-in_default
returns-in_default g c = grind (arith, common_steps)
