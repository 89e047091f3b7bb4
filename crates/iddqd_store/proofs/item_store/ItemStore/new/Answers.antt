-- For speed alone: the prover finds these proofs by itself, but later.
use Rattle.std.proofs.Common.{rules}
use Rattle.iddqd_store.proofs.item_store.ItemStore.new.Goals as goal

pub returns-clause-limit : goal.returns-clause-limit
returns-clause-limit g c = search rules
