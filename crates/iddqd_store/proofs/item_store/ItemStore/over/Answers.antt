use Rattle.std.proofs.Common.{arith}
use Rattle.iddqd_store.proofs.SlotLemmas.{IsSound-empty}
use Rattle.iddqd_store.proofs.item_store.ItemStore.over.Goals as goal

pub invariant_of-result : goal.invariant_of-result
invariant_of-result g c = rw c.requires.empty (IsSound-empty _ (omega arith))
