use Rattle.std.proofs.Common.{refl}
use Rattle.iddqd_ord_index.proofs.IndexLemmas.{empty_index}
use Rattle.iddqd_ord_index.proofs.ord_index.OrdIndex.new.Goals as goal

pub invariant_of-result : goal.invariant_of-result
invariant_of-result c = empty_index _ c.new.ensures refl refl refl c.new-3.ensures
