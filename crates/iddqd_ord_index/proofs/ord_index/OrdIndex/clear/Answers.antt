use Rattle.std.proofs.Common.{refl}
use Rattle.iddqd_ord_index.proofs.IndexLemmas.{empty_index}
use Rattle.iddqd_ord_index.proofs.ord_index.OrdIndex.clear.Goals as goal

pub invariant_of-self : goal.invariant_of-self
invariant_of-self c = empty_index _ c.new.ensures refl refl refl c.clear.ensures
