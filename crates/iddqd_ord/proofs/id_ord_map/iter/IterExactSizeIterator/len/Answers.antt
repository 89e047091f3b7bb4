use Rattle.std.proofs.Common.{◌∙◌, length, sym, ap}
use Rattle.iddqd_ord_index.proofs.ListedLemmas.{length-listed}
use Rattle.iddqd_ord.proofs.id_ord_map.iter.IterExactSizeIterator.len.Goals as goal

pub returns-clause-value : goal.returns-clause-value
returns-clause-value g c =
    let it = c.self.inside in
    c.len.ensures.value ∙ sym (length-listed it.store.now it.walk c.self.invariant) ∙ ap length c.self.view_is
