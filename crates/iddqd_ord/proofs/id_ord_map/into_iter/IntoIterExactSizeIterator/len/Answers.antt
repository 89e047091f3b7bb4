use Rattle.std.proofs.Common.{◌∙◌, length, sym, ap}
use Rattle.iddqd_ord_index.proofs.ListedLemmas.{length-listed}
use Rattle.iddqd_ord.proofs.id_ord_map.into_iter.IntoIterExactSizeIterator.len.Goals as goal

pub returns-clause-value : goal.returns-clause-value
returns-clause-value g c =
    let it = c.self.inside in
    c.len.ensures.value ∙ sym (length-listed it.store it.walk c.self.invariant.0) ∙ ap length c.self.view_is
