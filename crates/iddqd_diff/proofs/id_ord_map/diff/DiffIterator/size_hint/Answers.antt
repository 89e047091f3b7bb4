use Rattle.std.proofs.Common.{ap, arith, length}
use Rattle.iddqd_diff.proofs.MergedLemmas.{length_most, length_new, length_old}
use Rattle.iddqd_diff.proofs.id_ord_map.diff.DiffIterator.size_hint.Goals as goal

pub returns-clause-lower : goal.returns-clause-lower
returns-clause-lower g c =
    let key = g.T.IdOrdItem.key in
    let cmp = g.T.Key.Ord.cmp in
    λ _. omega (arith, length_old key cmp c.self.inside.before c.self.inside.after, length_new key cmp c.self.inside.before c.self.inside.after, ap length c.self.view_is)

pub returns-clause-upper : goal.returns-clause-upper
returns-clause-upper g c =
    (tt, omega (arith, length_most g.T.IdOrdItem.key g.T.Key.Ord.cmp c.self.inside.before c.self.inside.after, ap length c.self.view_is))
