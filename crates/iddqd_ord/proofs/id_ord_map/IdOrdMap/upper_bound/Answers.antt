use Rattle.std.proofs.Common.{◌∙◌, sym, arith}
use Rattle.iddqd_ord.specs.Ranges.{bound_now, is_up_to}
use Rattle.iddqd_ord.proofs.RangeLemmas.{last_before, last_none}
use Rattle.iddqd_ord.proofs.id_ord_map.IdOrdMap.upper_bound.Goals as goal

pub returns : goal.returns
returns g c =
    c.get_index.ensures
    ∙ sym (last_before (λ x. is_up_to g.Q.Comparable.compare (bound_now c.args.to) (g.T.IdOrdItem.key x)) c.args.self.now.items c.end_of-end.result c.end_of-end.ensures.end (omega (arith, c.if-end-eq0.false)))

pub returns-then-end-eq0 : goal.returns-then-end-eq0
returns-then-end-eq0 g c =
    sym (last_none (λ x. is_up_to g.Q.Comparable.compare (bound_now c.args.to) (g.T.IdOrdItem.key x)) c.args.self.now.items c.end_of-end.result c.end_of-end.ensures.end c.if-end-eq0.true)
