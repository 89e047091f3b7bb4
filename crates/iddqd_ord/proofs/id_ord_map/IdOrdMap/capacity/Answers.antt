use Rattle.std.proofs.Common.{length, ap, arith}
use Rattle.iddqd_ord.proofs.StoreAndIndexLemmas.{items_counted}
use Rattle.iddqd_ord.proofs.id_ord_map.IdOrdMap.capacity.Goals as goal

pub returns-clause-holds : goal.returns-clause-holds
returns-clause-holds g c =
    let m = c.self.inside in
    omega (arith, c.capacity.ensures.holds, items_counted m.store m.index.slots c.self.invariant, ap (λ v. length v.items) c.self.view_is)
