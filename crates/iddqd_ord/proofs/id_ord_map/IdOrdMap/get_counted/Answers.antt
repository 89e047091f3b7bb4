use Rattle.std.proofs.Common.{arith, ap, rules}
use Rattle.iddqd_store.proofs.CountingLemmas.{CountsAtMost-le}
use Rattle.iddqd_ord.proofs.StoreAndIndexLemmas.{bound_of}
use Rattle.iddqd_ord.proofs.id_ord_map.IdOrdMap.get_counted.Goals as goal

pub returns-in_err-slot-clause-steps : goal.returns-in_err-slot-clause-steps
returns-in_err-slot-clause-steps g c =
    let m = c.self.inside in
    CountsAtMost-le c.in_err-slot.ensures.steps (omega (arith, bound_of m.store m.index.slots c.self.invariant c.args.self.now.items (ap (λ v. v.items) c.self.view_is)))

pub returns-clause-steps : goal.returns-clause-steps
returns-clause-steps g c =
    let m = c.self.inside in
    CountsAtMost-le c.in_ok-slot.ensures.steps (omega (arith, bound_of m.store m.index.slots c.self.invariant c.args.self.now.items (ap (λ v. v.items) c.self.view_is)))

pub returns-clause-found : goal.returns-clause-found
returns-clause-found g c = search rules
