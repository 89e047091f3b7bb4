use Rattle.std.proofs.Common.{◌∙◌, [], ◌∷◌, length, length-append, sym, ap, subst, nat_eq, arith}
use Rattle.std.specs.List.{IsDistinct}
use Rattle.iddqd_ord_index.specs.Listed.{listed_items, AreOccupied}
use Rattle.iddqd_ord.proofs.WalkLemmas.{front_distinct, front_there, front_listed}
use Rattle.iddqd_ord.proofs.id_ord_map.into_iter.IntoIterDoubleEndedIterator.next_back.Goals as goal

pub invariant_of-self-2 : goal.invariant_of-self-2
invariant_of-self-2 g c =
    let it = c.self.inside in
    let slot = c.in_ok-last.last in
    let rest = c.next_back.new.self in
    let occupied = subst (AreOccupied it.store) c.in_ok-last.ensures.steps c.self.invariant.0 in
    let once = subst (IsDistinct nat_eq) c.in_ok-last.ensures.steps c.self.invariant.1 in
    (front_there it.store c.remove.new.self slot rest occupied once c.remove.ensures.updates, front_distinct it.store c.remove.new.self slot rest occupied once c.remove.ensures.updates)

pub returns-clause-steps : goal.returns-clause-steps
returns-clause-steps g c =
    let it = c.self.inside in
    let slot = c.in_ok-last.last in
    let rest = c.next_back.new.self in
    let occupied = subst (AreOccupied it.store) c.in_ok-last.ensures.steps c.self.invariant.0 in
    let once = subst (IsDistinct nat_eq) c.in_ok-last.ensures.steps c.self.invariant.1 in
    sym c.self.view_is ∙ ap (listed_items it.store) c.in_ok-last.ensures.steps ∙ front_listed it.store c.remove.new.self slot rest occupied once c.remove.ensures.updates c.remove.result c.remove.ensures.item

pub returns-clause-goes : goal.returns-clause-goes
returns-clause-goes g c =
    let fewer = ap length (returns-clause-steps g c) ∙ length-append (listed_items c.remove.new.self c.next_back.new.self) (c.remove.result ∷ []) in
    record { on = λ finite. (tt, tt, omega (arith, fewer)); keeps = tt; rests = λ finite. tt }
