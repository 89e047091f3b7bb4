use Rattle.std.proofs.Common.{◌∙◌, ap, subst, sym}
use Rattle.iddqd_ord_index.specs.Listed.{listed_items, AreOccupied}
use Rattle.iddqd_ord.proofs.WalkLemmas.{front_occupied, lends_last, last_goes}
use Rattle.iddqd_ord.proofs.id_ord_map.iter.IterDoubleEndedIterator.next_back.Goals as goal

pub invariant_of-self-2 : goal.invariant_of-self-2
invariant_of-self-2 g c =
    let it = c.self.inside in
    (front_occupied it.store.now c.in_ok-last.last c.next_back.new.self (subst (AreOccupied it.store.now) c.in_ok-last.ensures.steps c.self.invariant)).0

pub returns-clause-steps : goal.returns-clause-steps
returns-clause-steps g c =
    let it = c.self.inside in
    let occupied = front_occupied it.store.now c.in_ok-last.last c.next_back.new.self (subst (AreOccupied it.store.now) c.in_ok-last.ensures.steps c.self.invariant) in
    lends_last it.store.now c.in_ok-last.last c.next_back.new.self c.args.self.now (sym c.self.view_is ∙ ap (listed_items it.store.now) c.in_ok-last.ensures.steps) c.get.result c.get.ensures occupied.1

pub returns-clause-goes : goal.returns-clause-goes
returns-clause-goes g c =
    let it = c.self.inside in
    last_goes c.args.self.now (listed_items it.store.now c.next_back.new.self) c.get.result (returns-clause-steps g c)
