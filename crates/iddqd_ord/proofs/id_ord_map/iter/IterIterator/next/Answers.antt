use Rattle.std.proofs.Common.{subst, rules}
use Rattle.iddqd_ord_index.specs.Listed.{AreOccupied}
use Rattle.iddqd_ord.proofs.WalkLemmas.{rest_occupied}
use Rattle.iddqd_ord.proofs.id_ord_map.iter.IterIterator.next.Goals as goal

pub invariant_of-self-2 : goal.invariant_of-self-2
invariant_of-self-2 g c =
    let it = c.self.inside in
    rest_occupied it.store.now c.in_ok-slot.slot c.next.new.self (subst (AreOccupied it.store.now) c.in_ok-slot.ensures.steps c.self.invariant)

pub returns-clause-steps : goal.returns-clause-steps
returns-clause-steps g c = search rules
