use Rattle.std.proofs.Common.{arith}
use Rattle.std.proofs.lemmas.Grind.{common_steps}
use Rattle.iddqd_store.proofs.SlotLemmas.{links_at-next, links_at-set_other, items_of-links, vacant_within}
use Rattle.iddqd_store.proofs.item_store.chain.set_next.Goals as goal

pub returns-in-Vacant-clause-items : goal.returns-in-Vacant-clause-items
returns-in-Vacant-clause-items g c =
    items_of-links c.args.slots.now c.args.at _ c.in-Vacant.links _ (vacant_within c.args.slots.now c.args.at (c.requires c.if-at-eq-NO_SLOT.false)) c.in-Vacant.is

pub returns-in-Vacant-clause-links : goal.returns-in-Vacant-clause-links
returns-in-Vacant-clause-links g c = λ some p n.
    links_at-next c.args.slots.now c.args.at _ c.in-Vacant.links p n _ (vacant_within c.args.slots.now c.args.at (c.requires some)) c.in-Vacant.is

pub returns-in-Vacant-clause-others : goal.returns-in-Vacant-clause-others
returns-in-Vacant-clause-others g c = λ s far. links_at-set_other _ _ _ s (far c.if-at-eq-NO_SLOT.false)

pub offset_bounds-slots-at : goal.offset_bounds-slots-at
offset_bounds-slots-at g c = grind (arith, common_steps)

pub bounds-slots-at : goal.bounds-slots-at
bounds-slots-at g c = grind (arith, common_steps)

pub returns-in_default-clause-items : goal.returns-in_default-clause-items
returns-in_default-clause-items g c = grind (arith, common_steps)

pub returns-in_default-clause-links : goal.returns-in_default-clause-links
returns-in_default-clause-links g c = grind (arith, common_steps)

pub returns-in_default-clause-others : goal.returns-in_default-clause-others
returns-in_default-clause-others g c = grind (arith, common_steps)
