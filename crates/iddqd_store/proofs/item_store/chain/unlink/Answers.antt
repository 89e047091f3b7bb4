use Rattle.std.proofs.Common.{refl, arith}
use Rattle.std.proofs.lemmas.Grind.{common_steps}
use Rattle.iddqd_store.specs.declared.item_store.chain.Slot.TheVariants.{Vacant}
use Rattle.iddqd_store.specs.Slots.{links_at}
use Rattle.iddqd_store.proofs.ChainLemmas.{taken_by_writes}
use Rattle.iddqd_store.proofs.SlotLemmas.{links_at-read, vacant_within, previous_is_vacant, still_vacant}
use Rattle.iddqd_store.proofs.item_store.chain.unlink.Goals as goal

pub set_next-requires : goal.set_next-requires
set_next-requires g c =
    let is = links_at-read c.args.slots.now c.args.at _ (Vacant c.in-Vacant.links) (vacant_within c.args.slots.now c.args.at c.requires.vacant) c.in-Vacant.is in
    previous_is_vacant c.args.slots.now _ c.args.slots.now c.args.first c.args.at _ _ c.requires.chained is c.set_previous.ensures.links c.set_previous.ensures.others

pub returns-then-links-clause-vacant : goal.returns-then-links-clause-vacant
returns-then-links-clause-vacant g c =
    let is = links_at-read c.args.slots.now c.args.at _ (Vacant c.in-Vacant.links) (vacant_within c.args.slots.now c.args.at c.requires.vacant) c.in-Vacant.is in
    still_vacant c.args.slots.now c.set_previous.new.slots c.set_next.new.slots c.args.first c.args.at _ _ c.requires.chained is c.set_previous.ensures.links c.set_previous.ensures.others c.set_next.ensures.others

pub returns-clause-vacant : goal.returns-clause-vacant
returns-clause-vacant g c =
    let is = links_at-read c.args.slots.now c.args.at _ (Vacant c.in-Vacant.links) (vacant_within c.args.slots.now c.args.at c.requires.vacant) c.in-Vacant.is in
    still_vacant c.args.slots.now c.set_previous.new.slots c.set_next.new.slots c.args.first c.args.at _ _ c.requires.chained is c.set_previous.ensures.links c.set_previous.ensures.others c.set_next.ensures.others

pub returns-then-links-clause-chained : goal.returns-then-links-clause-chained
returns-then-links-clause-chained g c =
    let is = links_at-read c.args.slots.now c.args.at _ (Vacant c.in-Vacant.links) (vacant_within c.args.slots.now c.args.at c.requires.vacant) c.in-Vacant.is in
    taken_by_writes (links_at c.args.slots.now) (links_at c.set_previous.new.slots) (links_at c.set_next.new.slots) c.args.first _ c.args.at _ _ c.requires.chained is c.set_previous.ensures.links c.set_previous.ensures.others c.set_next.ensures.links c.set_next.ensures.others (λ _. refl) (λ ne. absurd (ne c.if-links.true))

pub returns-clause-chained : goal.returns-clause-chained
returns-clause-chained g c =
    let is = links_at-read c.args.slots.now c.args.at _ (Vacant c.in-Vacant.links) (vacant_within c.args.slots.now c.args.at c.requires.vacant) c.in-Vacant.is in
    taken_by_writes (links_at c.args.slots.now) (links_at c.set_previous.new.slots) (links_at c.set_next.new.slots) c.args.first _ c.args.at _ _ c.requires.chained is c.set_previous.ensures.links c.set_previous.ensures.others c.set_next.ensures.links c.set_next.ensures.others (λ e. absurd (c.if-links.false e)) (λ _. refl)

pub offset_bounds-slots-at : goal.offset_bounds-slots-at
offset_bounds-slots-at g c = grind (arith, common_steps)

pub bounds-slots-at : goal.bounds-slots-at
bounds-slots-at g c = grind (arith, common_steps)

pub unreachable-requires : goal.unreachable-requires
unreachable-requires g c = grind (arith, common_steps)
