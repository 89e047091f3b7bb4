use Rattle.std.proofs.Common.{◌∙◌, [], set, arith}
use Rattle.std.proofs.lemmas.Grind.{common_steps}
use Rattle.std.proofs.lemmas.List.{map-set}
use Rattle.iddqd_store.specs.declared.item_store.chain.Slot.TheVariants.{Vacant}
use Rattle.iddqd_store.specs.Slots.{no_slot, item_of, links_at}
use Rattle.iddqd_store.proofs.ChainLemmas.{IsChained-along, put_by_write}
use Rattle.iddqd_store.proofs.SlotLemmas.{item_within, item_no_links, links_at-set_same, links-vacated, head_stays}
use Rattle.iddqd_store.proofs.item_store.chain.vacate.Goals as goal

pub set_previous-requires : goal.set_previous-requires
set_previous-requires g c =
    rw c.replace.ensures.after (head_stays c.args.slots.now c.args.first c.args.at _ (item_no_links c.args.slots.now c.args.at c.requires.occupied) c.requires.chained)

pub returns-clause-items : goal.returns-clause-items
returns-clause-items g c =
    c.set_previous.ensures.items ∙ rw c.replace.ensures.after (map-set item_of c.args.slots.now c.args.at (Vacant (record { previous = no_slot; next = c.args.first; align = [] })))

pub returns-clause-chained : goal.returns-clause-chained
returns-clause-chained g c =
    let es = c.args.slots.now in
    let first = c.args.first in
    let at = c.args.at in
    let occupied = c.requires.occupied in
    let es₁ = set es at c.replace.new.dest in
    put_by_write (links_at es₁) (links_at c.set_previous.new.slots) first at
    (rw c.replace.ensures.after (links_at-set_same es at (Vacant (record { previous = no_slot; next = first; align = [] })) (item_within es at occupied)))
    (rw c.replace.ensures.after (IsChained-along (links_at es) _ first (links-vacated es at _ (item_no_links es at occupied)) c.requires.chained))
    (λ e. omega arith) c.set_previous.ensures.links c.set_previous.ensures.others

pub unreachable-requires : goal.unreachable-requires
unreachable-requires g c = grind (arith, common_steps)

pub offset_bounds-slots-at : goal.offset_bounds-slots-at
offset_bounds-slots-at g c = grind (arith, common_steps)

pub bounds-slots-at : goal.bounds-slots-at
bounds-slots-at g c = grind (arith, common_steps)

pub returns-clause-item : goal.returns-clause-item
returns-clause-item g c = grind (arith, common_steps)
