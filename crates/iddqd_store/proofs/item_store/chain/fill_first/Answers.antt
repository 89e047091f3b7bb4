use Rattle.std.proofs.Common.{sym, ◌∙◌, set, arith}
use Rattle.std.proofs.lemmas.Grind.{common_steps}
use Rattle.std.proofs.lemmas.List.{map-set}
use Rattle.iddqd_store.specs.declared.item_store.chain.Slot.TheVariants.{Occupied}
use Rattle.iddqd_store.specs.Slots.{item_of, links_at}
use Rattle.iddqd_store.proofs.ChainLemmas.{second_stays, first_filled}
use Rattle.iddqd_store.proofs.SlotLemmas.{first_links, first_is_vacant, vacant_within, links-filled}
use Rattle.iddqd_store.proofs.item_store.chain.fill_first.Goals as goal

pub set_previous-requires : goal.set_previous-requires
set_previous-requires g c =
    let es = c.args.slots.now in
    let first = c.args.first in
    let is = first_links es first _ c.in-Vacant.links c.requires.chained c.requires.some (sym c.replace.ensures.value ∙ c.in-Vacant.is) in
    let within = vacant_within es first (first_is_vacant es first c.requires.chained c.requires.some) in
    rw c.replace.ensures.after (second_stays (links_at es) _ first _ c.requires.chained is (links-filled es first c.args.item within))

pub returns-clause-items : goal.returns-clause-items
returns-clause-items g c =
    c.set_previous.ensures.items ∙ rw c.replace.ensures.after (map-set item_of c.args.slots.now c.args.first (Occupied c.args.item))

pub returns-clause-chained : goal.returns-clause-chained
returns-clause-chained g c =
    let es = c.args.slots.now in
    let first = c.args.first in
    let is = first_links es first _ c.in-Vacant.links c.requires.chained c.requires.some (sym c.replace.ensures.value ∙ c.in-Vacant.is) in
    let within = vacant_within es first (first_is_vacant es first c.requires.chained c.requires.some) in
    first_filled (links_at es) (links_at (set es first c.replace.new.dest)) (links_at c.set_previous.new.slots) first _ c.requires.chained is (rw c.replace.ensures.after (links-filled es first c.args.item within)) c.set_previous.ensures.links c.set_previous.ensures.others

pub unreachable-requires : goal.unreachable-requires
unreachable-requires g c = grind (arith, common_steps)

pub offset_bounds-slots-first : goal.offset_bounds-slots-first
offset_bounds-slots-first g c = grind (arith, common_steps)

pub bounds-slots-first : goal.bounds-slots-first
bounds-slots-first g c = grind (arith, common_steps)
