use Rattle.std.proofs.Common.{◌∙◌, set, Some, ap, arith}
use Rattle.std.proofs.lemmas.Grind.{common_steps}
use Rattle.std.proofs.lemmas.List.{map-set}
use Rattle.iddqd_store.specs.declared.item_store.chain.Slot.TheVariants.{Occupied}
use Rattle.iddqd_store.specs.Slots.{item_of, links_at, links_without}
use Rattle.iddqd_store.proofs.ChainLemmas.{IsChained-along}
use Rattle.iddqd_store.proofs.SlotLemmas.{links-filled, vacant_within}
use Rattle.iddqd_store.proofs.item_store.chain.fill.Goals as goal

pub returns-clause-items : goal.returns-clause-items
returns-clause-items g c =
    rw c.replace.ensures.after (map-set item_of c.unlink-left.new.slots c.args.at (Occupied c.args.item)) ∙ ap (λ xs. set xs c.args.at (Some c.args.item)) c.unlink-left.ensures.items

pub returns-clause-chained : goal.returns-clause-chained
returns-clause-chained g c =
    let us = c.unlink-left.new.slots in
    let at = c.args.at in
    IsChained-along (links_without (links_at us) at) (links_at (set us at c.replace.new.dest)) c.unlink-left.result (rw c.replace.ensures.after (links-filled us at c.args.item (vacant_within us at c.unlink-left.ensures.vacant))) c.unlink-left.ensures.chained

pub offset_bounds-slots-at : goal.offset_bounds-slots-at
offset_bounds-slots-at g c = grind (arith, common_steps)

pub bounds-slots-at : goal.bounds-slots-at
bounds-slots-at g c = grind (arith, common_steps)

pub unreachable-requires : goal.unreachable-requires
unreachable-requires g c = grind (arith, common_steps)
