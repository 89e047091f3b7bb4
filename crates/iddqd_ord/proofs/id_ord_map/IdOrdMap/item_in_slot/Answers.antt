use Rattle.std.proofs.Common.{◌∙◌, sym, ap}
use Rattle.iddqd_store.specs.SlotItems.{item_of_slot}
use Rattle.iddqd_ord.proofs.GetMutLemmas.{here, item_in_slot}
use Rattle.iddqd_ord.proofs.id_ord_map.IdOrdMap.item_in_slot.Goals as goal

pub item-requires : goal.item-requires
item-requires g c =
    let m = c.self.inside in
    here m.store m.index.slots c.args.slot c.self.invariant (rw (← c.self.view_is) at c.requires)

pub returns : goal.returns
returns g c =
    let m = c.self.inside in
    ap (λ v. item_of_slot v.slots v.items c.args.slot) (sym c.self.view_is)
    ∙ item_in_slot m.store m.index.slots c.args.slot c.self.invariant.occupied (rw (← c.self.view_is) at c.requires)
    ∙ c.item.ensures
