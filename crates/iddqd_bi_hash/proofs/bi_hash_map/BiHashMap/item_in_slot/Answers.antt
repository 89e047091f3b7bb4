use Rattle.std.proofs.Common.{◌∙◌, sym, ap, is_some}
use Rattle.iddqd_store.specs.SlotItems.{item_of_slot}
use Rattle.iddqd_hash_parts.proofs.GetMutLemmas.{item_in_slot}
use Rattle.iddqd_bi_hash.proofs.bi_hash_map.BiHashMap.item_in_slot.Goals as goal

pub item-requires : goal.item-requires
item-requires g c =
    let m = c.self.inside in
    ap is_some (sym (item_in_slot m.store.slots c.args.slot)) ∙ (rw (← c.self.view_is) at c.requires)

pub returns : goal.returns
returns g c =
    let m = c.self.inside in
    ap (λ v. item_of_slot v.slots v.items c.args.slot) (sym c.self.view_is)
    ∙ item_in_slot m.store.slots c.args.slot
    ∙ c.item.ensures
