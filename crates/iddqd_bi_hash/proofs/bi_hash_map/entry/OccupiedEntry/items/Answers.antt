use Rattle.std.proofs.Common.{◌∙◌, IsSome, ap, subst, sym}
use Rattle.std.specs.List.{filter_map}
use Rattle.iddqd_store.specs.Errors.{values_of}
use Rattle.iddqd_store.specs.SlotItems.{item_of_slot}
use Rattle.iddqd_bi_hash.specs.BiHashMap.{AreOccupied}
use Rattle.iddqd_bi_hash.proofs.MetLemmas.{shown_met}
use Rattle.iddqd_bi_hash.proofs.SlotsLemmas.{pair_occupied}
use Rattle.iddqd_bi_hash.proofs.bi_hash_map.entry.OccupiedEntry.items.Goals as goal

pub items_in_slots-requires : goal.items_in_slots-requires
items_in_slots-requires g c =
    let e = c.args.self.now in
    subst (AreOccupied e.map.now) (sym c.few_slots-slots.ensures) (pair_occupied (λ slot. IsSome (item_of_slot e.map.now.slots e.map.now.items slot)) e.first e.second e.there1 e.there2)

pub returns : goal.returns
returns g c =
    let e = c.args.self.now in
    shown_met (item_of_slot e.map.now.slots e.map.now.items) (values_of c.items_in_slots.result) (values_of c.few_slots-slots.result) c.items_in_slots.ensures
    ∙ ap (filter_map (item_of_slot e.map.now.slots e.map.now.items)) c.few_slots-slots.ensures
