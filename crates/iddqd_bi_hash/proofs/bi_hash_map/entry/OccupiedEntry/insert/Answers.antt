use Rattle.std.proofs.Common.{◌≤◌, ◌∙◌, IsSome, ap, length, nat_eq, subst, sym}
use Rattle.std.specs.List.{IsDistinct, filter_map}
use Rattle.iddqd_store.specs.Contents.{AddsItem}
use Rattle.iddqd_store.specs.SlotItems.{item_of_slot}
use Rattle.iddqd_bi_hash.specs.BiHashMap.{AreOccupied}
use Rattle.iddqd_bi_hash.specs.TwoKeys.{items_met, without_slots}
use Rattle.iddqd_bi_hash.proofs.MetLemmas.{none_met}
use Rattle.iddqd_bi_hash.proofs.SlotsLemmas.{pair_apart, pair_few, pair_occupied}
use Rattle.iddqd_bi_hash.proofs.bi_hash_map.entry.OccupiedEntry.insert.Goals as goal

pub replace_slots-requires-clause-there : goal.replace_slots-requires-clause-there
replace_slots-requires-clause-there g c =
    let e = c.args.self in
    subst (AreOccupied e.map.now) (sym c.few_slots-slots.ensures) (pair_occupied (λ slot. IsSome (item_of_slot e.map.now.slots e.map.now.items slot)) e.first e.second e.there1 e.there2)

pub replace_slots-requires-clause-each_once : goal.replace_slots-requires-clause-each_once
replace_slots-requires-clause-each_once g c = subst (IsDistinct nat_eq) (sym c.few_slots-slots.ensures) (pair_apart c.args.self.first c.args.self.second)

pub replace_slots-requires-clause-at_most_two : goal.replace_slots-requires-clause-at_most_two
replace_slots-requires-clause-at_most_two g c = subst (λ l. length l ≤ 2) (sym c.few_slots-slots.ensures) (pair_few c.args.self.first c.args.self.second)

pub replace_slots-requires-clause-absent : goal.replace_slots-requires-clause-absent
replace_slots-requires-clause-absent g c =
    let m = c.args.self.map.now in
    let x = c.args.item in
    ap (λ slots. items_met g.T.BiHashItem.key1 g.T.BiHashItem.key2 g.T.K1.PartialEq.eq g.T.K2.PartialEq.eq x (without_slots m.slots m.items slots)) c.few_slots-slots.ensures
    ∙ none_met (λ y. g.T.K1.PartialEq.eq (g.T.BiHashItem.key1 x) (g.T.BiHashItem.key1 y)) (λ y. g.T.K2.PartialEq.eq (g.T.BiHashItem.key2 x) (g.T.BiHashItem.key2 y)) _ c.requires.absent1 c.requires.absent2

pub returns : goal.returns
returns g c =
    let m = c.args.self.map.now in
    let put = c.replace_slots.ensures in
    record {
      items = put.items ∙ ap (filter_map (item_of_slot m.slots m.items)) c.few_slots-slots.ensures;
      put = subst (λ slots. AddsItem c.args.item (without_slots m.slots m.items slots) c.replace_slots.new.self.items) c.few_slots-slots.ensures put.put;
      slots = put.slots;
      vacant = put.vacant;
      capacity = put.capacity;
      limit = put.limit;
      stays = put.stays;
    }
