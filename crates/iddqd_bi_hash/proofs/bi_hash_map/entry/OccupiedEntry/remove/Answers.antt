use Rattle.std.proofs.Common.{◌≤◌, ◌∙◌, IsSome, ap, length, nat_eq, subst, sym}
use Rattle.std.specs.List.{IsDistinct, filter_map}
use Rattle.iddqd_store.specs.SlotItems.{item_of_slot}
use Rattle.iddqd_bi_hash.specs.BiHashMap.{AreOccupied}
use Rattle.iddqd_bi_hash.specs.TwoKeys.{without_slots}
use Rattle.iddqd_bi_hash.proofs.SlotsLemmas.{pair_apart, pair_few, pair_occupied}
use Rattle.iddqd_bi_hash.proofs.bi_hash_map.entry.OccupiedEntry.remove.Goals as goal

pub take_slots-requires-clause-there : goal.take_slots-requires-clause-there
take_slots-requires-clause-there g c =
    let e = c.args.self in
    subst (AreOccupied e.map.now) (sym c.few_slots-slots.ensures) (pair_occupied (λ slot. IsSome (item_of_slot e.map.now.slots e.map.now.items slot)) e.first e.second e.there1 e.there2)

pub take_slots-requires-clause-each_once : goal.take_slots-requires-clause-each_once
take_slots-requires-clause-each_once g c = subst (IsDistinct nat_eq) (sym c.few_slots-slots.ensures) (pair_apart c.args.self.first c.args.self.second)

pub take_slots-requires-clause-at_most_two : goal.take_slots-requires-clause-at_most_two
take_slots-requires-clause-at_most_two g c = subst (λ l. length l ≤ 2) (sym c.few_slots-slots.ensures) (pair_few c.args.self.first c.args.self.second)

pub returns : goal.returns
returns g c =
    let m = c.args.self.map.now in
    let taken = c.take_slots.ensures in
    record {
      items = taken.items ∙ ap (filter_map (item_of_slot m.slots m.items)) c.few_slots-slots.ensures;
      others = taken.others ∙ ap (without_slots m.slots m.items) c.few_slots-slots.ensures;
      vacant = taken.vacant;
      capacity = taken.capacity;
      limit = taken.limit;
      stays = taken.stays;
    }
