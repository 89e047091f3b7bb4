use Rattle.std.proofs.Common.{◌∙◌, ap, arith, subst}
use Rattle.iddqd_store.specs.Contents.{AddsItem}
use Rattle.iddqd_bi_hash.specs.TwoKeys.{items_met}
use Rattle.iddqd_bi_hash.proofs.BothLemmas.{stays_on}
use Rattle.iddqd_bi_hash.proofs.SlotsLemmas.{some_values}
use Rattle.iddqd_bi_hash.proofs.bi_hash_map.BiHashMap.replace_slots.Goals as goal

pub insert_reserved-requires-clause-absent : goal.insert_reserved-requires-clause-absent
insert_reserved-requires-clause-absent g c =
    ap (items_met g.T.BiHashItem.key1 g.T.BiHashItem.key2 g.T.K1.PartialEq.eq g.T.K2.PartialEq.eq c.args.item) c.take_slots-back.ensures.others ∙ c.requires.absent

pub returns : goal.returns
returns g c =
    let new = c.insert_reserved.new.self in
    let out = c.take_slots-back.ensures in
    let put = c.insert_reserved.ensures.inserted in
    record {
      items = out.items;
      put = subst (λ items. AddsItem c.args.item items new.items) out.others put.inserts.added;
      slots = put.inserts.slots;
      vacant = omega (arith, put.inserts.vacant, out.vacant, some_values c.take_slots-back.result);
      capacity = c.insert_reserved.ensures.capacity ∙ out.capacity;
      limit = put.inserts.limit ∙ out.limit;
      stays = stays_on _ c.args.self.now c.take_slots-back.new.self new out.stays put.stays;
    }
