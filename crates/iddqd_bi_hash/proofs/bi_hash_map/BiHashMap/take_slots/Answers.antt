use Rattle.std.proofs.Common.{◌∙◌, arith, nat_eq, subst}
use Rattle.std.specs.List.{IsDistinct}
use Rattle.iddqd_store.specs.Errors.{values_of}
use Rattle.iddqd_bi_hash.specs.BiHashMap.{AreOccupied}
use Rattle.iddqd_bi_hash.proofs.BothLemmas.{stays_on}
use Rattle.iddqd_bi_hash.proofs.SlotsLemmas.{apart_slots, one_fewer, still_occupied, took_one, took_two}
use Rattle.iddqd_bi_hash.proofs.bi_hash_map.BiHashMap.take_slots.Goals as goal

pub returns-in-One : goal.returns-in-One
returns-in-One g c =
    let old = c.args.self.now in
    let new = c.take_slot.new.self in
    let out = c.take_slot.ensures in
    let took = took_one old new c.in-One.slot c.take_slot.result out.value out.gone in
    rw c.in-One.is (record {
      items = took.0;
      others = took.1;
      vacant = out.removed.vacant;
      room = omega (arith, one_fewer old new c.in-One.slot c.take_slot.result out.value out.gone, out.stays.spare.never_less);
      capacity = out.removed.capacity;
      limit = out.removed.limit;
      stays = out.stays;
    })

pub take_slot-requires-in-Two-clause-there : goal.take_slot-requires-in-Two-clause-there
take_slot-requires-in-Two-clause-there g c =
    let old = c.args.self.now in
    let first = c.take_slot-first in
    let apart = apart_slots c.in-Two.one c.in-Two.other (subst (λ slots. IsDistinct nat_eq (values_of slots)) c.in-Two.is c.requires.each_once) in
    let there = subst (λ slots. AreOccupied old (values_of slots)) c.in-Two.is c.requires.there in
    still_occupied old first.new.self c.in-Two.one c.in-Two.other first.result first.ensures.value first.ensures.gone apart there.1.0

pub returns-in-Two : goal.returns-in-Two
returns-in-Two g c =
    let old = c.args.self.now in
    let first = c.take_slot-first in
    let second = c.take_slot-in-Two in
    let mid = first.new.self in
    let new = second.new.self in
    let apart = apart_slots c.in-Two.one c.in-Two.other (subst (λ slots. IsDistinct nat_eq (values_of slots)) c.in-Two.is c.requires.each_once) in
    let took = took_two old mid c.in-Two.one c.in-Two.other first.result first.ensures.value first.ensures.gone apart new second.result second.ensures.value second.ensures.gone in
    rw c.in-Two.is (record {
      items = took.0;
      others = took.1;
      vacant = omega (arith, first.ensures.removed.vacant, second.ensures.removed.vacant);
      room = omega (arith, one_fewer mid new c.in-Two.other second.result second.ensures.value second.ensures.gone, second.ensures.stays.spare.never_less);
      capacity = second.ensures.removed.capacity ∙ first.ensures.removed.capacity;
      limit = second.ensures.removed.limit ∙ first.ensures.removed.limit;
      stays = stays_on _ old mid new first.ensures.stays second.ensures.stays;
    })
