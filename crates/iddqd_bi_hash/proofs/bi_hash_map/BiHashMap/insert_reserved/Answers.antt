use Rattle.std.proofs.Common.{◌∙◌, ap, arith, subst}
use Rattle.iddqd_store.specs.Contents.{AddsItem}
use Rattle.iddqd_store.specs.SlotItems.{written_to_slot}
use Rattle.iddqd_hash_parts.specs.StoreAndIndex.{items_in, slots_in}
use Rattle.iddqd_hash_parts.proofs.InSlotLemmas.{added_item, added_others, added_written}
use Rattle.iddqd_bi_hash.proofs.BothLemmas.{inserted}
use Rattle.iddqd_bi_hash.proofs.MetLemmas.{neither_found}
use Rattle.iddqd_bi_hash.proofs.bi_hash_map.BiHashMap.insert_reserved.Goals as goal

pub insert_in_all-requires-clause-room : goal.insert_in_all-requires-clause-room
insert_in_all-requires-clause-room g c = let spare = ap (λ v. v.spare) c.self.view_is in (omega (arith, c.requires.room, spare), omega (arith, c.requires.room, spare))

pub insert_in_all-requires-clause-listable1 : goal.insert_in_all-requires-clause-listable1
insert_in_all-requires-clause-listable1 g c = omega (arith, c.requires.room, ap (λ v. v.spare) c.self.view_is)

pub insert_in_all-requires-clause-listable2 : goal.insert_in_all-requires-clause-listable2
insert_in_all-requires-clause-listable2 g c = omega (arith, c.requires.room, ap (λ v. v.spare) c.self.view_is)

pub returns-clause-inserted : goal.returns-clause-inserted
returns-clause-inserted g c =
    let m = c.self.inside in
    let put = c.insert_in_all in
    let new = put.new in
    let done = put.ensures in
    let x = c.args.item in
    let none = neither_found (λ y. g.T.K1.PartialEq.eq (g.T.BiHashItem.key1 x) (g.T.BiHashItem.key1 y)) (λ y. g.T.K2.PartialEq.eq (g.T.BiHashItem.key2 x) (g.T.BiHashItem.key2 y)) c.args.self.now.items c.requires.absent in
    inserted _ _ _ _ _ _ _ m.hasher m.store new.store m.index1 m.index2 new.index1 new.index2 c.self.invariant done.paired _ c.self.view_is g.met.T.K1.Eq.laws g.met.T.K2.Eq.laws c.requires.keyed x put.result c.args.hash1 c.args.hash2 none.0 none.1
    c.requires.room c.requires.hashes.one c.requires.hashes.other done.pairs1 done.pairs2 done.was_vacant done.updates done.spare1 done.spare2 done.len done.vacant done.bounds

pub returns-clause-capacity : goal.returns-clause-capacity
returns-clause-capacity g c = c.insert_in_all.ensures.bounds.capacity ∙ ap (λ v. v.capacity) c.self.view_is

pub returns-clause-there : goal.returns-clause-there
returns-clause-there g c =
    let old = c.self.inside.store in
    let put = c.insert_in_all in
    let new = put.new.store in
    let done = put.ensures in
    record {
      there = added_item old new put.result c.args.item done.was_vacant done.updates;
      written = λ w. subst (λ v. AddsItem w v.items (written_to_slot (slots_in new) (items_in new) put.result w)) c.self.view_is (added_written old new put.result c.args.item done.was_vacant done.updates w);
      others = added_others old new put.result c.args.item done.was_vacant done.updates ∙ ap (λ v. v.items) c.self.view_is;
    }
