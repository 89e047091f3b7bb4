use Rattle.std.proofs.Common.{◌∙◌, refl, sym, ap, subst}
use Rattle.iddqd_store.specs.Contents.{AddsItem}
use Rattle.iddqd_store.specs.SlotItems.{written_to_slot}
use Rattle.iddqd_store.specs.Refusal.{refusal_kind}
use Rattle.iddqd_store.proofs.RefusalLemmas.{kind_by_length}
use Rattle.iddqd_hash_parts.specs.StoreAndIndex.{items_in}
use Rattle.iddqd_hash_parts.proofs.SlotItemLemmas.{length-items}
use Rattle.iddqd_bi_hash.proofs.BothLemmas.{inserted_after, kept}
use Rattle.iddqd_bi_hash.proofs.bi_hash_map.BiHashMap.insert_hashed.Goals as goal

pub returns-in-Err-clause-refused : goal.returns-in-Err-clause-refused
returns-in-Err-clause-refused g c =
    let m = c.self.inside in
    record {
      item = refl;
      absent = c.requires.absent;
      kind = c.in-Err.ensures.kind
          ∙ kind_by_length m.store.limit m.index1.pairs (items_in m.store) (c.self.invariant.one.counted ∙ sym (length-items m.store.slots))
          ∙ ap (λ v. refusal_kind v.limit v.items) c.self.view_is;
      no_spare = sym (ap (λ v. v.spare) c.self.view_is) ∙ c.in-Err.ensures.needed;
    }

pub returns-in-Err-clause-kept : goal.returns-in-Err-clause-kept
returns-in-Err-clause-kept g c =
    let m = c.self.inside in
    let room = c.reserve_one.new in
    let grown = c.reserve_one.ensures in
    kept _ _ _ _ _ _ _ m.hasher m.store room.store m.index1 m.index2 room.index1 room.index2 c.self.invariant grown.paired _ c.self.view_is c.requires.keyed grown.grows1 grown.grows2

pub insert_reserved-requires-clause-keyed : goal.insert_reserved-requires-clause-keyed
insert_reserved-requires-clause-keyed g c =
    let m = c.self.inside in
    let room = c.reserve_one.new in
    let grown = c.reserve_one.ensures in
    (kept _ _ _ _ _ _ _ m.hasher m.store room.store m.index1 m.index2 room.index1 room.index2 c.self.invariant grown.paired _ c.self.view_is c.requires.keyed grown.grows1 grown.grows2).stays.keyed

pub returns-clause-inserted : goal.returns-clause-inserted
returns-clause-inserted g c =
    let m = c.self.inside in
    let room = c.reserve_one.new in
    let grown = c.reserve_one.ensures in
    inserted_after _ c.args.item _ _ _ (kept _ _ _ _ _ _ _ m.hasher m.store room.store m.index1 m.index2 room.index1 room.index2 c.self.invariant grown.paired _ c.self.view_is c.requires.keyed grown.grows1 grown.grows2) c.insert_reserved.ensures.inserted

pub returns-clause-there : goal.returns-clause-there
returns-clause-there g c =
    let m = c.self.inside in
    let room = c.reserve_one.new in
    let grown = c.reserve_one.ensures in
    let new = c.insert_reserved.new.self in
    let there = c.insert_reserved.ensures.there in
    let same = (kept _ _ _ _ _ _ _ m.hasher m.store room.store m.index1 m.index2 room.index1 room.index2 c.self.invariant grown.paired _ c.self.view_is c.requires.keyed grown.grows1 grown.grows2).keeps.items in
    record {
      there = there.there;
      written = λ w. subst (λ items. AddsItem w items (written_to_slot new.slots new.items c.insert_reserved.result w)) same (there.written w);
      others = there.others ∙ same;
    }
