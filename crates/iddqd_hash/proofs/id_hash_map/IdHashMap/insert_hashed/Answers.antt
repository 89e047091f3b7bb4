use Rattle.std.proofs.Common.{◌∙◌, ◌<◌, Some, length, refl, sym, ap, subst, arith, rules}
use Rattle.std.specs.Option.{option_map}
use Rattle.iddqd_store.specs.Contents.{AddsItem, IsAbsent}
use Rattle.iddqd_store.specs.Hashing.{hash_under}
use Rattle.iddqd_hash_index.specs.HashPairs.{HasOneMore}
use Rattle.iddqd_store.specs.Refusal.{refusal_kind}
use Rattle.iddqd_store.specs.SlotItems.{item_of_slot, written_to_slot}
use Rattle.iddqd_store.proofs.RefusalLemmas.{kind_by_length}
use Rattle.iddqd_store.proofs.WrittenLemmas.{told_of_slot}
use Rattle.iddqd_hash_parts.specs.HashItems.{IsKeyed, KeyedItems}
use Rattle.iddqd_hash.specs.HashMap.{HashInserts, HashKeeps}
use Rattle.iddqd_hash_parts.specs.StoreAndIndex.{items_in, map_of}
use Rattle.iddqd_hash_parts.proofs.InSlotLemmas.{added_item, added_others, added_written}
use Rattle.iddqd_hash_parts.proofs.MapLemmas.{inserted_after, map_inserted, map_kept}
use Rattle.iddqd_hash_parts.proofs.SlotItemLemmas.{length-items}
use Rattle.iddqd_hash.proofs.id_hash_map.IdHashMap.insert_hashed.Goals as goal

pub returns-in-Err-clause-refused : goal.returns-in-Err-clause-refused
returns-in-Err-clause-refused g c =
    let m = c.self.inside in
    let kind = c.in-Err.ensures.kind
    ∙ kind_by_length m.store.limit m.index.pairs (items_in m.store) (c.self.invariant.counted ∙ sym (length-items m.store.slots))
    ∙ ap (λ v. refusal_kind v.limit v.items) c.self.view_is in
    record { back = (refl, (c.requires.absent, kind)); no_spare = sym (ap (λ v. v.spare) c.self.view_is) ∙ c.in-Err.ensures.needed }

pub returns-in-Err-clause-kept : goal.returns-in-Err-clause-kept
unfolding IsKeyed
returns-in-Err-clause-kept g c =
    let key = g.T.IdHashItem.key in
    let eq = g.T.Key.PartialEq.eq in
    let input = g.T.Key.Hash.hash_input in
    let hash = hash_under g.S.BuildHasher g.S.Hasher.Hasher in
    let m = c.self.inside in
    let room = c.reserve_one.new in
    let keyed = subst (KeyedItems key eq input hash) (sym c.self.view_is) c.requires.keyed in
    subst (λ old. HashKeeps (KeyedItems key eq input hash) old (map_of room.store room.index m.hasher)) c.self.view_is
    (map_kept key eq input hash m.hasher m.store room.store m.index room.index c.self.invariant c.reserve_one.ensures.paired keyed c.reserve_one.ensures.grows.store c.reserve_one.ensures.grows.capacity c.reserve_one.ensures.grows.pairs c.reserve_one.ensures.grows.spare)

pub returns-clause-inserted : goal.returns-clause-inserted
unfolding IsKeyed
returns-clause-inserted g c =
    let key = g.T.IdHashItem.key in
    let eq = g.T.Key.PartialEq.eq in
    let input = g.T.Key.Hash.hash_input in
    let hash = hash_under g.S.BuildHasher g.S.Hasher.Hasher in
    let m = c.self.inside in
    let room = c.reserve_one.new in
    let put = c.insert_in_both in
    let x = c.args.item in
    let keyed = subst (KeyedItems key eq input hash) (sym c.self.view_is) c.requires.keyed in
    let kept = map_kept key eq input hash m.hasher m.store room.store m.index room.index c.self.invariant c.reserve_one.ensures.paired keyed c.reserve_one.ensures.grows.store c.reserve_one.ensures.grows.capacity c.reserve_one.ensures.grows.pairs c.reserve_one.ensures.grows.spare in
    let absent = subst (λ v. IsAbsent key (eq (key x)) v.items) (sym c.self.view_is) c.requires.absent in
    let told = c.requires.hash ∙ ap (λ v. hash v.hasher (input (key x))) (sym c.self.view_is) in
    let below : length (items_in m.store) < m.store.limit = omega (arith, c.in_default.ensures.below_limit, c.self.invariant.counted, length-items m.store.slots) in
    let room_left : length (items_in room.store) < room.store.limit = omega (arith, below, ap length kept.keeps.items, kept.keeps.limit) in
    let inserted = map_inserted key eq input hash m.hasher room.store put.new.store room.index put.new.index c.reserve_one.ensures.paired put.ensures.paired g.met.T.Key.Eq.laws kept.stays.keyed x put.result
    (subst (IsAbsent key (eq (key x))) (sym kept.keeps.items) absent)
    room_left
    (subst (λ h. HasOneMore room.index.pairs put.new.index.pairs (h, put.result)) told put.ensures.pairs)
    put.ensures.was_vacant put.ensures.updates put.ensures.spare put.ensures.len put.ensures.vacant put.ensures.bounds.capacity put.ensures.bounds.limit in
    subst (λ old. HashInserts (KeyedItems key eq input hash) x old (map_of put.new.store put.new.index m.hasher)) c.self.view_is
    (inserted_after key eq input hash x (map_of m.store m.index m.hasher) (map_of room.store room.index m.hasher) (map_of put.new.store put.new.index m.hasher) kept inserted)

pub returns-clause-there : goal.returns-clause-there
unfolding IsKeyed
returns-clause-there g c =
    let key = g.T.IdHashItem.key in
    let input = g.T.Key.Hash.hash_input in
    let hash = hash_under g.S.BuildHasher g.S.Hasher.Hasher in
    let m = c.self.inside in
    let x = c.args.item in
    let room = c.reserve_one.new.store in
    let put = c.insert_in_both in
    let new = map_of put.new.store put.new.index m.hasher in
    let slot = put.result in
    let tell = λ (y : g.row.T.Denot). hash m.hasher (input (key y)) in
    let there = added_item room put.new.store slot x put.ensures.was_vacant put.ensures.updates in
    let same = ap (λ s. items_in s) c.reserve_one.ensures.grows.store ∙ ap (λ v. v.items) c.self.view_is in
    record {
      there = there;
      listed = ap (λ hashes. item_of_slot new.slots hashes slot) (returns-clause-inserted g c).stays.keyed.stored
          ∙ told_of_slot tell new.slots new.items slot
          ∙ ap (option_map tell) there
          ∙ ap (λ v. Some (hash v.hasher (input (key x)))) c.self.view_is
          ∙ ap Some (sym c.requires.hash);
      written = λ w. subst (λ items. AddsItem w items (written_to_slot new.slots new.items slot w)) same (added_written room put.new.store slot x put.ensures.was_vacant put.ensures.updates w);
      others = added_others room put.new.store slot x put.ensures.was_vacant put.ensures.updates ∙ same;
    }

pub returns-in-Err-clause-inserted : goal.returns-in-Err-clause-inserted
returns-in-Err-clause-inserted g c = search rules
