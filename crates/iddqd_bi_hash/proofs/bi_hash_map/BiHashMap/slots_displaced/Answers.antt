use Rattle.std.proofs.Common.{◌∙◌, sym, ap, subst}
use Rattle.std.specs.List.{AllByRecursion, filter_map}
use Rattle.iddqd_store.specs.Hashing.{hash_under}
use Rattle.iddqd_store.specs.SlotItems.{item_of_slot}
use Rattle.iddqd_hash_parts.specs.HashItems.{FindsSlot}
use Rattle.iddqd_bi_hash.specs.BiHashItems.{by_key1, by_key2, differ_by_key1, differ_by_key2}
use Rattle.iddqd_bi_hash.specs.BiHashMap.{IsOccupied}
use Rattle.iddqd_bi_hash.proofs.SlotsLemmas.{found_items, found_there}
use Rattle.iddqd_bi_hash.proofs.bi_hash_map.BiHashMap.slots_displaced.Goals as goal

pub slot_by_key1-one-requires-clause-hash : goal.slot_by_key1-one-requires-clause-hash
slot_by_key1-one-requires-clause-hash g c k akin =
    let hash = hash_under g.S.BuildHasher g.S.Hasher.Hasher c.args.self.now.hasher in
    ap hash (sym (g.met.T.K1.Hash.respects_eq c.key1.result.now k akin) ∙ ap g.T.K1.Hash.hash_input c.key1.ensures) ∙ sym c.requires.hashes.one

pub slot_by_key2-other-requires-clause-hash : goal.slot_by_key2-other-requires-clause-hash
slot_by_key2-other-requires-clause-hash g c k akin =
    let hash = hash_under g.S.BuildHasher g.S.Hasher.Hasher c.args.self.now.hasher in
    ap hash (sym (g.met.T.K2.Hash.respects_eq c.key2.result.now k akin) ∙ ap g.T.K2.Hash.hash_input c.key2.ensures) ∙ sym c.requires.hashes.other

pub returns-clause-there : goal.returns-clause-there
returns-clause-there g c =
    let now = c.args.self.now in
    let one = c.slot_by_key1-one in
    let other = c.slot_by_key2-other in
    subst (AllByRecursion (IsOccupied now)) (sym c.slots_once.ensures) (found_there (IsOccupied now) one.result other.result one.ensures.slot.there other.ensures.slot.there)

pub returns-clause-met : goal.returns-clause-met
returns-clause-met g c =
    let now = c.args.self.now in
    let x = c.args.item.now in
    let one = c.slot_by_key1-one in
    let other = c.slot_by_key2-other in
    let key1 = g.T.BiHashItem.key1 in
    let key2 = g.T.BiHashItem.key2 in
    let eq1 = g.T.K1.PartialEq.eq in
    let eq2 = g.T.K2.PartialEq.eq in
    let laws1 = g.met.T.K1.Eq.laws in
    let laws2 = g.met.T.K2.Eq.laws in
    let found1 = subst (λ k. FindsSlot key1 (eq1 k) (by_key1 now) c.args.hash1 one.result) c.key1.ensures one.ensures.slot in
    let found2 = subst (λ k. FindsSlot key2 (eq2 k) (by_key2 now) c.args.hash2 other.result) c.key2.ensures other.ensures.slot in
    ap (filter_map (item_of_slot now.slots now.items)) c.slots_once.ensures
    ∙ found_items key1 key2 laws1 laws2 (eq1 (key1 x)) (eq2 (key2 x)) (laws1.congr (key1 x)) (laws2.congr (key2 x)) now.slots now.items
    (differ_by_key1 _ _ _ _ _ _ _ now c.requires.keyed) (differ_by_key2 _ _ _ _ _ _ _ now c.requires.keyed) one.result other.result found1.item found2.item found1.only found2.only
