use Rattle.std.proofs.Common.{◌∙◌, ◌≡◌, sym, ap, subst}
use Rattle.iddqd_store.specs.Hashing.{hash_under}
use Rattle.iddqd_hash_parts.specs.SlotsFound.{values_if_any}
use Rattle.iddqd_hash_parts.specs.StoreAndIndex.{IsOnlySlot}
use Rattle.iddqd_hash_parts.proofs.SlotsFoundLemmas.{slots_passing}
use Rattle.iddqd_bi_hash.specs.TwoKeys.{has_one_of_keys}
use Rattle.iddqd_bi_hash.proofs.BothLemmas.{differ1, differ2, hashed1, hashed2}
use Rattle.iddqd_bi_hash.proofs.MetLemmas.{met_items, met_slots, met_there}
use Rattle.iddqd_bi_hash.proofs.bi_hash_map.BiHashMap.slots_met.Given.{Over}
use Rattle.iddqd_bi_hash.proofs.bi_hash_map.BiHashMap.slots_met.Goals as goal

pub find_slot-one-requires-clause-differ : goal.find_slot-one-requires-clause-differ
find_slot-one-requires-clause-differ g c =
    let m = c.self.inside in
    differ1 _ _ _ _ _ _ _ m.hasher m.store m.index1 m.index2 _ c.self.view_is c.requires.keyed

pub find_slot-one-requires-clause-stored : goal.find_slot-one-requires-clause-stored
find_slot-one-requires-clause-stored g c =
    let m = c.self.inside in
    let hash = hash_under g.S.BuildHasher g.S.Hasher.Hasher c.args.self.now.hasher in
    let k = c.key1.result.now in
    hashed1 _ _ _ _ _ _ _ m.hasher m.store m.index1 m.index2 _ c.self.view_is c.requires.keyed (g.T.K1.PartialEq.eq k) c.args.hash1
    (λ l akin. ap hash (sym (g.met.T.K1.Hash.respects_eq k l akin) ∙ ap g.T.K1.Hash.hash_input c.key1.ensures) ∙ sym c.requires.hashes.one)

pub find_slot-other-requires-clause-differ : goal.find_slot-other-requires-clause-differ
find_slot-other-requires-clause-differ g c =
    let m = c.self.inside in
    differ2 _ _ _ _ _ _ _ m.hasher m.store m.index1 m.index2 _ c.self.view_is c.requires.keyed

pub find_slot-other-requires-clause-stored : goal.find_slot-other-requires-clause-stored
find_slot-other-requires-clause-stored g c =
    let m = c.self.inside in
    let hash = hash_under g.S.BuildHasher g.S.Hasher.Hasher c.args.self.now.hasher in
    let k = c.key2.result.now in
    hashed2 _ _ _ _ _ _ _ m.hasher m.store m.index1 m.index2 _ c.self.view_is c.requires.keyed (g.T.K2.PartialEq.eq k) c.args.hash2
    (λ l akin. ap hash (sym (g.met.T.K2.Hash.respects_eq k l akin) ∙ ap g.T.K2.Hash.hash_input c.key2.ensures) ∙ sym c.requires.hashes.other)

passing : (g : Over) (c : goal.After-rising_slots g) → values_if_any c.rising_slots.result ≡ slots_passing c.self.inside.store (has_one_of_keys g.T.BiHashItem.key1 g.T.BiHashItem.key2 g.T.K1.PartialEq.eq g.T.K2.PartialEq.eq c.args.item.now)
passing g c =
    let store = c.self.inside.store in
    let one = c.find_slot-one.result in
    let other = c.find_slot-other.result in
    let only1 = subst (λ k. IsOnlySlot g.T.BiHashItem.key1 (g.T.K1.PartialEq.eq k) store one) c.key1.ensures c.find_slot-one.ensures.only in
    let only2 = subst (λ k. IsOnlySlot g.T.BiHashItem.key2 (g.T.K2.PartialEq.eq k) store other) c.key2.ensures c.find_slot-other.ensures.only in
    c.rising_slots.ensures ∙ met_slots g.T.BiHashItem.key1 g.T.BiHashItem.key2 g.T.K1.PartialEq.eq g.T.K2.PartialEq.eq c.args.item.now store one other only1 only2

pub returns-clause-there : goal.returns-clause-there
returns-clause-there g c =
    let m = c.self.inside in
    met_there g.T.BiHashItem.key1 g.T.BiHashItem.key2 g.T.K1.PartialEq.eq g.T.K2.PartialEq.eq c.args.item.now m.hasher m.store m.index1 m.index2 _ c.self.view_is _ (passing g c)

pub returns-clause-met : goal.returns-clause-met
returns-clause-met g c =
    let m = c.self.inside in
    met_items g.T.BiHashItem.key1 g.T.BiHashItem.key2 g.T.K1.PartialEq.eq g.T.K2.PartialEq.eq c.args.item.now m.hasher m.store m.index1 m.index2 _ c.self.view_is _ (passing g c)
