use Rattle.std.proofs.Common.{◌≡◌, ◌+◌, ◌≤◌, ◌∙◌, length, IfErr, OnOk, sym, subst, rules}
use Rattle.iddqd_store.specs.Hashing.{hash_under}
use Rattle.iddqd_store.specs.Refusal.{reservation_kind}
use Rattle.iddqd_hash_parts.specs.HashItems.{IsKeyed, KeyedItems}
use Rattle.iddqd_hash.specs.HashMap.{HashKeeps}
use Rattle.iddqd_hash_parts.specs.StoreAndIndex.{map_of}
use Rattle.iddqd_hash_parts.proofs.MapLemmas.{map_kept}
use Rattle.iddqd_hash_parts.proofs.SlotItemLemmas.{length-items}
use Rattle.iddqd_hash.proofs.id_hash_map.IdHashMap.reserve.Goals as goal

pub returns-clause-reserves : goal.returns-clause-reserves
returns-clause-reserves g c =
    let room = c.reserve_room in
    let m = c.self.inside in
    let n = c.args.additional in
    let len = c.self.invariant.counted ∙ sym (length-items m.store.slots) in
    let capacity = subst (λ v. OnOk room.result (length v.items + n ≤ room.new.store.capacity)) c.self.view_is
    (subst (λ k. OnOk room.result (k + n ≤ room.new.store.capacity)) len room.ensures.in_memory) in
    let in_limit = subst (λ v. OnOk room.result (length v.items + n ≤ v.limit)) c.self.view_is
    (subst (λ k. OnOk room.result (k + n ≤ m.store.limit)) len room.ensures.in_limit) in
    search rules

pub returns-clause-refused : goal.returns-clause-refused
returns-clause-refused g c =
    let room = c.reserve_room in
    let m = c.self.inside in
    let kind = subst (λ v. IfErr room.result (λ e. e ≡ reservation_kind v.limit (length v.items + c.args.additional))) c.self.view_is
    (subst (λ n. IfErr room.result (λ e. e ≡ reservation_kind m.store.limit (n + c.args.additional))) (c.self.invariant.counted ∙ sym (length-items m.store.slots)) room.ensures.kind) in
    search rules

pub returns-clause-kept : goal.returns-clause-kept
unfolding IsKeyed
returns-clause-kept g c =
    let key = g.T.IdHashItem.key in
    let eq = g.T.Key.PartialEq.eq in
    let input = g.T.Key.Hash.hash_input in
    let hash = hash_under g.S.BuildHasher g.S.Hasher.Hasher in
    let m = c.self.inside in
    let room = c.reserve_room in
    let keyed = subst (KeyedItems key eq input hash) (sym c.self.view_is) c.requires.keyed in
    subst (λ old. HashKeeps (KeyedItems key eq input hash) old (map_of room.new.store room.new.index m.hasher)) c.self.view_is
    (map_kept key eq input hash m.hasher m.store room.new.store m.index room.new.index c.self.invariant room.ensures.paired keyed room.ensures.grows.store room.ensures.grows.capacity room.ensures.grows.pairs room.ensures.grows.spare)
