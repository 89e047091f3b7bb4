use Rattle.std.proofs.Common.{◌≡◌, ◌+◌, ◌≤◌, ◌∙◌, length, IfErr, OnOk, sym, subst, rules}
use Rattle.iddqd_store.specs.Refusal.{reservation_kind}
use Rattle.iddqd_hash_parts.proofs.SlotItemLemmas.{length-items}
use Rattle.iddqd_bi_hash.proofs.BothLemmas.{kept}
use Rattle.iddqd_bi_hash.proofs.bi_hash_map.BiHashMap.reserve.Goals as goal

pub returns-clause-reserves : goal.returns-clause-reserves
returns-clause-reserves g c =
    let room = c.reserve_room in
    let m = c.self.inside in
    let n = c.args.additional in
    let len = c.self.invariant.one.counted ∙ sym (length-items m.store.slots) in
    let capacity = subst (λ v. OnOk room.result (length v.items + n ≤ room.new.store.capacity)) c.self.view_is
    (subst (λ k. OnOk room.result (k + n ≤ room.new.store.capacity)) len room.ensures.in_memory) in
    let in_limit = subst (λ v. OnOk room.result (length v.items + n ≤ v.limit)) c.self.view_is
    (subst (λ k. OnOk room.result (k + n ≤ m.store.limit)) len room.ensures.in_limit) in
    search rules

pub returns-clause-refused : goal.returns-clause-refused
returns-clause-refused g c =
    let room = c.reserve_room in
    let m = c.self.inside in
    let kind = subst (λ v. IfErr room.result (λ e. e ≡ reservation_kind v.limit (length v.items + c.args.additional))) c.self.view_is
    (subst (λ n. IfErr room.result (λ e. e ≡ reservation_kind m.store.limit (n + c.args.additional))) (c.self.invariant.one.counted ∙ sym (length-items m.store.slots)) room.ensures.kind) in
    search rules

pub returns-clause-kept : goal.returns-clause-kept
returns-clause-kept g c =
    let m = c.self.inside in
    let room = c.reserve_room in
    kept _ _ _ _ _ _ _ m.hasher m.store room.new.store m.index1 m.index2 room.new.index1 room.new.index2 c.self.invariant room.ensures.paired _ c.self.view_is c.requires.keyed room.ensures.grows1 room.ensures.grows2
