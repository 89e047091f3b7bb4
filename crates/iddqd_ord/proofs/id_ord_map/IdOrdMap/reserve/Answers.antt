use Rattle.std.proofs.Common.{◌≡◌, ◌+◌, ◌<◌, ◌≤◌, ◌∙◌, length, Err, IfErr, OnOk, ap, subst}
use Rattle.iddqd_store.specs.Refusal.{memory_refused, reservation_kind}
use Rattle.iddqd_ord.proofs.StoreAndIndexLemmas.{listed_counted}
use Rattle.iddqd_ord.proofs.id_ord_map.IdOrdMap.reserve.Goals as goal

pub returns-clause-room : goal.returns-clause-room
returns-clause-room g c =
    let room = c.reserve_slots in
    let m = c.self.inside in
    subst (λ n. OnOk room.result (n + c.args.additional ≤ room.new.store.capacity)) (listed_counted m.store m.index.slots c.self.invariant ∙ ap (λ v. length v.items) c.self.view_is) room.ensures.room

pub returns-clause-in_limit : goal.returns-clause-in_limit
returns-clause-in_limit g c =
    let room = c.reserve_slots in
    let m = c.self.inside in
    subst (λ v. OnOk room.result (length v.items + c.args.additional ≤ v.limit)) c.self.view_is
    (subst (λ n. OnOk room.result (n + c.args.additional ≤ m.store.limit)) (listed_counted m.store m.index.slots c.self.invariant) room.ensures.in_limit)

pub returns-clause-refused : goal.returns-clause-refused
returns-clause-refused g c =
    let room = c.reserve_slots in
    let m = c.self.inside in
    subst (λ v. IfErr room.result (λ e. e ≡ reservation_kind v.limit (length v.items + c.args.additional))) c.self.view_is
    (subst (λ n. IfErr room.result (λ e. e ≡ reservation_kind m.store.limit (n + c.args.additional))) (listed_counted m.store m.index.slots c.self.invariant) room.ensures.kind)

pub returns-clause-needed : goal.returns-clause-needed
returns-clause-needed g c =
    let room = c.reserve_slots in
    let m = c.self.inside in
    subst (λ v. room.result ≡ Err memory_refused → v.capacity < length v.items + c.args.additional) c.self.view_is
    (subst (λ n. room.result ≡ Err memory_refused → m.store.capacity < n + c.args.additional) (listed_counted m.store m.index.slots c.self.invariant) room.ensures.needed)
