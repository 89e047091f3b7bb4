use Rattle.std.proofs.Common.{◌∙◌, sym, ap, subst}
use Rattle.iddqd_ord_index.specs.Listed.{occupied_slots}
use Rattle.iddqd_ord.specs.StoreAndIndex.{ListsOccupied}
use Rattle.iddqd_ord.proofs.StoreAndIndexLemmas.{left_slots}
use Rattle.iddqd_ord.proofs.id_ord_map.IdOrdMap.retain.Goals as goal

pub returns-clause-leaves : goal.returns-clause-leaves
returns-clause-leaves g c =
    let m = c.self.inside in
    let e = c.retain_in_store.ensures in
    let store = c.retain_in_store.new.store in
    let index = c.retain_occupied.new.self in
    let left = ap (λ i. i.slots) c.retain_occupied.ensures ∙ ap (occupied_slots store) (sym c.walk.ensures.slots) in
    let paired = subst (ListsOccupied store) (sym left) e.paired in
    left_slots m.store store m.index.slots index.slots c.self.invariant paired e.vacant e.bounds c.args.self.now c.self.view_is
