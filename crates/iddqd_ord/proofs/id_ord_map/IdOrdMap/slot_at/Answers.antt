use Rattle.std.proofs.Common.{◌∙◌, sym, subst, ap, arith, length, slice_get}
use Rattle.iddqd_store.specs.SlotItems.{HaveSlots}
use Rattle.iddqd_ord.proofs.GetMutLemmas.{slot_is_at}
use Rattle.iddqd_ord.proofs.StoreAndIndexLemmas.{have_slots}
use Rattle.iddqd_ord.proofs.id_ord_map.IdOrdMap.slot_at.Goals as goal

pub slot_at-requires : goal.slot_at-requires
slot_at-requires g c =
    let m = c.self.inside in
    omega (arith, c.requires, (have_slots m.store m.index.slots c.self.invariant).as_many, ap (λ v. length v.items) c.self.view_is)

pub returns : goal.returns
returns g c =
    let m = c.self.inside in
    let own = subst (λ v. HaveSlots v.slots v.items) c.self.view_is (have_slots m.store m.index.slots c.self.invariant) in
    slot_is_at c.args.self.now c.args.place c.slot_at.result own c.requires (ap (λ v. slice_get v.slots c.args.place) (sym c.self.view_is) ∙ c.slot_at.ensures)
