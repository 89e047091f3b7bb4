use Rattle.std.proofs.Common.{◌∙◌, ◌≡◌, Some, sym, subst, ap, arith, length, slice_get}
use Rattle.iddqd_store.specs.SlotItems.{HaveSlots}
use Rattle.iddqd_ord.proofs.GetMutLemmas.{slot_is_at}
use Rattle.iddqd_ord.proofs.StoreAndIndexLemmas.{have_slots}
use Rattle.iddqd_ord.proofs.id_ord_map.IdOrdMap.slot_at_position.Goals as goal

pub place-place-requires : goal.place-place-requires
place-place-requires g c =
    let m = c.self.inside in
    omega (arith, c.requires, (have_slots m.store m.index.slots c.self.invariant).as_many, ap (λ v. length v.items) c.self.view_is)

pub returns-clause-slot : goal.returns-clause-slot
returns-clause-slot g c =
    let m = c.self.inside in
    let own = subst (λ v. HaveSlots v.slots v.items) c.self.view_is (have_slots m.store m.index.slots c.self.invariant) in
    let there : slice_get m.index.slots c.args.at ≡ Some c.slot_in_turn.result = ap (slice_get m.index.slots) (sym c.place-place.ensures) ∙ c.slot_in_turn.ensures.slot in
    slot_is_at c.args.self.now c.args.at c.slot_in_turn.result own c.requires (ap (λ v. slice_get v.slots c.args.at) (sym c.self.view_is) ∙ there)

pub slot_in_turn-requires : goal.slot_in_turn-requires
slot_in_turn-requires g c =
    let m = c.self.inside in
    omega (arith, c.requires, c.place-place.ensures, (have_slots m.store m.index.slots c.self.invariant).as_many, ap (λ v. length v.items) c.self.view_is)
