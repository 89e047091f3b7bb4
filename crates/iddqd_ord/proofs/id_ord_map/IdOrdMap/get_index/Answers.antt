use Rattle.std.proofs.Common.{◌∙◌, sym, ap, arith, length, slice_get}
use Rattle.std.specs.Option.{option_and_then}
use Rattle.iddqd_store.specs.Store.{item_at}
use Rattle.iddqd_ord_index.specs.Listed.{listed_items}
use Rattle.iddqd_ord_index.proofs.ListedLemmas.{get-listed}
use Rattle.iddqd_ord.proofs.StoreAndIndexLemmas.{have_slots}
use Rattle.iddqd_ord.proofs.id_ord_map.IdOrdMap.get_index.Goals as goal

pub place-place-requires : goal.place-place-requires
place-place-requires g c =
    let m = c.self.inside in
    omega (arith, c.if-index-len.false, c.len.ensures.len, (have_slots m.store m.index.slots c.self.invariant).as_many, ap (λ v. length v.items) c.self.view_is)

pub slot_at-requires : goal.slot_at-requires
slot_at-requires g c =
    let m = c.self.inside in
    omega (arith, c.if-index-len.false, c.len.ensures.len, c.place-place.ensures, (have_slots m.store m.index.slots c.self.invariant).as_many, ap (λ v. length v.items) c.self.view_is)

pub returns : goal.returns
returns g c =
    let m = c.self.inside in
    let at = c.place-place.result in
    c.get.ensures
    ∙ ap (option_and_then (item_at m.store)) (sym c.slot_at.ensures)
    ∙ sym (get-listed m.store m.index.slots c.self.invariant.occupied at)
    ∙ ap (slice_get (listed_items m.store m.index.slots)) c.place-place.ensures
    ∙ ap (λ v. slice_get v.items c.args.index) c.self.view_is
