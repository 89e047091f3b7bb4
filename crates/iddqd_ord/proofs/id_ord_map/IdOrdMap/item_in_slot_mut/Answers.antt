use Rattle.std.proofs.Common.{◌∙◌, sym, ap, refl}
use Rattle.iddqd_store.specs.SlotItems.{item_of_slot, written_to_slot}
use Rattle.iddqd_ord.proofs.GetMutLemmas.{here, item_in_slot, lent_items, lent_paired, lent_vacant}
use Rattle.iddqd_ord.proofs.id_ord_map.IdOrdMap.item_in_slot_mut.Goals as goal

pub get_mut-requires : goal.get_mut-requires
get_mut-requires g c =
    let m = c.self.inside in
    here m.store m.index.slots c.args.slot c.self.invariant (rw (← c.self.view_is) at c.requires)

pub invariant_of-self-lent : goal.invariant_of-self-lent
invariant_of-self-lent g c w =
    let m = c.self.inside in
    lent_paired m.store m.index.slots c.args.slot c.self.invariant (rw (← c.self.view_is) at c.requires) w

pub returns : goal.returns
returns g c =
    let m = c.self.inside in
    let slot = c.args.slot in
    let some = rw (← c.self.view_is) at c.requires in (
      (
        refl,
        λ w.
            let items = lent_items m.store m.index.slots slot c.self.invariant some w ∙ ap (λ v. written_to_slot v.slots v.items slot w) c.self.view_is in
            let slots = ap (λ v. v.slots) c.self.view_is in
            let vacant = lent_vacant m.store m.index.slots slot c.self.invariant some w ∙ ap (λ v. v.vacant) c.self.view_is in
            let capacity = ap (λ v. v.capacity) c.self.view_is in
            let limit = ap (λ v. v.limit) c.self.view_is in
            cc,
      ),
      record {
        writes_back = tt;
        value =
            ap (λ v. item_of_slot v.slots v.items slot) (sym c.self.view_is)
            ∙ item_in_slot m.store m.index.slots slot c.self.invariant.occupied some
            ∙ c.get_mut.ensures.item;
      },
    )
