use Rattle.std.proofs.Common.{None, refl, sym, ap, ◌∙◌, arith}
use Rattle.std.proofs.lemmas.Grind.{common_steps}
use Rattle.std.proofs.lemmas.List.{map-set, get_or-map}
use Rattle.iddqd_store.specs.Slots.{item_of}
use Rattle.iddqd_store.proofs.SlotLemmas.{item_within, IsSound-replace}
use Rattle.iddqd_store.proofs.item_store.ItemStore.get_mut.Goals as goal

pub invariant_of-self-lent : goal.invariant_of-self-lent
invariant_of-self-lent g c w =
    IsSound-replace c.self.inside.slots.items _ _ _ c.args.slot w c.self.invariant (rw (← c.self.view_is) at c.requires)

pub returns : goal.returns
returns g c =
    let es = c.self.inside.slots.items in
    let within = item_within es c.args.slot (rw (← c.self.view_is) at c.requires) in
    let read = get_or-map item_of es c.args.slot c.index_mut.result.now None within in (
      (refl, λ w. rw (← c.self.view_is, map-set)),
      record { writes_back = tt; item = rw (← c.self.view_is) (read ∙ ap item_of (sym c.index_mut.ensures.value) ∙ c.item_mut.ensures.item) },
    )

pub index_mut-requires : goal.index_mut-requires
index_mut-requires g c = grind (arith, common_steps)

pub item_mut-requires : goal.item_mut-requires
item_mut-requires g c = grind (arith, common_steps)
