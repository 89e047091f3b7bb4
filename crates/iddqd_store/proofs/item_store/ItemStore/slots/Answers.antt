use Rattle.std.proofs.Common.{arith}
use Rattle.std.proofs.lemmas.List.{length-map}
use Rattle.iddqd_store.specs.Slots.{item_of, items_of}
use Rattle.iddqd_store.proofs.SlotLemmas.{both_counts}
use Rattle.iddqd_store.proofs.item_store.ItemStore.slots.Goals as goal

pub returns-clause-parts : goal.returns-clause-parts
returns-clause-parts g c =
    let es = c.self.inside.slots.items in
    rw (← c.self.view_is) (omega (arith, both_counts (items_of es), length-map es item_of))
