use Rattle.std.proofs.Common.{ap}
use Rattle.iddqd_ord.proofs.TakenOutLemmas.{taken_out}
use Rattle.iddqd_ord.proofs.id_ord_map.store_and_index.remove_from_both.Goals as goal

pub returns-clause-paired : goal.returns-clause-paired
returns-clause-paired g c =
    (taken_out c.args.store.now c.remove.new.self c.args.index.now.slots c.remove-slot.new.self.slots c.args.place c.remove-slot.result c.remove.result c.requires.paired c.remove-slot.ensures.slot (ap (λ i. i.slots) c.remove-slot.ensures.after) c.remove.ensures.item c.remove.ensures.updates c.remove.ensures.len).paired

pub returns-clause-item : goal.returns-clause-item
returns-clause-item g c =
    (taken_out c.args.store.now c.remove.new.self c.args.index.now.slots c.remove-slot.new.self.slots c.args.place c.remove-slot.result c.remove.result c.requires.paired c.remove-slot.ensures.slot (ap (λ i. i.slots) c.remove-slot.ensures.after) c.remove.ensures.item c.remove.ensures.updates c.remove.ensures.len).item

pub returns-clause-items : goal.returns-clause-items
returns-clause-items g c =
    (taken_out c.args.store.now c.remove.new.self c.args.index.now.slots c.remove-slot.new.self.slots c.args.place c.remove-slot.result c.remove.result c.requires.paired c.remove-slot.ensures.slot (ap (λ i. i.slots) c.remove-slot.ensures.after) c.remove.ensures.item c.remove.ensures.updates c.remove.ensures.len).items
