use Rattle.std.proofs.Common.{◌∙◌, sym, rules}
use Rattle.iddqd_store.proofs.WrittenLemmas.{PlaceRead, place_read}
use Rattle.iddqd_ord.proofs.id_ord_map.entry.OccupiedEntry.remove.Given.{Over}
use Rattle.iddqd_ord.proofs.id_ord_map.entry.OccupiedEntry.remove.Goals as goal

read : (g : Over) (c : goal.After-take_at_place g) → PlaceRead c.args.self.map.now.slots c.args.self.map.now.items c.args.self.place c.args.self.slot
read g c =
    let e = c.args.self in
    place_read e.map.now.slots e.map.now.items e.place e.slot c.take_at_place.ensures.own e.placed

pub returns-clause-value : goal.returns-clause-value
returns-clause-value g c = (read g c).item ∙ c.take_at_place.ensures.item

pub returns-clause-items : goal.returns-clause-items
returns-clause-items g c = c.take_at_place.ensures.items ∙ sym (read g c).others

pub returns-clause-removed : goal.returns-clause-removed
returns-clause-removed g c = search rules

pub returns-clause-keyed : goal.returns-clause-keyed
returns-clause-keyed g c = search rules
