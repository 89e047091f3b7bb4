use Rattle.std.proofs.Common.{rules}
use Rattle.iddqd_ord.proofs.id_ord_map.IdOrdMap.get_index_entry.Goals as goal

pub invariant_of-result : goal.invariant_of-result
invariant_of-result g c = record { there = c.slot_at-slot.ensures.there; placed = c.slot_at-slot.ensures.placed }

pub returns : goal.returns
returns g c = search rules
