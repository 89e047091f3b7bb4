use Rattle.std.proofs.Common.{length, ap, arith, subst}
use Rattle.iddqd_store.specs.SlotItems.{HaveSlots}
use Rattle.iddqd_hash.specs.HashMap.{SpareFits}
use Rattle.iddqd_hash_parts.proofs.MapLemmas.{spare_fits}
use Rattle.iddqd_hash_parts.proofs.SlotItemLemmas.{length-items, slots_apart}
use Rattle.iddqd_hash.proofs.id_hash_map.IdHashMap.len.Goals as goal

pub returns-clause-len : goal.returns-clause-len
returns-clause-len g c = omega (arith, c.len.ensures.items, length-items c.self.inside.store.slots, ap (λ v. length v.items) c.self.view_is)

pub returns-clause-spare_fits : goal.returns-clause-spare_fits
returns-clause-spare_fits g c =
    let m = c.self.inside in
    subst SpareFits c.self.view_is (spare_fits m.hasher m.store m.index c.self.invariant)

pub returns-clause-slots : goal.returns-clause-slots
returns-clause-slots g c = subst (λ v. HaveSlots v.slots v.items) c.self.view_is (slots_apart c.self.inside.store.slots)
