use Rattle.std.proofs.Common.{subst}
use Rattle.iddqd_hash.specs.HashMap.{SpareFits}
use Rattle.iddqd_hash_parts.proofs.MapLemmas.{spare_fits}
use Rattle.iddqd_hash_parts.specs.SlotOrder.{FindsItemFrom}
use Rattle.iddqd_hash.proofs.id_hash_map.IdHashMap.item_from.Goals as goal

pub returns-clause-found : goal.returns-clause-found
returns-clause-found g c = subst (λ v. FindsItemFrom v.slots v.items c.args.from c.item_from.result) c.self.view_is c.item_from.ensures.found

pub returns-clause-spare_fits : goal.returns-clause-spare_fits
returns-clause-spare_fits g c =
    let m = c.self.inside in
    subst SpareFits c.self.view_is (spare_fits m.hasher m.store m.index c.self.invariant)
