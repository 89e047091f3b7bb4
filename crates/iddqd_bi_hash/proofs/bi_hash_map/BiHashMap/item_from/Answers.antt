use Rattle.std.proofs.Common.{subst}
use Rattle.iddqd_bi_hash.proofs.BothLemmas.{fits}
use Rattle.iddqd_hash_parts.specs.SlotOrder.{FindsItemFrom}
use Rattle.iddqd_bi_hash.proofs.bi_hash_map.BiHashMap.item_from.Goals as goal

pub returns-clause-found : goal.returns-clause-found
returns-clause-found g c = subst (λ v. FindsItemFrom v.slots v.items c.args.from c.item_from.result) c.self.view_is c.item_from.ensures.found

pub returns-clause-spare_fits : goal.returns-clause-spare_fits
returns-clause-spare_fits g c =
    let m = c.self.inside in
    fits m.hasher m.store m.index1 m.index2 c.self.invariant _ c.self.view_is
