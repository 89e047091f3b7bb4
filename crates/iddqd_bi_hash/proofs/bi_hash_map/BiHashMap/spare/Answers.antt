use Rattle.iddqd_bi_hash.proofs.BothLemmas.{fits}
use Rattle.iddqd_bi_hash.proofs.bi_hash_map.BiHashMap.spare.Goals as goal

pub returns-clause-spare_fits : goal.returns-clause-spare_fits
returns-clause-spare_fits g c =
    let m = c.self.inside in
    fits m.hasher m.store m.index1 m.index2 c.self.invariant _ c.self.view_is
