use Rattle.std.proofs.Common.{subst}
use Rattle.iddqd_hash.specs.HashMap.{SpareFits}
use Rattle.iddqd_hash_parts.proofs.MapLemmas.{spare_fits}
use Rattle.iddqd_hash.proofs.id_hash_map.IdHashMap.spare.Goals as goal

pub returns-clause-spare_fits : goal.returns-clause-spare_fits
returns-clause-spare_fits g c =
    let m = c.self.inside in
    subst SpareFits c.self.view_is (spare_fits m.hasher m.store m.index c.self.invariant)
