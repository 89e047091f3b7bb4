use Rattle.std.proofs.Common.{ap, arith}
use Rattle.iddqd_bi_hash.proofs.BothLemmas.{held}
use Rattle.iddqd_bi_hash.proofs.bi_hash_map.BiHashMap.capacity.Goals as goal

pub returns-clause-holds : goal.returns-clause-holds
returns-clause-holds g c =
    let m = c.self.inside in
    omega (arith, held m.hasher m.store m.index1 m.index2 c.self.invariant _ c.self.view_is, c.capacity.ensures.number, ap (λ v. v.capacity) c.self.view_is)
