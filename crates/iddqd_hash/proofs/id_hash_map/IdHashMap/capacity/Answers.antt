use Rattle.std.proofs.Common.{◌+◌, ◌≤◌, length, ap, arith, subst}
use Rattle.iddqd_hash_parts.proofs.MapLemmas.{spare_held}
use Rattle.iddqd_hash.proofs.id_hash_map.IdHashMap.capacity.Goals as goal

pub returns-clause-holds : goal.returns-clause-holds
returns-clause-holds g c =
    let m = c.self.inside in
    let held = subst (λ v. v.spare + length v.items ≤ v.capacity) c.self.view_is (spare_held m.hasher m.store m.index c.self.invariant) in
    omega (arith, held, c.capacity.ensures.number, ap (λ v. v.capacity) c.self.view_is)
