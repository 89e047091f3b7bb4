use Rattle.std.proofs.Common.{ap, arith}
use Rattle.iddqd_hash_parts.proofs.StoreAndIndexLemmas.{paired_empty}
use Rattle.iddqd_bi_hash.proofs.BothLemmas.{emptied_stays}
use Rattle.iddqd_bi_hash.proofs.bi_hash_map.BiHashMap.clear.Goals as goal

pub invariant_of-self : goal.invariant_of-self
invariant_of-self g c =
    let none = ap (λ s. s.slots) c.clear.ensures in
    record {
      one = paired_empty c.clear.new.self c.clear-2.new.self.pairs none c.clear-2.ensures.pairs;
      other = paired_empty c.clear.new.self c.clear-3.new.self.pairs none c.clear-3.ensures.pairs;
    }

pub returns-clause-stays : goal.returns-clause-stays
returns-clause-stays g c =
    let m = c.self.inside in
    emptied_stays _ _ _ _ _ _ _ m.hasher m.store c.clear.new.self m.index1 m.index2 c.clear-2.new.self c.clear-3.new.self c.self.invariant (invariant_of-self g c) _ c.self.view_is
    (ap (λ s. s.slots) c.clear.ensures) c.clear-2.ensures.spare c.clear-3.ensures.spare (let capacity = ap (λ s. s.capacity) c.clear.ensures in omega (arith, capacity)) (ap (λ s. s.limit) c.clear.ensures)
