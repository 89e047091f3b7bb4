use Rattle.std.proofs.Common.{ap, subst, arith}
use Rattle.iddqd_store.specs.Hashing.{hash_under}
use Rattle.iddqd_hash.specs.HashMap.{KeepsSpare}
use Rattle.iddqd_hash_parts.specs.StoreAndIndex.{map_of}
use Rattle.iddqd_hash_parts.proofs.MapLemmas.{emptied_keyed, emptied_spare}
use Rattle.iddqd_hash_parts.proofs.StoreAndIndexLemmas.{paired_empty}
use Rattle.iddqd_hash_parts.specs.HashItems.{IsKeyed}
use Rattle.iddqd_hash.proofs.id_hash_map.IdHashMap.clear.Goals as goal

pub invariant_of-self : goal.invariant_of-self
invariant_of-self g c = paired_empty c.clear.new.self c.clear-2.new.self.pairs (ap (λ s. s.slots) c.clear.ensures) c.clear-2.ensures.pairs

pub returns-clause-stays : goal.returns-clause-stays
unfolding IsKeyed
returns-clause-stays g c =
    let m = c.self.inside in
    let new = map_of c.clear.new.self c.clear-2.new.self m.hasher in
    let none = ap (λ s. s.slots) c.clear.ensures in
    let capacity = ap (λ s. s.capacity) c.clear.ensures in
    record {
      keyed = emptied_keyed _ _ _ _ _ c.clear.new.self c.clear-2.new.self none;
      spare = subst (λ old. KeepsSpare old new) c.self.view_is
          (emptied_spare g.T.IdHashItem.key g.T.Key.PartialEq.eq g.T.Key.Hash.hash_input (hash_under g.S.BuildHasher g.S.Hasher.Hasher) m.hasher m.store c.clear.new.self m.index c.clear-2.new.self c.self.invariant (paired_empty c.clear.new.self c.clear-2.new.self.pairs none c.clear-2.ensures.pairs) c.clear-2.ensures.spare none (omega (arith, capacity)) (ap (λ s. s.limit) c.clear.ensures));
      hasher = ap (λ v. v.hasher) c.self.view_is;
    }
