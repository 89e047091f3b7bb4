use Rattle.std.proofs.Common.{ap, rules, subst}
use Rattle.iddqd_bi_hash.specs.BiHashItems.{holding_of}
use Rattle.iddqd_bi_hash.specs.Collecting.{OverwritesAll}
use Rattle.iddqd_bi_hash.proofs.bi_hash_map.BiHashMap.from_iter.Goals as goal

pub returns-in-Ok-clause-items : goal.returns-in-Ok-clause-items
returns-in-Ok-clause-items g c =
    let took = c.in-Ok.ensures.taken in
    (took.0, took.1, subst (λ h. OverwritesAll g.T.BiHashItem.key1 g.T.BiHashItem.key2 g.T.K1.PartialEq.eq g.T.K2.PartialEq.eq took.0 h (holding_of c.extend.new.self)) (ap holding_of c.with_hasher-map.ensures.empty) took.2)

pub returns-in-Ok-clause-collected : goal.returns-in-Ok-clause-collected
returns-in-Ok-clause-collected g c = search rules
