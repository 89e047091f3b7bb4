use Rattle.std.proofs.Common.{◌∙◌, ap}
use Rattle.iddqd_bi_hash.specs.TwoKeys.{has_one_of_keys, items_met}
use Rattle.iddqd_bi_hash.proofs.DisplacedLemmas.{none_left}
use Rattle.iddqd_bi_hash.proofs.bi_hash_map.BiHashMap.insert_or_remove.Goals as goal

pub insert_hashed-requires-clause-absent : goal.insert_hashed-requires-clause-absent
insert_hashed-requires-clause-absent g c =
    let x = c.args.item in
    ap (items_met g.T.BiHashItem.key1 g.T.BiHashItem.key2 g.T.K1.PartialEq.eq g.T.K2.PartialEq.eq x) c.remove_met.ensures.items
    ∙ none_left (has_one_of_keys g.T.BiHashItem.key1 g.T.BiHashItem.key2 g.T.K1.PartialEq.eq g.T.K2.PartialEq.eq x) c.args.self.now.items
