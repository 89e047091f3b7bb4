use Rattle.iddqd_bi_hash.proofs.BothLemmas.{emptied}
use Rattle.iddqd_bi_hash.proofs.bi_hash_map.BiHashMap.over.Goals as goal

pub returns-clause-keyed : goal.returns-clause-keyed
returns-clause-keyed g c = emptied _ _ _ _ _ _ _ _ c.args.store c.args.index1 c.args.index2 c.requires.no_slot
