use Rattle.iddqd_hash_parts.proofs.MapLemmas.{emptied_keyed}
use Rattle.iddqd_hash_parts.specs.HashItems.{IsKeyed}
use Rattle.iddqd_hash.proofs.id_hash_map.IdHashMap.over.Goals as goal

pub returns-clause-keyed : goal.returns-clause-keyed
unfolding IsKeyed
returns-clause-keyed g c = emptied_keyed _ _ _ _ _ c.args.store c.args.index c.requires.no_slot
