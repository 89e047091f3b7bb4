use Rattle.iddqd_hash_parts.proofs.StoreAndIndexLemmas.{paired_grown}
use Rattle.iddqd_bi_hash.proofs.bi_hash_map.store_and_indexes.reserve_room.Goals as goal

pub returns-clause-paired : goal.returns-clause-paired
returns-clause-paired g c =
    let one = c.reserve_room in
    record {
      one = one.ensures.paired;
      other = paired_grown c.args.store.now one.new.store c.args.index2.now.pairs c.try_reserve.new.self.pairs c.requires.paired.other one.ensures.grows.store one.ensures.grows.capacity c.try_reserve.ensures.pairs;
    }
