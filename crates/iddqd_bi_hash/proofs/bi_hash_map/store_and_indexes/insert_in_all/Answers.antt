use Rattle.iddqd_hash_parts.proofs.StoreAndIndexLemmas.{paired_added}
use Rattle.iddqd_bi_hash.proofs.bi_hash_map.store_and_indexes.insert_in_all.Goals as goal

pub returns-clause-paired : goal.returns-clause-paired
returns-clause-paired g c =
    let put = c.insert_in_both-slot in
    let done = put.ensures in
    record {
      one = done.paired;
      other = paired_added c.args.store.now put.new.store c.args.index2.now.pairs c.add_reserved.new.self.pairs c.requires.paired.other c.args.hash2 put.result c.args.item c.add_reserved.ensures.pairs done.was_vacant done.updates done.len c.requires.room.0 c.requires.room.1 done.bounds.capacity done.bounds.limit;
    }
