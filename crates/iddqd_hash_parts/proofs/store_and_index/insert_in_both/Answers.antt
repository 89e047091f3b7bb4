use Rattle.iddqd_hash_parts.proofs.StoreAndIndexLemmas.{paired_added, vacant_unlisted}
use Rattle.iddqd_hash_parts.proofs.store_and_index.insert_in_both.Goals as goal

pub add_reserved-requires-clause-absent : goal.add_reserved-requires-clause-absent
add_reserved-requires-clause-absent g c =
    let put = c.insert_reserved-slot in
    vacant_unlisted c.args.store.now c.args.index.now.pairs c.requires.paired put.result put.ensures.was_vacant

pub returns-clause-paired : goal.returns-clause-paired
returns-clause-paired g c =
    let put = c.insert_reserved-slot in
    paired_added c.args.store.now put.new.self c.args.index.now.pairs c.add_reserved.new.self.pairs c.requires.paired c.args.hash put.result c.args.item c.add_reserved.ensures.pairs put.ensures.was_vacant put.ensures.updates put.ensures.len c.requires.room.0 c.requires.room.1 put.ensures.capacity put.ensures.limit
