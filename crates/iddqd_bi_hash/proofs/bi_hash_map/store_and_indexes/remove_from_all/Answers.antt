use Rattle.iddqd_hash_parts.proofs.StoreAndIndexLemmas.{paired_removed}
use Rattle.iddqd_bi_hash.proofs.bi_hash_map.store_and_indexes.remove_from_all.Goals as goal

pub returns-clause-paired : goal.returns-clause-paired
returns-clause-paired g c =
    let out = c.remove_from_both in
    let done = out.ensures in
    record {
      one = done.paired;
      other = paired_removed c.args.store.now out.new.store c.args.index2.now.pairs c.remove.new.self.pairs c.requires.paired.other c.args.hash2 c.args.slot c.remove.ensures.pairs c.requires.listed2 done.updates done.len done.bounds.capacity done.bounds.limit;
    }
