use Rattle.std.proofs.Common.{ap}
use Rattle.iddqd_hash_parts.proofs.StoreAndIndexLemmas.{listed_occupied, paired_removed}
use Rattle.iddqd_hash_parts.proofs.store_and_index.remove_from_both.Goals as goal

pub remove-requires-2 : goal.remove-requires-2
remove-requires-2 g c = listed_occupied c.args.store.now c.args.index.now.pairs c.requires.paired c.args.hash c.args.slot c.requires.listed

pub returns-clause-paired : goal.returns-clause-paired
returns-clause-paired g c =
    let store = c.args.store.now in
    paired_removed store c.remove-2.new.self c.args.index.now.pairs c.remove.new.self.pairs c.requires.paired c.args.hash c.args.slot c.remove.ensures.pairs c.requires.listed c.remove-2.ensures.updates c.remove-2.ensures.len (ap (λ s. s.capacity) c.remove-2.ensures.store) (ap (λ s. s.limit) c.remove-2.ensures.store)
