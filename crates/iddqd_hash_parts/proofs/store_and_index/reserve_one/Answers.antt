use Rattle.std.proofs.Common.{rules}
use Rattle.iddqd_hash_parts.proofs.StoreAndIndexLemmas.{paired_grown}
use Rattle.iddqd_hash_parts.proofs.store_and_index.reserve_one.Goals as goal

pub returns-clause-paired : goal.returns-clause-paired
returns-clause-paired g c =
    paired_grown c.args.store.now c.try_reserve.new.self c.args.index.now.pairs c.try_reserve-2.new.self.pairs c.requires.paired c.try_reserve.ensures.rest c.try_reserve.ensures.capacity c.try_reserve-2.ensures.pairs

pub returns-then-len-limit-clause-kind : goal.returns-then-len-limit-clause-kind
returns-then-len-limit-clause-kind g c = search rules
