use Rattle.std.proofs.Common.{refl, ap, arith}
use Rattle.iddqd_store.specs.Store.{store_len}
use Rattle.iddqd_hash_parts.proofs.StoreAndIndexLemmas.{paired_room}
use Rattle.iddqd_hash_parts.proofs.store_and_index.shrink_room.Goals as goal

pub returns-in_err-shrink-clause-paired : goal.returns-in_err-shrink-clause-paired
returns-in_err-shrink-clause-paired g c =
    let store = c.args.store.now in
    paired_room store store c.args.index.now.pairs c.shrink.new.self.pairs c.requires.paired refl c.requires.paired.in_memory c.shrink.ensures.pairs

pub returns-clause-paired : goal.returns-clause-paired
returns-clause-paired g c =
    paired_room c.args.store.now c.shrink_to.new.self c.args.index.now.pairs c.shrink.new.self.pairs c.requires.paired c.shrink_to.ensures.rest c.shrink_to.ensures.keeps_items c.shrink.ensures.pairs

pub returns-clause-spare : goal.returns-clause-spare
returns-clause-spare g c =
    let was = c.requires.paired in
    let is = returns-clause-paired g c in
    let rest = c.shrink_to.ensures.rest in
    omega (arith, c.shrink.ensures.room, c.shrink_to.ensures.keeps_room, ap store_len rest, ap (λ s. s.limit) rest, was.counted, is.counted, was.in_memory, was.in_limit, is.in_memory)
