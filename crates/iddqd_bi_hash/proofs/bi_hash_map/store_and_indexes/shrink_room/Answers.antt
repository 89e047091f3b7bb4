use Rattle.std.proofs.Common.{◌+◌, ◌-◌, ◌≤◌, min, refl, sym, ap, arith, subst}
use Rattle.iddqd_store.specs.Store.{store_len}
use Rattle.iddqd_hash_parts.proofs.StoreAndIndexLemmas.{paired_room}
use Rattle.iddqd_bi_hash.proofs.PairedLemmas.{least_room}
use Rattle.iddqd_bi_hash.proofs.bi_hash_map.store_and_indexes.shrink_room.Goals as goal

pub returns-in_err-shrink-clause-paired : goal.returns-in_err-shrink-clause-paired
returns-in_err-shrink-clause-paired g c =
    let store = c.args.store.now in
    let paired = c.requires.paired in
    record {
      one = paired.one;
      other = paired_room store store c.args.index2.now.pairs c.shrink.new.self.pairs paired.other refl paired.other.in_memory c.shrink.ensures.pairs;
    }

pub returns-clause-paired : goal.returns-clause-paired
returns-clause-paired g c =
    let room = c.shrink_room.ensures in
    record {
      one = room.paired;
      other = paired_room c.args.store.now c.shrink_room.new.store c.args.index2.now.pairs c.shrink.new.self.pairs c.requires.paired.other room.store room.keeps_items c.shrink.ensures.pairs;
    }

pub returns-clause-spare : goal.returns-clause-spare
returns-clause-spare g c =
    let old = c.args.store.now in
    let new = c.shrink_room.new.store in
    let one = c.args.index1.now.spare in
    let one' = c.shrink_room.new.index.spare in
    let other = c.args.index2.now.spare in
    let other' = c.shrink.new.self.spare in
    let n = store_len old in
    let room = min (old.capacity - n) (old.limit - n) in
    let least = c.args.min in
    let len = ap store_len c.shrink_room.ensures.store in
    let first = subst (λ k. min least (min one room + n) ≤ min one' (min (new.capacity - k) (new.limit - k)) + k) len c.shrink_room.ensures.spare in
    let second : min least (other + n) ≤ other' + n = omega (arith, c.shrink.ensures.room, c.requires.paired.other.counted, (returns-clause-paired g c).other.counted, len) in
    subst (λ k. min least (min (min one other) room + n) ≤ min (min one' other') (min (new.capacity - k) (new.limit - k)) + k) (sym len)
    (least_room least one other room n one' other' (min (new.capacity - n) (new.limit - n)) first second)
