use Rattle.iddqd_hash_index.proofs.PairLemmas.{contains-removed}
use Rattle.test_core.proofs.hash_index.CoinMap.take.Goals as goal

pub find_by_key-requires : goal.find_by_key-requires
find_by_key-requires c = record { occupied = c.self.invariant c.args.hash }

pub invariant_of-self : goal.invariant_of-self
invariant_of-self c = λ hash slot held.
    c.self.invariant hash slot (contains-removed c.self.inside.index.pairs c.remove.new.self.pairs (c.args.hash, c.in_ok-slot.slot) (hash, slot) c.remove.ensures.pairs held)
