use Rattle.iddqd_hash_index.proofs.PairLemmas.{contains-same}
use Rattle.test_core.proofs.hash_index.CoinMap.copy.Goals as goal

pub invariant_of-self : goal.invariant_of-self
invariant_of-self c = λ hash slot held.
    c.self.invariant hash slot (contains-same c.self.inside.index.pairs c.in_ok-self-inside.field-0.pairs (hash, slot) c.in_ok-self-inside.ensures.pairs held)
