use Rattle.test_core.proofs.hash_index.CoinMap.has.Goals as goal

pub find_by_key-requires : goal.find_by_key-requires
find_by_key-requires c = record { occupied = c.self.invariant c.args.hash }
