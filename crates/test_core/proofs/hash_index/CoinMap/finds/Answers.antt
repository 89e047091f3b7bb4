use Rattle.test_core.proofs.hash_index.CoinMap.finds.Goals as goal

pub find_by_key-found-requires : goal.find_by_key-found-requires
find_by_key-found-requires c = record { occupied = c.self.invariant c.args.hash }
