use Rattle.std.proofs.Common.{refl, rules}
use Rattle.test_callers.proofs.hash_entries.write_and_lend.Goals as goal

pub into_mut-found-requires : goal.into_mut-found-requires
into_mut-found-requires c = record { keyed = c.get_mut.ensures.keyed (search rules) _ refl }
