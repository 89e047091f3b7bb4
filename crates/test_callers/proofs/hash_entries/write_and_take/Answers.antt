use Rattle.std.proofs.Common.{refl, rules}
use Rattle.test_callers.proofs.hash_entries.write_and_take.Goals as goal

pub remove-requires : goal.remove-requires
remove-requires c = record { keyed = c.get_mut.ensures.keyed (search rules) _ refl }
