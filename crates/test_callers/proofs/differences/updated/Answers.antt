use Rattle.std.proofs.Common.{rules}
use Rattle.iddqd_diff.proofs.SameKeysLemmas.{clones_have_equal_keys}
use Rattle.test_callers.proofs.differences.updated.Goals as goal

pub apply-requires-clause-same_keys : goal.apply-requires-clause-same_keys
apply-requires-clause-same_keys c = clones_have_equal_keys _ _ _ _ _ c.in_ok-all.ensures.items (λ x y made. search rules)
