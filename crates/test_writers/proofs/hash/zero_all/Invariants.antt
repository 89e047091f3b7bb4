use Rattle.std.proofs.Common.{◌≡◌, ◌-◌, length}
use Rattle.std.specs.Hash as fed
use Rattle.std.specs.Prelude.{◌==◌}
use Rattle.iddqd.specs.Hashing.{hash_under}
use Rattle.iddqd.specs.IdHashMap.{IsKeyed, walk_done, walk_map, walk_lender}
use Rattle.test_writers.specs.Zeroed.{zeroed, changed_to}
use Rattle.test_writers.proofs.hash.zero_all.Given as goal

abbrev pub invariant-loop-pair : goal.invariant-loop-pair
invariant-loop-pair g l =
    (walk_lender l.walk ≡ walk_lender l.initial.walk)
    × (walk_map l.walk ≡ record l.fn.all { items = changed_to zeroed l.fn.all.items (walk_done l.walk) })
    × IsKeyed (λ p. p.key) ◌==◌ fed.u32 (hash_under g.S.BuildHasher g.S.Hasher.Hasher) (walk_map l.walk)

abbrev pub decreases-loop-pair : goal.decreases-loop-pair
decreases-loop-pair g l = length l.fn.all.items - walk_done l.walk
