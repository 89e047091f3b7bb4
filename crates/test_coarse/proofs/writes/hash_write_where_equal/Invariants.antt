use Rattle.std.proofs.Common.{◌≡◌, ◌-◌, length}
use Rattle.iddqd.specs.Hashing.{hash_under}
use Rattle.iddqd.specs.IdHashMap.{IsKeyed, walk_done, walk_map, walk_lender}
use Rattle.test_coarse.proofs.writes.hash_write_where_equal.Given as goal

abbrev pub invariant-loop-each : goal.invariant-loop-each
invariant-loop-each g l =
    (walk_lender l.walk ≡ walk_lender l.initial.walk)
    × IsKeyed g.T.IdHashItem.key g.T.Key.PartialEq.eq g.T.Key.Hash.hash_input (hash_under g.S.BuildHasher g.S.Hasher.Hasher) (walk_map l.walk)

abbrev pub decreases-loop-each : goal.decreases-loop-each
decreases-loop-each g l = length (walk_map l.walk).items - walk_done l.walk
