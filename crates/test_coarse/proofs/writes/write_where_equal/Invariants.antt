use Rattle.std.proofs.Common.{◌≡◌, ◌-◌, length}
use Rattle.iddqd.specs.Contents.{Ascends}
use Rattle.iddqd.specs.IdOrdMap.{walk_done, walk_map, walk_lender}
use Rattle.test_coarse.proofs.writes.write_where_equal.Given as goal

abbrev pub invariant-loop-each : goal.invariant-loop-each
invariant-loop-each g l =
    (walk_lender l.walk ≡ walk_lender l.initial.walk)
    × Ascends g.T.IdOrdItem.key g.T.Key.Ord.cmp (walk_map l.walk).items

abbrev pub decreases-loop-each : goal.decreases-loop-each
decreases-loop-each g l = length (walk_map l.walk).items - walk_done l.walk
