use Rattle.std.proofs.Common.{◌≡◌, ◌-◌, length}
use Rattle.std.specs.Ordering.{nat_cmp}
use Rattle.iddqd.specs.Contents.{Ascends}
use Rattle.iddqd.specs.IdOrdMap.{walk_done, walk_map, walk_lender}
use Rattle.test_writers.specs.Zeroed.{zeroed, changed_to}
use Rattle.test_writers.proofs.ord.zero_all.Given as goal

abbrev pub invariant-loop-pair : goal.invariant-loop-pair
invariant-loop-pair l =
    (walk_lender l.walk ≡ walk_lender l.initial.walk)
    × (walk_map l.walk ≡ record l.fn.all { items = changed_to zeroed l.fn.all.items (walk_done l.walk) })
    × Ascends (λ p. p.key) nat_cmp (walk_map l.walk).items

abbrev pub decreases-loop-pair : goal.decreases-loop-pair
decreases-loop-pair l = length l.fn.all.items - walk_done l.walk
