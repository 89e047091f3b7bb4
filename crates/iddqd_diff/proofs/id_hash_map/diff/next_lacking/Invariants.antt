use Rattle.std.proofs.Common.{◌≡◌, filter, length}
use Rattle.iddqd_diff.specs.Difference.{lacks}
use Rattle.iddqd_diff.proofs.id_hash_map.diff.next_lacking.Given as goal

abbrev pub invariant-loop-item : goal.invariant-loop-item
invariant-loop-item g l =
    filter (lacks g.T.IdHashItem.key g.T.Key.PartialEq.eq l.map.items) l.rest ≡ filter (lacks g.T.IdHashItem.key g.T.Key.PartialEq.eq l.fn.map.items) l.fn.rest

abbrev pub decreases-loop-item : goal.decreases-loop-item
decreases-loop-item g l = length l.rest
