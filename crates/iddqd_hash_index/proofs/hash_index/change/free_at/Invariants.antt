use Rattle.std.proofs.Common.{◌+◌, ◌*◌, ◌-◌}
use Rattle.iddqd_hash_index.specs.Groups.{home_of, slot_at, steps_to, IsTakeWalk}
use Rattle.iddqd_hash_index.proofs.hash_index.change.free_at.Given as goal

abbrev pub invariant-walk : goal.invariant-walk
invariant-walk l = IsTakeWalk l.fn.groups l.groups l.cells l.hash (slot_at l.cells (12 * l.at + l.lane)) l.passed

abbrev pub decreases-walk : goal.decreases-walk
decreases-walk l = l.count - steps_to l.count (home_of l.count l.hash) l.passed
