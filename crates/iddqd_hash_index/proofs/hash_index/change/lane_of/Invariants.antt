use Rattle.std.proofs.Common.{◌≢◌, ◌+◌, ◌*◌}
use Rattle.iddqd_hash_index.specs.Lanes.{LanesLeft}
use Rattle.iddqd_hash_index.specs.Groups.{group_at, slot_at}
use Rattle.iddqd_hash_index.proofs.hash_index.change.lane_of.Given as goal

abbrev pub invariant-search : goal.invariant-search
invariant-search l = LanesLeft (group_at l.groups l.at) l.tag l.lanes.bits (λ k. slot_at l.cells (12 * l.at + k) ≢ l.slot)

abbrev pub decreases-search : goal.decreases-search
decreases-search l = l.lanes.bits
