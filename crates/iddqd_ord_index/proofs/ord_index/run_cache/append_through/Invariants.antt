use Rattle.std.proofs.Common.{◌+◌, ◌-◌, length, drop}
use Rattle.iddqd_ord_index.specs.Runs.{BeginsWith}
use Rattle.iddqd_ord_index.proofs.ord_index.run_cache.append_through.Given as goal

abbrev pub invariant-read : goal.invariant-read
invariant-read l = BeginsWith l.slots.items (drop l.start l.root.slots)

abbrev pub decreases-read : goal.decreases-read
decreases-read l = l.at + 1 - (l.start + length l.slots.items)
