use Rattle.std.proofs.Common.{◌≡◌, ◌-◌, ◌≤◌, ◌++◌, length}
use Rattle.iddqd_ord_index.proofs.ord_index.run_cache.fill.Given as goal

abbrev pub invariant-fill : goal.invariant-fill
invariant-fill l = record {
  all : l.slots.items ++ l.walk ≡ l.initial.slots.items ++ l.initial.walk;
  more : length l.initial.slots.items ≤ length l.slots.items;
}

abbrev pub decreases-fill : goal.decreases-fill
decreases-fill l = 64 - length l.slots.items
