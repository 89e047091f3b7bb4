use Rattle.std.proofs.Common.{◌≡◌, ℕ, ◌+◌, ◌-◌, ◌<◌, ◌≤◌, length, get_or, Less, Greater}
use Rattle.iddqd_ord_index.specs.Digits.{digits}
use Rattle.iddqd_ord_index.specs.Standing.{slot_standing}
use Rattle.iddqd_ord_index.proofs.tree.search.search.Given as goal

abbrev pub invariant-loop-low : goal.invariant-loop-low
invariant-loop-low g l = record {
  ordered : l.low ≤ l.high;
  within : l.high ≤ length l.slots;
  before : (k : ℕ) → k < l.low → slot_standing g.T.IdOrdItem.key (g.Q.Comparable.compare l.query) l.store (get_or l.slots k 0) ≡ Greater;
  behind : (k : ℕ) → l.high ≤ k → k < length l.slots → slot_standing g.T.IdOrdItem.key (g.Q.Comparable.compare l.query) l.store (get_or l.slots k 0) ≡ Less;
  never_resets : l.initial.steps ≤ l.steps;
  countable : l.steps ≤ 4294967295;
  counted : l.steps + digits (l.high - l.low) ≤ l.initial.steps + digits (length l.slots);
}

abbrev pub decreases-loop-low : goal.decreases-loop-low
decreases-loop-low g l = l.high - l.low
