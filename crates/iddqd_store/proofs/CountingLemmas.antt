-- What a caller makes of `CountsAtMost`.
use Rattle.std.proofs.Common.{ℕ, ◌+◌, ◌≤◌, arith}
use Rattle.iddqd_store.specs.Counting.{CountsAtMost}

-- who counts n at most counts m at most, if n ≤ m
pub CountsAtMost-le : {old new n m : ℕ} → CountsAtMost old new n → n ≤ m → CountsAtMost old new m
CountsAtMost-le counted le = record { at_most = omega (arith, counted.at_most); never_resets = counted.never_resets }

-- one call and then another
pub CountsAtMost-then : {old mid new n m : ℕ} → CountsAtMost old mid n → CountsAtMost mid new m → CountsAtMost old new (n + m)
CountsAtMost-then first next = record {
  at_most = omega (arith, first.at_most, next.at_most);
  never_resets = omega (arith, first.never_resets, next.never_resets);
}
