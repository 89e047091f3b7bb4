-- How far a call moves the counter `Steps`.
use Rattle.std.specs.Prelude.{ℕ, ◌+◌, ◌≤◌}

-- the count grows by `most` comparisons at most, and is never reset
pub record CountsAtMost (old new most : ℕ) : Type 0 where
  pub at_most : new ≤ old + most
  pub never_resets : old ≤ new
