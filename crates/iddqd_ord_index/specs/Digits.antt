-- How many binary digits a number has, for the bound on a lookup's comparisons.
--     digits n      the least k with n < 2 ^ k, so none for 0 (`laws::digits_are_least`)
use Rattle.std.specs.Prelude.{ℕ, ◌/◌, ◌<◌, ◌≤◌, ◌^◌, ◌↔◌}
use Rattle.std.proofs.Common.{zero, suc}

-- the same, at most this many
abbrev pub digits_within : ℕ → ℕ → ℕ
digits_within zero n = zero
digits_within (suc most) zero = zero
digits_within (suc most) (suc n) = suc (digits_within most (suc n / 2))

unfoldable pub digits : ℕ → ℕ
digits n = digits_within n n

-- k digits do for n exactly where n is below 2 ^ k
abbrev pub DigitsAreLeast : Type 0
DigitsAreLeast = (n k : ℕ) → (digits n ≤ k) ↔ (n < 2 ^ k)
