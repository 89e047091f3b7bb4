-- The number of binary digits falls by one at each half.
use Rattle.std.proofs.Common.{◌≡◌, ℕ, zero, suc, ◌+◌, ◌/◌, ◌<◌, ◌≤◌, ◌^◌, refl, ap, arith}
use Rattle.std.proofs.Math.Nat.{eq-zero-or-pos}
use Rattle.std.proofs.Math.Pow.{pow_mono}
use Rattle.std.proofs.Common.{⊎_elim}
use Rattle.iddqd_ord_index.specs.Digits.{digits, digits_within, DigitsAreLeast}

-- whatever the bound
same_within : (f g n : ℕ) → n ≤ f → n ≤ g → digits_within f n ≡ digits_within g n
same_within zero zero n h k = refl
same_within zero (suc g) zero h k = refl
same_within zero (suc g) (suc n) h k = absurd (omega arith)
same_within (suc f) zero zero h k = refl
same_within (suc f) zero (suc n) h k = absurd (omega arith)
same_within (suc f) (suc g) zero h k = refl
same_within (suc f) (suc g) (suc n) h k = ap suc (same_within f g (suc n / 2) (omega arith) (omega arith))

pub digits-zero : digits 0 ≡ 0
unfolding digits
digits-zero = refl

pub digits-half : (n : ℕ) → 0 < n → digits n ≡ suc (digits (n / 2))
unfolding digits
digits-half zero h = absurd (omega arith)
digits-half (suc n) h =
    let e : digits_within n (suc n / 2) ≡ digits_within (suc n / 2) (suc n / 2) = same_within n (suc n / 2) (suc n / 2) (omega arith) (omega arith) in
    omega (arith, e)

-- where n is below 2 ^ k, k digits do
pub digits_least : (k n : ℕ) → n < 2 ^ k → digits n ≤ k
digits_least zero n h = let e : n ≡ 0 = omega arith in rw e (omega (arith, digits-zero))
digits_least (suc k) n h = ⊎_elim (λ e. rw e (omega (arith, digits-zero))) (λ p. omega (arith, digits-half n p, digits_least k (n / 2) (omega arith))) (eq-zero-or-pos n)

doubled : (n k : ℕ) → n / 2 < 2 ^ k → n < 2 ^ suc k
doubled n k h = omega arith

-- the digits of n suffice
pub below_digits_within : (f n : ℕ) → n ≤ f → n < 2 ^ digits n
below_digits_within zero n h = let e : n ≡ 0 = omega arith in rw e (rw digits-zero (omega arith))
below_digits_within (suc f) n h = ⊎_elim
    (λ e. rw e (rw digits-zero (omega arith)))
    (λ p. rw (digits-half n p) (doubled n (digits (n / 2)) (below_digits_within f (n / 2) (omega arith))))
    (eq-zero-or-pos n)

pub digits_mono_within : (f m n : ℕ) → n ≤ f → m ≤ n → digits m ≤ digits n
digits_mono_within f m n h k = digits_least (digits n) m (omega (arith, below_digits_within f n h))

pub digits_mono : (m n : ℕ) → m ≤ n → digits m ≤ digits n
digits_mono m n h = digits_mono_within n m n (omega arith) h

pub digits-fewer : (n m : ℕ) → 0 < n → m ≤ n / 2 → digits m + 1 ≤ digits n
digits-fewer n m h k = omega (arith, digits-half n h, digits_mono m (n / 2) k)

pub digits_are_least : DigitsAreLeast
digits_are_least n k = (λ h. below_power k n h, λ h. digits_least k n h)
  where
    below_power : (k n : ℕ) → digits n ≤ k → n < 2 ^ k
    below_power k n h = omega (arith, below_digits_within n n (omega arith), pow_mono h)
