-- At four comparisons a level, a search takes at most 4 + 2 d comparisons; and a tree has at most twelve levels.
use Rattle.std.proofs.Common.{◌≡◌, ℕ, zero, suc, ◌+◌, ◌-◌, ◌*◌, ◌^◌, ◌<◌, ◌≤◌, length, refl, ap, ◌∙◌, inl, inr, arith}
use Rattle.std.proofs.Math.Nat.{pow-suc, pow-le-pow_right, mul-le-mul_right}
use Rattle.std.proofs.Math.Pow.{pow_mono}
use Rattle.std.proofs.lemmas.Bool.{cases_lt}
use Rattle.iddqd_ord_index.specs.Digits.{digits}
use Rattle.iddqd_ord_index.specs.Shape.{Subtree, IsDense, most_levels}
use Rattle.iddqd_ord_index.proofs.DigitLemmas.{below_digits_within}

-- four to a power is at most a bit less than twice six to it
four_six : (m : ℕ) → 4 ^ m + 1 ≤ 2 * 6 ^ m
four_six zero = omega arith
four_six (suc m) = omega (arith, pow-suc 4 m, pow-suc 6 m, four_six m)

two_four : (m : ℕ) → 2 ^ (m + m) ≡ 4 ^ m
two_four zero = refl
two_four (suc m) =
    let e : suc m + suc m ≡ suc (suc (m + m)) = omega arith in
    ap (λ n. 2 ^ n) e ∙ omega (arith, pow-suc 2 (suc (m + m)), pow-suc 2 (m + m), pow-suc 4 m, two_four m)

-- a number that is at least 2 ^ k has more than k digits
digits_above : (k n : ℕ) → 2 ^ k ≤ n → k < digits n
digits_above k n le =
    elim (cases_lt k (digits n)) [
      | inl h ↦ h
      | inr h ↦ absurd (omega (arith, below_digits_within n n (omega arith), pow_mono {i = digits n} {j = k} h))
    ]

-- what the height says of the number of slots
many : (t : Subtree) → IsDense t → 1 ≤ t.width → 2 * 6 ^ (t.height - 1) ≤ length t.slots + 1
many t d w = omega (arith, d.many, mul-le-mul_right {m = 2} {n = t.width + 1} (6 ^ (t.height - 1)) (omega arith))

pub height_bound : (t : Subtree) → IsDense t → (1 < t.height → 1 ≤ t.width) → 4 * t.height ≤ 4 + 2 * digits (length t.slots)
height_bound t d w =
    elim (cases_lt 1 t.height) [
      | inl h ↦ (
          let m = t.height - 1 in
          let a : 2 ^ (m + m) ≤ length t.slots = omega (arith, two_four m, four_six m, many t d (w h)) in
          omega (arith, digits_above (m + m) (length t.slots) a)
          )
      | inr h ↦ omega (arith, d.low)
    ]

-- a tree of more levels holds at least 2 · 6 ^ 12 - 1 slots
pub higher_holds : (t : Subtree) → IsDense t → (1 < t.height → 1 ≤ t.width) → most_levels < t.height → 4353564671 ≤ length t.slots
higher_holds t d w lt =
    omega (arith, many t d (w (omega arith)), pow-le-pow_right {n = 6} (omega arith) {i = most_levels} {j = t.height - 1} (omega arith))

pub height_most : (t : Subtree) → IsDense t → (1 < t.height → 1 ≤ t.width) → length t.slots < 2 ^ 32 → t.height ≤ most_levels
height_most t d w few =
    elim (cases_lt most_levels t.height) [
      | inl h ↦ absurd (omega (arith, higher_holds t d w h))
      | inr h ↦ h
    ]
