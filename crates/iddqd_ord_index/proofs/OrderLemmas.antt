-- A comparison tells of all slots on one side.
use Rattle.std.proofs.Common.{◌≡◌, ℕ, ◌+◌, ◌<◌, ◌≤◌, List, length, get_or, inl, inr, arith, ◌∙◌, ap}
use Rattle.std.specs.declared.cmp.Ordering.{Ordering}
use Rattle.std.specs.declared.cmp.Ordering.TheVariants.{Less, Greater}
use Rattle.std.proofs.lemmas.Bool.{cases_lt}
use Rattle.iddqd_ord_index.specs.Standing.{IsMonotone}

pub all_above : (order : ℕ → Ordering) (xs : List ℕ) (m : ℕ) → IsMonotone order xs → m < length xs → order (get_or xs m 0) ≡ Greater → (k : ℕ) → k < m + 1 → order (get_or xs k 0) ≡ Greater
all_above order xs m o lt e k le =
    elim (cases_lt k m) [
      | inl h ↦ o.above k m h lt e
      | inr h ↦ (let s : k ≡ m = omega arith in ap (λ n. order (get_or xs n 0)) s ∙ e)
    ]

pub all_below : (order : ℕ → Ordering) (xs : List ℕ) (m : ℕ) → IsMonotone order xs → order (get_or xs m 0) ≡ Less → (k : ℕ) → m ≤ k → k < length xs → order (get_or xs k 0) ≡ Less
all_below order xs m o e k le lt =
    elim (cases_lt m k) [
      | inl h ↦ o.below m k h lt e
      | inr h ↦ (let s : k ≡ m = omega arith in ap (λ n. order (get_or xs n 0)) s ∙ e)
    ]
