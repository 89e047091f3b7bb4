-- A list of which the first items are changed, one step further, and to the end.
use Rattle.std.proofs.Common.{◌≡◌, ℕ, zero, suc, ◌+◌, ◌≤◌, List, [], ◌∷◌, map, length, slice_get, slice_set, unwrap_or, Some, refl, sym, ap, ◌∙◌, arith, add-one}
use Rattle.test_writers.specs.Zeroed.{changed_to}

module _ {T : Type 0} (f : T → T) where
  pub changed_none : (xs : List T) → changed_to f xs 0 ≡ xs
  changed_none [] = refl
  changed_none (x ∷ xs) = refl

  pub length_changed : (xs : List T) (n : ℕ) → length (changed_to f xs n) ≡ length xs
  length_changed [] n = refl
  length_changed (x ∷ xs) zero = refl
  length_changed (x ∷ xs) (suc n) = ap suc (length_changed xs n)

  step_on : (xs : List T) (n : ℕ) (x : T) → slice_get (changed_to f xs n) n ≡ Some x → slice_set (changed_to f xs n) n (f x) ≡ changed_to f xs (suc n)
  step_on [] n x at = refl
  step_on (y ∷ ys) zero x at = (λ j. f (unwrap_or (sym at j) x) ∷ sym (changed_none ys) j)
  step_on (y ∷ ys) (suc n) x at = ap (λ l. f y ∷ l) (step_on ys n x at)

  pub changed_step : (xs : List T) (n : ℕ) (x : T) → slice_get (changed_to f xs n) n ≡ Some x → slice_set (changed_to f xs n) n (f x) ≡ changed_to f xs (n + 1)
  changed_step xs n x at = step_on xs n x at ∙ ap (changed_to f xs) (sym (add-one n))

  pub changed_all : (xs : List T) (n : ℕ) → length xs ≤ n → changed_to f xs n ≡ map f xs
  changed_all [] n le = refl
  changed_all (x ∷ xs) zero le = absurd (omega arith)
  changed_all (x ∷ xs) (suc n) le = ap (λ l. f x ∷ l) (changed_all xs n (omega arith))

  pub changed_first : (xs : List T) (x : T) → slice_get xs 0 ≡ Some x → slice_set xs 0 (f x) ≡ changed_to f xs 1
  changed_first [] x at = refl
  changed_first (y ∷ ys) x at = (λ j. f (unwrap_or (sym at j) x) ∷ sym (changed_none ys) j)
