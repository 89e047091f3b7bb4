-- A list of which the first items are changed.
use Rattle.std.specs.Prelude.{ℕ, List, [], ◌∷◌}
use Rattle.std.proofs.Common.{zero, suc}
use Rattle.test_writers.specs.declared.items.Pair.{Pair}

abbrev pub zeroed : Pair → Pair
zeroed p = record p { value = 0 }

-- the list, once f has changed the first n items
abbrev pub changed_to : {T : Type 0} → (T → T) → List T → ℕ → List T
changed_to f [] n = []
changed_to f (x ∷ xs) zero = x ∷ xs
changed_to f (x ∷ xs) (suc n) = f x ∷ changed_to f xs n
