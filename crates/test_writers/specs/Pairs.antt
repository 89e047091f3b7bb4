-- What a lookup by a number finds among pairs, and a write of a pair's value.
use Rattle.std.specs.Prelude.{◌≡◌, ◌==◌, ℕ, List, Option, IfSome}
use Rattle.iddqd.specs.Contents.{find_item, items_overwritten}
use Rattle.test_writers.specs.declared.items.Pair.{Pair}

-- the pair of the key
abbrev pub pair_at : ℕ → List Pair → Option Pair
pair_at key pairs = find_item (λ p. p.key) (λ k. key == k) pairs

-- if there is a pair of the key, the value is written to it, and all else is as it was
abbrev pub SetsPair : (key value : ℕ) → (old new : List Pair) → Type 0
SetsPair key value old new =
    IfSome (pair_at key old) (λ p. new ≡ items_overwritten (λ p. p.key) (λ k. key == k) (record p { value = value }) old)
