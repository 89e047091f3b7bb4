use Rattle.std.specs.Prelude.{◌≡◌, ◌==◌, ◌+◌, ℕ, List, Option, IfSome}
use Rattle.iddqd.specs.Contents.{find_item, items_overwritten}
use Rattle.example_inventory.specs.declared.Part.{Part}

-- the part of the number
abbrev pub part_of : ℕ → List Part → Option Part
part_of number parts = find_item (λ p. p.number) (λ k. number == k) parts

-- of the part this many were taken, and this many are left; all else is as it was
abbrev pub IsTaken : (number count left : ℕ) → (old new : List Part) → Type 0
IsTaken number count left old new =
    IfSome (part_of number old) (λ part.
    (part.count ≡ left + count) × (new ≡ items_overwritten (λ p. p.number) (λ k. number == k) (record part { count = left }) old))
