use Rattle.std.specs.Prelude.{◌≡◌, ℕ, Bool, List, Option, IfNone, IfSome, OnSome, map, nat_eq}
use Rattle.std.specs.Char.{to_ascii_lowercase}
use Rattle.std.specs.Cmp.Lexicographic.{pointwise}
use Rattle.std.specs.Ordering.{on}
use Rattle.iddqd.specs.Contents.{AddsItem, find_item, items_overwritten}
use Rattle.example_registry.specs.declared.Guest.{Guest}
use Rattle.example_registry.specs.declared.sign.Sign.{Sign}

-- both signs have the same letters, in any case
abbrev pub signs_equal : Sign → Sign → Bool
signs_equal = on (λ sign. map to_ascii_lowercase sign.0) (pointwise nat_eq)

-- the guest of the sign
abbrev pub guest_of : Sign → List Guest → Option Guest
guest_of sign guests = find_item (λ g. g.sign) (signs_equal sign) guests

-- if the guest is known, it has this spelling of the sign now, and the visits that are returned
abbrev pub VisitsAgain : Sign → (old new : List Guest) → Option ℕ → Type 0
VisitsAgain sign old new visits =
    IfSome (guest_of sign old) (λ _. IfSome visits (λ n. new ≡ items_overwritten (λ g. g.sign) (signs_equal sign) (record { sign = sign; visits = n }) old))

-- if it is not, it is added with one visit
abbrev pub VisitsFirst : Sign → (old new : List Guest) → Option ℕ → Type 0
VisitsFirst sign old new visits = IfNone (guest_of sign old) (OnSome visits (AddsItem (record { sign = sign; visits = 1 }) old new))
