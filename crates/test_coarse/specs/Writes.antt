-- What a write of a whole item leaves, in the place of one whose name is spelled in another way.
use Rattle.std.specs.Prelude.{◌≡◌, Bool, IfSome, IsTrue, List, Option, map, nat_eq}
use Rattle.std.specs.Char.{to_ascii_lowercase}
use Rattle.std.specs.Cmp.Lexicographic.{pointwise}
use Rattle.std.specs.Ordering.{on}
use Rattle.iddqd.specs.Contents.{find_item, items_overwritten}
use Rattle.test_coarse.specs.declared.caseless.Caseless.{Caseless}
use Rattle.test_coarse.specs.declared.caseless.Coarse.{Coarse}

-- both names have the same letters, in whatever case
abbrev pub names_equal : Caseless → Caseless → Bool
names_equal = on (λ name. map to_ascii_lowercase name.0) (pointwise nat_eq)

-- the item whose name is equal to this one
abbrev pub coarse_of : Caseless → List Coarse → Option Coarse
coarse_of name items = find_item (λ x. x.name) (names_equal name) items

-- if there is an item of the asked name, its name is equal to that of this item
abbrev pub FindsEqualName : Caseless → Coarse → List Coarse → Type 0
FindsEqualName asked item items = IfSome (coarse_of asked items) (λ x. IsTrue (names_equal x.name item.name))

-- if there is an item of the asked name, this item is in its place, spelled as it is, and all else is as it was
abbrev pub PutsInPlace : Caseless → Coarse → (old new : List Coarse) → Type 0
PutsInPlace asked item old new = IfSome (coarse_of asked old) (λ _. new ≡ items_overwritten (λ x. x.name) (names_equal asked) item old)
