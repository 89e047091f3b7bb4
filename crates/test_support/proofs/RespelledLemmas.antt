-- An item that is written in another spelling keeps its key.
use Rattle.std.proofs.Common.{Bool, true, false, ◌≡◌, sym, refl, nat_eq, map, if◌then◌else◌}
use Rattle.std.specs.Char.{to_ascii_lowercase}
use Rattle.std.specs.Cmp.Lexicographic.{pointwise, on_texts_equal}
use Rattle.std.specs.Ordering.{on}
use Rattle.test_coarse.specs.declared.caseless.Caseless.{Caseless}
use Rattle.test_coarse.specs.declared.caseless.Coarse.{Coarse}
use Rattle.test_support.specs.Respelled.{respelled}

abbrev same_name : Caseless → Caseless → Bool
same_name = on (λ name. map to_ascii_lowercase name.0) (pointwise nat_eq)

either_keeps : (new item : Coarse) (b : Bool) → b ≡ same_name item.name new.name → same_name item.name (if b then new else item).name ≡ true
either_keeps new item true e = sym e
either_keeps new item false e = (on_texts_equal (λ name. map to_ascii_lowercase name.0)).refl item.name

pub respelled_keeps_key : (new item : Coarse) → on (λ name. map to_ascii_lowercase name.0) (pointwise nat_eq) item.name (respelled new item).name ≡ true
respelled_keeps_key new item = either_keeps new item (same_name item.name new.name) refl
