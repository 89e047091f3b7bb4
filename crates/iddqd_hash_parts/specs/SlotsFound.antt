-- The slots that two searches found, of a map with two keys.
--     slots_with slot slots      a slot, inserted into slots that rise at its place, unless it is among them
--     slots_with_found      the same of what a search found
--     values_if_any      the values of a `Few`, or none
use Rattle.std.specs.Prelude.{ℕ, List, [], ◌∷◌, Option, Some, None, ◌==◌, nat_lt, if◌then◌else◌}
use Rattle.iddqd_store.specs.Errors.{values_of}
use Rattle.iddqd_store.specs.declared.errors.Few.{Few}

abbrev pub slots_with : ℕ → List ℕ → List ℕ
slots_with slot [] = slot ∷ []
slots_with slot (s ∷ slots) =
    if slot == s then s ∷ slots else if nat_lt slot s then slot ∷ s ∷ slots else s ∷ slots_with slot slots

abbrev pub slots_with_found : Option ℕ → List ℕ → List ℕ
slots_with_found None slots = slots
slots_with_found (Some slot) slots = slots_with slot slots

abbrev pub values_if_any : {D : Type 0} → Option (Few D) → List D
values_if_any None = []
values_if_any (Some few) = values_of few
