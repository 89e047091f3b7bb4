-- What is in a map once many items were added, and what is shown if not all are.
use Rattle.std.specs.Prelude.{ℕ, List, ◌++◌, nat_eq}
use Rattle.std.specs.String.{string_eq}
use Rattle.iddqd.specs.Collecting.{AddsAll, IsFirstConflict, OverwritesAll}
use Rattle.iddqd.specs.Contents.{NoTwoAkin}
use Rattle.iddqd.specs.Given.{BeginsWith}
use Rattle.test_writers.specs.declared.items.Named.{Named}
use Rattle.test_writers.specs.declared.items.Pair.{Pair}

-- each item replaces the one of its name, or is added if there is none
abbrev pub PutsAll : (limit : ℕ) (items old new : List Named) → Type 0
PutsAll limit items old new = OverwritesAll (λ x. x.name) string_eq limit items old new

-- some pairs were added, and the first of the shown ones is the next: its key is the key of the other one, which was there by then
abbrev pub ShowsConflict : (old new : List Pair) → Pair × Pair → Type 0
ShowsConflict old new shown =
    (before : List Pair)
    × IsFirstConflict (λ p. p.key) nat_eq old before shown.0 shown.1
    × AddsAll (λ p. p.key) nat_eq before old new

-- among the given pairs, the first of the shown ones comes behind some that repeat no key, of their own or of the old ones
abbrev pub ComesBehindNew : (given old : List Pair) → Pair × Pair → Type 0
ComesBehindNew given old shown =
    (before : List Pair)
    × BeginsWith before shown.0 given
    × NoTwoAkin (λ p. p.key) nat_eq (old ++ before)
