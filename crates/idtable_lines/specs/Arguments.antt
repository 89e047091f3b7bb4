-- What the words behind a program's name ask for.
use Rattle.std.specs.Prelude.{ℕ, List, [], ◌∷◌, Option, Some, None, codes, bytes_eq, if◌then◌else◌}
use Rattle.idtable_lines.specs.declared.arguments.Kind.{Kind}
use Rattle.idtable_lines.specs.declared.arguments.Kind.TheVariants.{Hash, Ord}

-- no word, or one that names a kind
abbrev pub kind_for : List (List ℕ) → Option Kind
kind_for [] = Some Ord
kind_for (word ∷ []) = if bytes_eq word (codes "hash") then Some Hash else (if bytes_eq word (codes "ord") then Some Ord else None)
kind_for (word ∷ more ∷ words) = None
