-- What two lists of named items have at each name.
use Rattle.std.specs.Prelude.{List, filter}
use Rattle.std.specs.String.{string_eq}
use Rattle.iddqd_diff.specs.Difference.{lacks}
use Rattle.test_writers.specs.declared.items.Named.{Named}

-- the new items whose name no old one has
abbrev pub added : (old new : List Named) → List Named
added old new = filter (lacks (λ x. x.name) string_eq old) new
