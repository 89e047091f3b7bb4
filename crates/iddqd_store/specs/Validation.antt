-- What `validate` asks of a map's structure.
use Rattle.std.specs.Prelude.{ℕ, ◌<◌}
use Rattle.iddqd_store.specs.declared.validation.ValidateCompact.{ValidateCompact}
use Rattle.iddqd_store.specs.declared.validation.ValidateCompact.TheVariants.{Compact, NonCompact}

-- slots are vacant, and none may be
abbrev pub IsNotCompact : ValidateCompact → ℕ → Type 0
IsNotCompact Compact vacant = 0 < vacant
IsNotCompact NonCompact vacant = ⊥
