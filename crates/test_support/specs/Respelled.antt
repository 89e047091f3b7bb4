-- What `Respells` makes of an item.
use Rattle.std.specs.Prelude.{nat_eq, map, if◌then◌else◌}
use Rattle.std.specs.Char.{to_ascii_lowercase}
use Rattle.std.specs.Cmp.Lexicographic.{pointwise}
use Rattle.test_coarse.specs.declared.caseless.Coarse.{Coarse}

-- the new item, where its name is the same but for case
abbrev pub respelled : Coarse → Coarse → Coarse
respelled new item = if pointwise nat_eq (map to_ascii_lowercase item.name.0) (map to_ascii_lowercase new.name.0) then new else item
