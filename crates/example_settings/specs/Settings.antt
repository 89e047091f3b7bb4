use Rattle.std.specs.Prelude.{◌≡◌, ℕ, IfSome, List, Option, String, string_bytes}
use Rattle.std.specs.Str.{bytes_eq}
use Rattle.std.specs.String.{string_eq}
use Rattle.std.specs.declared.alloc.Global.{Global}
use Rattle.iddqd.specs.Contents.{find_item}
use Rattle.example_settings.specs.declared.Setting.{Setting}

-- the setting of the name, by a text and by a key
abbrev pub setting_at : List ℕ → List Setting → Option Setting
setting_at name all = find_item (λ s. s.name) (λ k. bytes_eq name (string_bytes k)) all

abbrev pub setting_named : String Global → List Setting → Option Setting
setting_named name all = find_item (λ s. s.name) (string_eq name) all

-- beside the setting, this is the value of the one of its name
abbrev pub ShowsExisting : List Setting → Setting × ℕ → Type 0
ShowsExisting all shown = IfSome (setting_named shown.0.name all) (λ s. shown.1 ≡ s.value)
