-- What the lines' table is.
use Rattle.std.specs.Prelude.{◌≡◌, bytes_eq, string_bytes, String}
use Rattle.std.specs.Global.{Global}
use Rattle.iddqd.specs.Holding.{max_items}
use Rattle.idtable_commands.specs.declared.keyed_map.KeyedMap as keyed_map
use Rattle.iddqd_run.specs.declared.by_name.ByName as by_name
use Rattle.iddqd_run.specs.declared.entries.Entry.{Entry}

-- a map of entries as lines ask it: keyed by the names, looked up by their texts, under no smaller limit
pub record IsTable {M : Type 0} (own : keyed_map.Ghosts M Entry (String Global)) (asked : by_name.Ghosts M Entry (String Global)) (map : M) : Type 0 where
  pub names : own.key ≡ (λ entry. entry.name)
  pub texts : asked.is_text ≡ (λ name k. bytes_eq name (string_bytes k))
  pub items : (m : M) → asked.entries m ≡ (own.state m).items
  pub keyed : own.keyed map
  pub limit : own.limit map ≡ max_items
