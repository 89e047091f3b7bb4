use Rattle.std.specs.Prelude.{◌==◌, ℕ, List}
use Rattle.iddqd.specs.Contents.{items_without}
use Rattle.example_id_cache.specs.declared.Entry.{Entry}

-- the entries without the one of the id
abbrev pub without_id : ℕ → List Entry → List Entry
without_id id entries = items_without (λ e. e.id) (λ k. id == k) entries
