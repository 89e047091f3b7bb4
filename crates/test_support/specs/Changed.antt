-- What `Change` makes of an item.
use Rattle.std.specs.Prelude.{Bool, false, ◌+◌, ◌*◌, ◌%◌, ◌^◌, ◌==◌}
use Rattle.test_support.specs.declared.items.Numbered.{Numbered}
use Rattle.test_support.specs.declared.visitors.Change.{Change}
use Rattle.test_support.specs.declared.visitors.Change.TheVariants.{KeepOdd, DenyAll}

abbrev pub changed : Change → Numbered → Change × Numbered × Bool
changed (KeepOdd seen) item = (KeepOdd ((seen * 10 + item.number) % 2 ^ 32), record item { value = (item.value + 1) % 2 ^ 32 }, item.number % 2 == 1)
changed DenyAll item = (DenyAll, record item { value = 0 }, false)
