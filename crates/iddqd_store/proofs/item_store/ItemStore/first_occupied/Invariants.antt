use Rattle.std.proofs.Common.{◌≡◌, ◌≤◌, length}
use Rattle.iddqd_store.specs.Store.{AreVacant}
use Rattle.iddqd_store.proofs.item_store.ItemStore.first_occupied.Given as goal

abbrev pub invariant-loop-slot : goal.invariant-loop-slot
invariant-loop-slot g l =
    (l.fn.from ≤ l.slot) × (l.slot-end ≡ length l.fn.self.slots) × AreVacant l.fn.self l.fn.from l.slot
