use Rattle.std.proofs.Common.{◌≡◌, length}
use Rattle.iddqd_store.specs.Slots.{items_held}
use Rattle.iddqd_store.proofs.item_store.walk.first_occupied.Given as goal

abbrev pub invariant-next : goal.invariant-next
invariant-next g l = items_held l.rest ≡ items_held l.slots

abbrev pub decreases-next : goal.decreases-next
decreases-next g l = length l.rest
