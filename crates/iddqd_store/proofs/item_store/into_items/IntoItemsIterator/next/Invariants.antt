use Rattle.std.proofs.Common.{◌≡◌, length}
use Rattle.std.specs.Vec.Iter.{into_iter_items, into_iter_len}
use Rattle.iddqd_store.specs.Slots.{items_held}
use Rattle.iddqd_store.proofs.item_store.into_items.IntoItemsIterator.next.Given as goal

abbrev pub invariant-next : goal.invariant-next
invariant-next g l = record {
  items : items_held (into_iter_items l.self-inside.slots) ≡ l.fn.self;
  len : into_iter_len l.self-inside.slots ≡ length (into_iter_items l.self-inside.slots);
}

abbrev pub decreases-next : goal.decreases-next
decreases-next g l = into_iter_len l.self-inside.slots
