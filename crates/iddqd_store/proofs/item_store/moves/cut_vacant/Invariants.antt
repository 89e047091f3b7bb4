use Rattle.std.proofs.Common.{◌≡◌, ◌≤◌, vec_len, vec_capacity}
use Rattle.iddqd_store.specs.Slots.{items_of, links_at, IsChained, SameSlots}
use Rattle.iddqd_store.proofs.item_store.moves.cut_vacant.Given as goal

abbrev pub invariant-loop-slots : goal.invariant-loop-slots
invariant-loop-slots g l = record {
  chained : IsChained (links_at l.slots.items) l.first;
  items : SameSlots (items_of l.fn.slots.items) (items_of l.slots.items);
  shorter : vec_len l.slots ≤ vec_len l.fn.slots;
  capacity : vec_capacity l.slots ≡ vec_capacity l.fn.slots;
}

abbrev pub decreases-loop-slots : goal.decreases-loop-slots
decreases-loop-slots g l = vec_len l.slots
