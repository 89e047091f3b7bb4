-- What a store is after a `&mut` to one of its items ends.
use Rattle.std.specs.Prelude.{ℕ}
use Rattle.std.specs.Borrow.{Lends, Fml, RattleType, MutBor}
use Rattle.iddqd_store.specs.Store.{Store, with_item}
use Rattle.iddqd_store.specs.contracts.item_store.ItemStore.{the_row}

-- when the borrow r ends, the slot has the last item written through r
abbrev pub lends_item : (T : RattleType) (s : MutBor (Store T.Denot)) (slot : ℕ) → MutBor T.Denot → Fml
lends_item T s slot r = Lends (the_row T) T s r (with_item s.now slot)
