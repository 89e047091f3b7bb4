use Rattle.std.proofs.Common.{◌≡◌, ◌+◌, ◌-◌, ◌≤◌, length}
use Rattle.std.specs.Fn.{CalledAt}
use Rattle.iddqd_store.specs.Hashing.{hash_under}
use Rattle.iddqd_store.proofs.VisitLemmas.{IsAsked}
use Rattle.iddqd_hash_parts.specs.HashItems.{KeyedItems}
use Rattle.iddqd_hash_parts.specs.SlotOrder.{slots_below}
use Rattle.iddqd_hash.proofs.id_hash_map.IdHashMap.retain.Given as goal

abbrev pub invariant-loop-slot : goal.invariant-loop-slot
invariant-loop-slot g l = record {
  callable : goal.F-IsAlwaysCallable g l.keep;
  asked : IsAsked (CalledAt g.F.FnMut) l.initial.keep l.initial.self.items l.keep l.self.items (slots_below l.next l.self.slots);
  vacant : l.self.vacant + length l.self.items ≡ l.initial.self.vacant + length l.initial.self.items;
  capacity : l.self.capacity ≡ l.initial.self.capacity;
  limit : l.self.limit ≡ l.initial.self.limit;
  hasher : l.self.hasher ≡ l.initial.self.hasher;
  spare : l.initial.self.spare + length l.initial.self.items ≤ l.self.spare + length l.self.items;
  keyed : KeyedItems g.T.IdHashItem.key g.T.Key.PartialEq.eq g.T.Key.Hash.hash_input (hash_under g.S.BuildHasher g.S.Hasher.Hasher) l.self;
}

abbrev pub decreases-loop-slot : goal.decreases-loop-slot
decreases-loop-slot g l = length l.self.slots - slots_below l.next l.self.slots
