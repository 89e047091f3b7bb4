use Rattle.std.proofs.Common.{◌≡◌, ◌+◌, ◌-◌, ◌≤◌, ◌++◌, length, take, drop}
use Rattle.iddqd_store.specs.Hashing.{hash_under}
use Rattle.iddqd_store.specs.Visiting.{kept_by, visitor_after}
use Rattle.iddqd_hash_parts.specs.SlotOrder.{slots_below}
use Rattle.iddqd_bi_hash.specs.BiHashItems.{IsKeyedByBoth}
use Rattle.iddqd_bi_hash.proofs.bi_hash_map.BiHashMap.retain_mut.Given as goal

abbrev pub invariant-loop-slot : goal.invariant-loop-slot
invariant-loop-slot g l = record {
  items : kept_by g.V.Visit.visits l.initial.visitor l.initial.self.items ≡ take (slots_below l.from l.self.slots) l.self.items ++ kept_by g.V.Visit.visits l.visitor (drop (slots_below l.from l.self.slots) l.self.items);
  visitor : visitor_after g.V.Visit.visits l.initial.visitor l.initial.self.items ≡ visitor_after g.V.Visit.visits l.visitor (drop (slots_below l.from l.self.slots) l.self.items);
  vacant : l.self.vacant + length l.self.items ≡ l.initial.self.vacant + length l.initial.self.items;
  capacity : l.self.capacity ≡ l.initial.self.capacity;
  limit : l.self.limit ≡ l.initial.self.limit;
  hasher : l.self.hasher ≡ l.initial.self.hasher;
  spare : l.initial.self.spare + length l.initial.self.items ≤ l.self.spare + length l.self.items;
  keyed : IsKeyedByBoth g.T.BiHashItem.key1 g.T.BiHashItem.key2 g.T.K1.PartialEq.eq g.T.K2.PartialEq.eq g.T.K1.Hash.hash_input g.T.K2.Hash.hash_input (hash_under g.S.BuildHasher g.S.Hasher.Hasher) l.self;
}

abbrev pub decreases-loop-slot : goal.decreases-loop-slot
decreases-loop-slot g l = length l.self.slots - slots_below l.from l.self.slots
