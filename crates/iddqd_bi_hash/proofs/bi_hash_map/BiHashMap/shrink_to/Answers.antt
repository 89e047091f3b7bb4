use Rattle.std.proofs.Common.{◌≤◌, ◌∙◌, length, refl, sym, ap, arith, subst}
use Rattle.std.proofs.Common.{IsPermutation, min as least}
use Rattle.iddqd_store.specs.Hashing.{hash_under}
use Rattle.iddqd_store.specs.Store.{vacant}
use Rattle.iddqd_hash_parts.specs.StoreAndIndex.{items_in}
use Rattle.iddqd_hash_parts.proofs.SlotItemLemmas.{length-items, slots_apart}
use Rattle.iddqd_bi_hash.specs.BiHashItems.{IsKeyedByBoth}
use Rattle.iddqd_bi_hash.proofs.BothLemmas.{fits}
use Rattle.iddqd_bi_hash.proofs.PairedLemmas.{both_room, keyed_room}
use Rattle.iddqd_bi_hash.proofs.bi_hash_map.BiHashMap.shrink_to.Goals as goal

pub compact-requires-clause-keyed : goal.compact-requires-clause-keyed
compact-requires-clause-keyed g c = subst (IsKeyedByBoth g.T.BiHashItem.key1 g.T.BiHashItem.key2 g.T.K1.PartialEq.eq g.T.K2.PartialEq.eq g.T.K1.Hash.hash_input g.T.K2.Hash.hash_input (hash_under g.S.BuildHasher g.S.Hasher.Hasher)) (sym c.self.view_is) c.requires.keyed

pub returns-clause-shrinks : goal.returns-clause-shrinks
returns-clause-shrinks g c =
    let m = c.self.inside in
    let between = c.compact.new in
    let new = c.shrink_room.new in
    let closed = c.compact.ensures in
    let room = c.shrink_room.ensures in
    let view = c.self.view_is in
    let moves = closed.moves1 in
    let capacity = moves.bounds.capacity ∙ ap (λ v. v.capacity) view in
    record {
      items = subst (λ v. IsPermutation v.items (items_in new.store)) view (subst (λ s. IsPermutation (items_in m.store) (items_in s)) (sym room.store) moves.items);
      shrinks = record {
        vacant = ap vacant room.store ∙ closed.vacant;
        lower = omega (arith, room.lowers, capacity);
        holds_items = omega (arith, room.keeps_items, moves.len, length-items m.store.slots, ap (λ v. length v.items) view);
        holds_min = subst (λ n. least c.args.min n ≤ new.store.capacity) capacity room.keeps_min;
        slots = slots_apart new.store.slots;
        limit = ap (λ s. s.limit) room.store ∙ moves.bounds.limit ∙ ap (λ v. v.limit) view;
      };
      spare = omega (arith, room.spare, both_room m.store between.store m.index1 m.index2 between.index1 between.index2 moves closed.moves2, length-items m.store.slots, length-items new.store.slots, ap (λ v. v.spare) view, ap (λ v. length v.items) view);
      spare_fits = fits m.hasher new.store new.index1 new.index2 room.paired _ refl;
      hasher = ap (λ v. v.hasher) view;
      keyed = keyed_room _ _ _ _ _ _ _ m.hasher between.store between.index1 between.index2 closed.keyed new.store new.index1 new.index2 (ap (λ s. s.slots) room.store) room.pairs1 room.pairs2;
    }

pub returns-clause-frees : goal.returns-clause-frees
returns-clause-frees g c none =
    c.shrink_room.ensures.frees (omega (arith, none, c.compact.ensures.moves1.len, length-items c.self.inside.store.slots, ap (λ v. length v.items) c.self.view_is))
