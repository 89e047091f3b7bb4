use Rattle.std.proofs.Common.{◌≤◌, ◌∙◌, length, sym, ap, arith, subst}
use Rattle.std.proofs.Common.{IsPermutation, min as least}
use Rattle.iddqd_store.specs.Contents.{NoTwoAkin}
use Rattle.iddqd_store.specs.Hashing.{hash_under}
use Rattle.iddqd_store.specs.Store.{vacant}
use Rattle.iddqd_hash_parts.specs.HashItems.{IsKeyed}
use Rattle.iddqd_hash_parts.specs.StoreAndIndex.{items_in}
use Rattle.iddqd_hash_parts.proofs.MapLemmas.{keyed_under, make_keyed, spare_fits}
use Rattle.iddqd_hash_parts.proofs.StoreAndIndexLemmas.{under_same}
use Rattle.iddqd_hash_parts.proofs.SlotItemLemmas.{length-items, slots_apart}
use Rattle.iddqd_hash.proofs.id_hash_map.IdHashMap.shrink_to.Goals as goal

pub compact-requires-clause-keyed : goal.compact-requires-clause-keyed
compact-requires-clause-keyed g c = subst (IsKeyed g.T.IdHashItem.key g.T.Key.PartialEq.eq g.T.Key.Hash.hash_input (hash_under g.S.BuildHasher g.S.Hasher.Hasher)) (sym c.self.view_is) c.requires.keyed

pub returns-clause-shrinks : goal.returns-clause-shrinks
unfolding IsKeyed
returns-clause-shrinks g c =
    let key = g.T.IdHashItem.key in
    let eq = g.T.Key.PartialEq.eq in
    let input = g.T.Key.Hash.hash_input in
    let hash = hash_under g.S.BuildHasher g.S.Hasher.Hasher in
    let m = c.self.inside in
    let between = c.compact.new in
    let new = c.shrink_room.new in
    let closed = c.compact.ensures in
    let room = c.shrink_room.ensures in
    let view = c.self.view_is in
    let moves = closed.moves in
    let capacity = moves.bounds.capacity ∙ ap (λ v. v.capacity) view in
    record {
      items = subst (λ v. IsPermutation v.items (items_in new.store)) view (subst (λ s. IsPermutation (items_in m.store) (items_in s)) (sym room.store) moves.items);
      shrinks = record {
        vacant = ap vacant room.store ∙ closed.vacant;
        lower = omega (arith, room.lowers, capacity);
        holds_items = omega (arith, room.keeps_items, moves.len, length-items m.store.slots, ap (λ v. length v.items) view);
        holds_min = subst (λ n. least c.args.min n ≤ new.store.capacity) capacity room.keeps_min;
        slots = slots_apart new.store.slots;
        limit = ap (λ s. s.limit) room.store ∙ moves.bounds.limit ∙ ap (λ v. v.limit) view;
      };
      spare = omega (arith, room.spare, moves.spare, moves.bounds.capacity, moves.len, moves.bounds.limit, length-items m.store.slots, length-items new.store.slots, ap (λ v. v.spare) view, ap (λ v. length v.items) view);
      spare_fits = spare_fits m.hasher new.store new.index room.paired;
      hasher = ap (λ v. v.hasher) view;
      keyed = make_keyed key eq input hash m.hasher new.store new.index
          (subst (λ s. NoTwoAkin key eq (items_in s)) (sym room.store) closed.keyed.differ)
          (under_same (λ x. hash m.hasher (input (key x))) between.store new.store between.index.pairs new.index.pairs (keyed_under key eq input hash m.hasher between.store between.index closed.keyed) (ap (λ s. s.slots) room.store) room.pairs);
    }

pub returns-clause-frees : goal.returns-clause-frees
returns-clause-frees g c none =
    c.shrink_room.ensures.frees (omega (arith, none, c.compact.ensures.moves.len, length-items c.self.inside.store.slots, ap (λ v. length v.items) c.self.view_is))
