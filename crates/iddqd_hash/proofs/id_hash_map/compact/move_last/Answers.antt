use Rattle.std.proofs.Common.{ℕ, ◌≡◌, ◌-◌, ◌∙◌, Some, refl, sym, ap, subst, rules, IsPermutation}
use Rattle.std.proofs.lemmas.List.Sorted.{IsPermutation-refl}
use Rattle.std.specs.List.{Contains}
use Rattle.iddqd_hash_index.specs.HashPairs.{HasInstead, HashPairs}
use Rattle.iddqd_store.specs.Contents.{NoTwoAkin}
use Rattle.iddqd_store.specs.Hashing.{hash_under}
use Rattle.iddqd_store.specs.Store.{Store, item_at, MovesLast}
use Rattle.iddqd_hash_parts.specs.HashItems.{IsKeyed}
use Rattle.iddqd_store.proofs.OrderLemmas.{differ_moved}
use Rattle.iddqd_store.proofs.StoreLemmas.{last_moves}
use Rattle.iddqd_hash_parts.specs.StoreAndIndex.{AreListedUnder, items_in, map_of}
use Rattle.iddqd_hash_parts.proofs.CompactLemmas.{last_listed, moved_items, moved_paired, moved_under, under_kept}
use Rattle.iddqd_hash_parts.proofs.MapLemmas.{keyed_under, make_keyed}
use Rattle.iddqd_hash_parts.proofs.SlotItemLemmas.{same_items}
use Rattle.iddqd_hash.proofs.id_hash_map.compact.move_last.Given.{Over}
use Rattle.iddqd_hash.proofs.id_hash_map.compact.move_last.Goals as goal

-- what an item's key hashes to
abbrev tell : (g : Over) → g.row.S.Denot → g.row.T.Denot → ℕ
tell g hasher x = hash_under g.S.BuildHasher g.S.Hasher.Hasher hasher (g.T.Key.Hash.hash_input (g.T.IdHashItem.key x))

-- each item's slot is listed with the hash of the item's key
under : (g : Over) (store : Store g.row.T.Denot) (index : HashPairs) (hasher : g.row.S.Denot) → IsKeyed g.T.IdHashItem.key g.T.Key.PartialEq.eq g.T.Key.Hash.hash_input (hash_under g.S.BuildHasher g.S.Hasher.Hasher) (map_of store index hasher) → AreListedUnder (tell g hasher) store index.pairs
unfolding IsKeyed
under g store index hasher keyed = keyed_under g.T.IdHashItem.key g.T.Key.PartialEq.eq g.T.Key.Hash.hash_input (hash_under g.S.BuildHasher g.S.Hasher.Hasher) hasher store index keyed

pub rename-requires-clause-present : goal.rename-requires-clause-present
rename-requires-clause-present g c =
    let x = c.item.result.now in
    let there : item_at c.args.store.now (c.slots-last.result - 1) ≡ Some x = c.item.ensures in
    let told : tell g c.args.hasher.now x ≡ c.hash_one-hash.result = ap (λ k. hash_under g.S.BuildHasher g.S.Hasher.Hasher c.args.hasher.now (g.T.Key.Hash.hash_input k)) (sym c.key.ensures) ∙ sym c.hash_one-hash.ensures in
    subst (λ h. Contains c.args.index.now.pairs (h, c.slots-last.result - 1)) told
    (last_listed (tell g c.args.hasher.now) c.args.store.now c.args.index.now.pairs c.requires.paired (under g c.args.store.now c.args.index.now c.args.hasher.now c.requires.keyed) (c.slots-last.result - 1) x there)

there : (g : Over) (c : goal.After-rename g) → item_at c.args.store.now (c.slots-last.result - 1) ≡ Some c.item.result.now
there g c = c.item.ensures

moves : (g : Over) (c : goal.After-rename g) → MovesLast c.args.store.now.slots c.last_into_hole.new.self.slots (c.slots-last.result - 1) c.in-Some.hole
moves g c =
    let old = c.args.store.now in
    let new = c.last_into_hole.new.self in
    let same = last_moves old.slots new.slots c.in-Some.field-0-0 c.in-Some.hole c.requires.cut c.in-Some.ensures.moves ∙ ap (λ n. n - 1) (sym c.slots-last.ensures.slots) in
    subst (λ s. MovesLast old.slots new.slots s c.in-Some.hole) same c.in-Some.ensures.moves

instead : (g : Over) (c : goal.After-rename g) → HasInstead c.args.index.now.pairs c.rename.new.self.pairs (tell g c.args.hasher.now c.item.result.now, c.slots-last.result - 1) (tell g c.args.hasher.now c.item.result.now, c.in-Some.hole)
instead g c =
    let told = ap (λ k. hash_under g.S.BuildHasher g.S.Hasher.Hasher c.args.hasher.now (g.T.Key.Hash.hash_input k)) (sym c.key.ensures) ∙ sym c.hash_one-hash.ensures in
    subst (λ h. HasInstead c.args.index.now.pairs c.rename.new.self.pairs (h, c.slots-last.result - 1) (h, c.in-Some.hole)) (sym told) c.rename.ensures.pairs

pub returns-in-Some-clause-paired : goal.returns-in-Some-clause-paired
returns-in-Some-clause-paired g c =
    let moved = c.last_into_hole in
    moved_paired (tell g c.args.hasher.now) c.args.store.now moved.new.self c.args.index.now.pairs c.rename.new.self.pairs c.requires.paired (under g c.args.store.now c.args.index.now c.args.hasher.now c.requires.keyed) (c.slots-last.result - 1) c.in-Some.hole c.item.result.now (there g c) (moves g c) (instead g c) moved.ensures.len moved.ensures.capacity moved.ensures.limit

pub returns-in-Some-clause-moves : goal.returns-in-Some-clause-moves
returns-in-Some-clause-moves g c =
    let moved = c.last_into_hole.ensures in
    record {
      items = moved_items (tell g c.args.hasher.now) c.args.store.now c.last_into_hole.new.self c.args.index.now.pairs c.rename.new.self.pairs c.requires.paired (under g c.args.store.now c.args.index.now c.args.hasher.now c.requires.keyed) (c.slots-last.result - 1) c.in-Some.hole c.item.result.now (there g c) (moves g c);
      len = moved.len;
      spare = c.rename.ensures.spare;
      bounds = record { capacity = moved.capacity; limit = moved.limit };
    }

pub returns-in-Some-clause-keyed : goal.returns-in-Some-clause-keyed
unfolding IsKeyed
returns-in-Some-clause-keyed g c =
    let key = g.T.IdHashItem.key in
    let old = c.args.store.now in
    let hasher = c.args.hasher.now in
    let moved = c.last_into_hole in
    let items = (returns-in-Some-clause-moves g c).items in
    make_keyed key g.T.Key.PartialEq.eq g.T.Key.Hash.hash_input (hash_under g.S.BuildHasher g.S.Hasher.Hasher) hasher moved.new.self c.rename.new.self
    (differ_moved key g.met.T.Key.Eq.laws (items_in old) (items_in moved.new.self) items c.requires.keyed.differ)
    (moved_under (tell g hasher) old moved.new.self c.args.index.now.pairs c.rename.new.self.pairs c.requires.paired (under g old c.args.index.now hasher c.requires.keyed) (c.slots-last.result - 1) c.in-Some.hole c.item.result.now (there g c) (moves g c) (instead g c) moved.ensures.len moved.ensures.capacity moved.ensures.limit)

pub returns-in_default-clause-keyed : goal.returns-in_default-clause-keyed
unfolding IsKeyed
returns-in_default-clause-keyed g c =
    let key = g.T.IdHashItem.key in
    let eq = g.T.Key.PartialEq.eq in
    let old = c.args.store.now in
    let new = c.last_into_hole.new.self in
    let index = c.args.index.now in
    let hasher = c.args.hasher.now in
    let none = c.in_default.ensures.none_moves in
    make_keyed key eq g.T.Key.Hash.hash_input (hash_under g.S.BuildHasher g.S.Hasher.Hasher) hasher new index
    (subst (NoTwoAkin key eq) (sym (same_items new.slots old.slots none)) c.requires.keyed.differ)
    (under_kept old new index.pairs none (tell g hasher) (under g old index hasher c.requires.keyed))

pub returns-in_default-clause-moves : goal.returns-in_default-clause-moves
returns-in_default-clause-moves g c =
    let old = c.args.store.now in
    let new = c.last_into_hole.new.self in
    let moved = c.last_into_hole.ensures in
    record {
      items = subst (λ xs. IsPermutation (items_in old) xs) (sym (same_items new.slots old.slots c.in_default.ensures.none_moves)) (IsPermutation-refl (items_in old));
      len = moved.len;
      spare = refl;
      bounds = record { capacity = moved.capacity; limit = moved.limit };
    }

pub overflow_sub-last : goal.overflow_sub-last
overflow_sub-last g c = search rules
