use Rattle.std.proofs.Common.{◌≡◌, ◌-◌, ◌∙◌, Some, refl, sym, ap, subst, rules, IsPermutation}
use Rattle.std.proofs.lemmas.List.Sorted.{IsPermutation-refl}
use Rattle.std.specs.List.{Contains}
use Rattle.iddqd_hash_index.specs.HashPairs.{HasInstead}
use Rattle.iddqd_store.specs.Hashing.{hash_under}
use Rattle.iddqd_store.specs.Store.{item_at, MovesLast}
use Rattle.iddqd_store.proofs.StoreLemmas.{last_moves}
use Rattle.iddqd_hash_parts.specs.StoreAndIndex.{items_in}
use Rattle.iddqd_hash_parts.proofs.SlotItemLemmas.{same_items}
use Rattle.iddqd_bi_hash.proofs.PairedLemmas.{keyed_same, last_listed1, last_listed2, moved, moved_both, moved_keyed}
use Rattle.iddqd_bi_hash.proofs.bi_hash_map.compact.move_last.Goals as goal

pub rename-requires-clause-present : goal.rename-requires-clause-present
rename-requires-clause-present g c =
    let hash = hash_under g.S.BuildHasher g.S.Hasher.Hasher c.args.hasher.now in
    let x = c.item-item.result.now in
    let there : item_at c.args.store.now (c.slots-last.result - 1) ≡ Some x = c.item-item.ensures in
    let told1 : hash (g.T.K1.Hash.hash_input (g.T.BiHashItem.key1 x)) ≡ c.hash_one-hash1.result = ap (λ k. hash (g.T.K1.Hash.hash_input k)) (sym c.key1.ensures) ∙ sym c.hash_one-hash1.ensures in
    subst (λ h. Contains c.args.index1.now.pairs (h, c.slots-last.result - 1)) told1 (last_listed1 _ _ _ _ _ _ _ c.args.hasher.now c.args.store.now c.args.index1.now c.args.index2.now c.requires.keyed c.requires.paired (c.slots-last.result - 1) c.item-item.result.now there)

pub rename-requires-in-Some-clause-present : goal.rename-requires-in-Some-clause-present
rename-requires-in-Some-clause-present g c =
    let hash = hash_under g.S.BuildHasher g.S.Hasher.Hasher c.args.hasher.now in
    let x = c.item-item.result.now in
    let there : item_at c.args.store.now (c.slots-last.result - 1) ≡ Some x = c.item-item.ensures in
    let told2 : hash (g.T.K2.Hash.hash_input (g.T.BiHashItem.key2 x)) ≡ c.hash_one-hash2.result = ap (λ k. hash (g.T.K2.Hash.hash_input k)) (sym c.key2.ensures) ∙ sym c.hash_one-hash2.ensures in
    subst (λ h. Contains c.args.index2.now.pairs (h, c.slots-last.result - 1)) told2 (last_listed2 _ _ _ _ _ _ _ c.args.hasher.now c.args.store.now c.args.index1.now c.args.index2.now c.requires.keyed c.requires.paired (c.slots-last.result - 1) c.item-item.result.now there)

pub returns-in-Some : goal.returns-in-Some
returns-in-Some g c =
    let hash = hash_under g.S.BuildHasher g.S.Hasher.Hasher c.args.hasher.now in
    let x = c.item-item.result.now in
    let there : item_at c.args.store.now (c.slots-last.result - 1) ≡ Some x = c.item-item.ensures in
    let told1 : hash (g.T.K1.Hash.hash_input (g.T.BiHashItem.key1 x)) ≡ c.hash_one-hash1.result = ap (λ k. hash (g.T.K1.Hash.hash_input k)) (sym c.key1.ensures) ∙ sym c.hash_one-hash1.ensures in
    let told2 : hash (g.T.K2.Hash.hash_input (g.T.BiHashItem.key2 x)) ≡ c.hash_one-hash2.result = ap (λ k. hash (g.T.K2.Hash.hash_input k)) (sym c.key2.ensures) ∙ sym c.hash_one-hash2.ensures in
    let old = c.args.store.now in
    let new = c.last_into_hole.new.self in
    let done = c.last_into_hole.ensures in
    let last = c.slots-last.result - 1 in
    let hole = c.in-Some.hole in
    let index1 = c.rename.new.self in
    let index2 = c.rename-in-Some.new.self in
    let same = last_moves old.slots new.slots c.in-Some.field-0-0 hole c.requires.cut c.in-Some.ensures.moves ∙ ap (λ n. n - 1) (sym c.slots-last.ensures.slots) in
    let moves = subst (λ s. MovesLast old.slots new.slots s hole) same c.in-Some.ensures.moves in
    let instead1 = subst (λ h. HasInstead c.args.index1.now.pairs index1.pairs (h, last) (h, hole)) (sym told1) c.rename.ensures.pairs in
    let instead2 = subst (λ h. HasInstead c.args.index2.now.pairs index2.pairs (h, last) (h, hole)) (sym told2) c.rename-in-Some.ensures.pairs in
    let items = moved _ _ _ _ _ _ _ c.args.hasher.now c.args.store.now c.args.index1.now c.args.index2.now c.requires.keyed c.requires.paired (c.slots-last.result - 1) c.item-item.result.now there new hole index1 index2 moves instead1 instead2 in
    record {
      moves1 = record { items = items; len = done.len; spare = c.rename.ensures.spare; bounds = record { capacity = done.capacity; limit = done.limit } };
      moves2 = record { items = items; len = done.len; spare = c.rename-in-Some.ensures.spare; bounds = record { capacity = done.capacity; limit = done.limit } };
      fewer = search rules;
      paired = moved_both _ _ _ _ _ _ _ c.args.hasher.now c.args.store.now c.args.index1.now c.args.index2.now c.requires.keyed c.requires.paired (c.slots-last.result - 1) c.item-item.result.now there new hole index1 index2 moves instead1 instead2 done.len done.capacity done.limit;
      keyed = moved_keyed _ _ _ _ _ _ _ c.args.hasher.now c.args.store.now c.args.index1.now c.args.index2.now c.requires.keyed c.requires.paired (c.slots-last.result - 1) c.item-item.result.now there new hole index1 index2 moves instead1 instead2 done.len done.capacity done.limit g.met.T.K1.Eq.laws g.met.T.K2.Eq.laws;
      cut = done.cut;
    }

pub returns-in_default-clause-keyed : goal.returns-in_default-clause-keyed
returns-in_default-clause-keyed g c =
    keyed_same _ _ _ _ _ _ _ c.args.hasher.now c.args.store.now c.args.index1.now c.args.index2.now c.requires.keyed c.last_into_hole.new.self c.in_default.ensures.none_moves

pub returns-in_default-clause-moves1 : goal.returns-in_default-clause-moves1
returns-in_default-clause-moves1 g c =
    let old = c.args.store.now in
    let moved = c.last_into_hole.ensures in
    record {
      items = subst (λ xs. IsPermutation (items_in old) xs) (sym (same_items c.last_into_hole.new.self.slots old.slots c.in_default.ensures.none_moves)) (IsPermutation-refl (items_in old));
      len = moved.len;
      spare = refl;
      bounds = record { capacity = moved.capacity; limit = moved.limit };
    }

pub returns-in_default-clause-moves2 : goal.returns-in_default-clause-moves2
returns-in_default-clause-moves2 g c =
    let old = c.args.store.now in
    let moved = c.last_into_hole.ensures in
    record {
      items = subst (λ xs. IsPermutation (items_in old) xs) (sym (same_items c.last_into_hole.new.self.slots old.slots c.in_default.ensures.none_moves)) (IsPermutation-refl (items_in old));
      len = moved.len;
      spare = refl;
      bounds = record { capacity = moved.capacity; limit = moved.limit };
    }

pub overflow_sub-last : goal.overflow_sub-last
overflow_sub-last g c = search rules
