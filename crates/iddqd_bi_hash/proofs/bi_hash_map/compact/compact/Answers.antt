use Rattle.std.proofs.Common.{refl, rules, subst, sym, IsPermutation}
use Rattle.std.proofs.lemmas.List.Sorted.{IsPermutation-refl}
use Rattle.iddqd_hash_parts.specs.StoreAndIndex.{items_in}
use Rattle.iddqd_hash_parts.proofs.SlotItemLemmas.{same_items}
use Rattle.iddqd_bi_hash.proofs.PairedLemmas.{both_same, keyed_same, moves_on}
use Rattle.iddqd_bi_hash.proofs.bi_hash_map.compact.compact.Goals as goal

pub loop-store-init : goal.loop-store-init
loop-store-init g c =
    let old = c.args.store.now in
    let new = c.cut_end.new.self in
    let index1 = c.args.index1.now in
    let index2 = c.args.index2.now in
    let cut = c.cut_end.ensures in
    let items = subst (λ xs. IsPermutation (items_in old) xs) (sym (same_items new.slots old.slots cut.items)) (IsPermutation-refl (items_in old)) in
    record {
      paired = both_same old new index1 index2 cut.items c.requires.paired cut.len cut.capacity cut.limit;
      keyed = keyed_same _ _ _ _ _ _ _ c.args.hasher.now old index1 index2 c.requires.keyed new cut.items;
      moves1 = record { items = items; len = cut.len; spare = refl; bounds = record { capacity = cut.capacity; limit = cut.limit } };
      moves2 = record { items = items; len = cut.len; spare = refl; bounds = record { capacity = cut.capacity; limit = cut.limit } };
      cut = cut.cut;
    }

pub loop-store-preserved : goal.loop-store-preserved
loop-store-preserved g c =
    let inv = c.loop-store.invariant in
    let moved = c.move_last.ensures in
    record {
      paired = moved.paired;
      keyed = moved.keyed;
      moves1 = moves_on c.args.store.now c.loop-store.store c.move_last.new.store c.args.index1.now c.loop-store.index1 c.move_last.new.index1 inv.moves1 moved.moves1;
      moves2 = moves_on c.args.store.now c.loop-store.store c.move_last.new.store c.args.index2.now c.loop-store.index2 c.move_last.new.index2 inv.moves2 moved.moves2;
      cut = moved.cut;
    }

pub loop-store-smaller : goal.loop-store-smaller
loop-store-smaller g c = search rules
