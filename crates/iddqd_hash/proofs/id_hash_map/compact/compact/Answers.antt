use Rattle.std.proofs.Common.{◌∙◌, refl, sym, subst, rules, IsPermutation}
use Rattle.std.proofs.lemmas.List.Sorted.{IsPermutation-refl, IsPermutation-trans}
use Rattle.iddqd_store.specs.Contents.{NoTwoAkin}
use Rattle.iddqd_store.specs.Hashing.{hash_under}
use Rattle.iddqd_hash_parts.specs.HashItems.{IsKeyed}
use Rattle.iddqd_hash_parts.specs.StoreAndIndex.{items_in}
use Rattle.iddqd_hash_parts.proofs.CompactLemmas.{paired_same, under_kept}
use Rattle.iddqd_hash_parts.proofs.MapLemmas.{keyed_under, make_keyed}
use Rattle.iddqd_hash_parts.proofs.SlotItemLemmas.{same_items}
use Rattle.iddqd_hash.proofs.id_hash_map.compact.compact.Goals as goal

pub loop-store-init : goal.loop-store-init
unfolding IsKeyed
loop-store-init g c =
    let key = g.T.IdHashItem.key in
    let eq = g.T.Key.PartialEq.eq in
    let input = g.T.Key.Hash.hash_input in
    let hash = hash_under g.S.BuildHasher g.S.Hasher.Hasher in
    let hasher = c.args.hasher.now in
    let old = c.args.store.now in
    let new = c.cut_end.new.self in
    let index = c.args.index.now in
    let cut = c.cut_end.ensures in
    let same = same_items new.slots old.slots cut.items in
    record {
      paired = paired_same old new index.pairs cut.items c.requires.paired cut.len cut.capacity cut.limit;
      keyed = make_keyed key eq input hash hasher new index (subst (NoTwoAkin key eq) (sym same) c.requires.keyed.differ) (under_kept old new index.pairs cut.items (λ x. hash hasher (input (key x))) (keyed_under key eq input hash hasher old index c.requires.keyed));
      moves = record {
        items = subst (λ xs. IsPermutation (items_in old) xs) (sym same) (IsPermutation-refl (items_in old));
        len = cut.len;
        spare = refl;
        bounds = record { capacity = cut.capacity; limit = cut.limit };
      };
      cut = cut.cut;
    }

pub loop-store-preserved : goal.loop-store-preserved
unfolding IsKeyed
loop-store-preserved g c =
    let inv = c.loop-store.invariant in
    let moved = c.move_last.ensures in
    record {
      paired = moved.paired;
      keyed = moved.keyed;
      moves = record {
        items = IsPermutation-trans (items_in c.args.store.now) (items_in c.loop-store.store) (items_in c.move_last.new.store) inv.moves.items moved.moves.items;
        len = moved.moves.len ∙ inv.moves.len;
        spare = moved.moves.spare ∙ inv.moves.spare;
        bounds = record { capacity = moved.moves.bounds.capacity ∙ inv.moves.bounds.capacity; limit = moved.moves.bounds.limit ∙ inv.moves.bounds.limit };
      };
      cut = moved.cut;
    }

pub loop-store-smaller : goal.loop-store-smaller
loop-store-smaller g c = search rules
