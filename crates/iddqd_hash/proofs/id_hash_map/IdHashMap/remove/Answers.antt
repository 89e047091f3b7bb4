use Rattle.std.proofs.Common.{◌≡◌, ◌∙◌, ◌+◌, sym, ap, subst, refl, slice_get, rules}
use Rattle.std.specs.List.{remove}
use Rattle.iddqd_hash_index.specs.HashPairs.{HashPairs}
use Rattle.iddqd_store.specs.Contents.{IsAbsent, items_without}
use Rattle.iddqd_store.specs.Hashing.{hash_under}
use Rattle.iddqd_store.specs.Holding.{LosesPlace}
use Rattle.iddqd_store.specs.Store.{Store}
use Rattle.iddqd_hash_parts.specs.HashItems.{HashItems, IsKeyed, KeyedItems}
use Rattle.iddqd_hash.specs.HashMap.{HashStays, KeepsSpare}
use Rattle.iddqd_hash_parts.specs.StoreAndIndex.{items_in, map_of}
use Rattle.iddqd_hash_parts.proofs.FoundLemmas.{found_passes, without_absent}
use Rattle.iddqd_hash_parts.proofs.MapLemmas.{listed_under_query, same_spare, taken_items, taken_keyed, taken_spare}
use Rattle.iddqd_hash_parts.proofs.SlotItemLemmas.{slot_left}
use Rattle.iddqd_hash.proofs.id_hash_map.IdHashMap.remove.Goals as goal

pub remove_found-requires-clause-stored : goal.remove_found-requires-clause-stored
unfolding IsKeyed
remove_found-requires-clause-stored g c =
    let input = g.T.Key.Hash.hash_input in
    let hash = hash_under g.S.BuildHasher g.S.Hasher.Hasher in
    let m = c.self.inside in
    listed_under_query g.T.IdHashItem.key g.T.Key.PartialEq.eq input hash m.hasher m.store m.index (subst (KeyedItems g.T.IdHashItem.key g.T.Key.PartialEq.eq input hash) (sym c.self.view_is) c.requires.keyed) (g.Q.Equivalent.equivalent c.args.query.now) c.hash_one-hash.result
    (λ k stands. ap (hash m.hasher) (sym (c.requires.hashes k stands)) ∙ sym c.hash_one-hash.ensures)

-- a map of the same store and index is the same
same_map : {S T : Type 0} (old new : Store T) (index left : HashPairs) (hasher : S) (now : HashItems S T) → new ≡ old → left ≡ index → map_of old index hasher ≡ now → map_of new left hasher ≡ now
same_map old new index left hasher now store pairs view = (λ i. map_of (store i) (pairs i) hasher) ∙ view

pub returns-in_err-item-clause-items : goal.returns-in_err-item-clause-items
returns-in_err-item-clause-items g c =
    let key = g.T.IdHashItem.key in
    let test = g.Q.Equivalent.equivalent c.args.query.now in
    let m = c.self.inside in
    let none = c.in_err-item.ensures in
    let same = same_map m.store c.remove_found.new.store m.index c.remove_found.new.index m.hasher c.args.self.now none.store none.index c.self.view_is in
    ap (λ v. v.items) same ∙ without_absent key test c.args.self.now.items (subst (λ v. IsAbsent key test v.items) c.self.view_is (sym none.found))

pub returns-in_err-item-clause-stays : goal.returns-in_err-item-clause-stays
returns-in_err-item-clause-stays g c =
    let m = c.self.inside in
    let none = c.in_err-item.ensures in
    let same = same_map m.store c.remove_found.new.store m.index c.remove_found.new.index m.hasher c.args.self.now none.store none.index c.self.view_is in
    let IsKeptMap = IsKeyed g.T.IdHashItem.key g.T.Key.PartialEq.eq g.T.Key.Hash.hash_input (hash_under g.S.BuildHasher g.S.Hasher.Hasher) in
    subst (λ v. HashStays IsKeptMap c.args.self.now v) (sym same) (record {
      keyed = c.requires.keyed;
      spare = subst (λ v. KeepsSpare v v) c.self.view_is (same_spare m.hasher m.store m.index c.self.invariant);
      hasher = refl;
    })

pub returns-in_err-item-clause-unchanged : goal.returns-in_err-item-clause-unchanged
returns-in_err-item-clause-unchanged g c =
    let m = c.self.inside in
    let none = c.in_err-item.ensures in
    rw c.from_residual.ensures (same_map m.store c.remove_found.new.store m.index c.remove_found.new.index m.hasher c.args.self.now none.store none.index c.self.view_is)

pub returns-clause-items : goal.returns-clause-items
unfolding IsKeyed
returns-clause-items g c =
    let key = g.T.IdHashItem.key in
    let eq = g.T.Key.PartialEq.eq in
    let input = g.T.Key.Hash.hash_input in
    let hash = hash_under g.S.BuildHasher g.S.Hasher.Hasher in
    let test = g.Q.Equivalent.equivalent c.args.query.now in
    let m = c.self.inside in
    let new = c.remove_found.new in
    let out = c.in_ok-item.ensures.removed in
    let x = c.in_ok-item.item in
    let keyed = subst (KeyedItems key eq input hash) (sym c.self.view_is) c.requires.keyed in
    let passes = found_passes key test (items_in m.store) x (sym c.in_ok-item.ensures.found) in
    taken_items key eq input hash m.hasher m.store new.store m.index new.index c.self.invariant out.paired g.met.T.Key.Eq.laws test (g.met.Q.Equivalent.one_key c.args.query.now) keyed c.in_ok-item.field-0-0 x out.item passes out.updates
    ∙ ap (λ v. items_without key test v.items) c.self.view_is

pub returns-clause-stays : goal.returns-clause-stays
unfolding IsKeyed
returns-clause-stays g c =
    let key = g.T.IdHashItem.key in
    let eq = g.T.Key.PartialEq.eq in
    let input = g.T.Key.Hash.hash_input in
    let hash = hash_under g.S.BuildHasher g.S.Hasher.Hasher in
    let test = g.Q.Equivalent.equivalent c.args.query.now in
    let m = c.self.inside in
    let new = c.remove_found.new in
    let out = c.in_ok-item.ensures.removed in
    let x = c.in_ok-item.item in
    let keyed = subst (KeyedItems key eq input hash) (sym c.self.view_is) c.requires.keyed in
    let passes = found_passes key test (items_in m.store) x (sym c.in_ok-item.ensures.found) in
    let one_key = g.met.Q.Equivalent.one_key c.args.query.now in
    record {
      keyed = taken_keyed key eq input hash m.hasher m.store new.store m.index new.index c.self.invariant out.paired g.met.T.Key.Eq.laws test one_key keyed c.in_ok-item.field-0-0 x out.item passes c.hash_one-hash.result out.pairs out.updates;
      spare = subst (λ old. KeepsSpare old (map_of new.store new.index m.hasher)) c.self.view_is
          (taken_spare key eq input hash m.hasher m.store new.store m.index new.index c.self.invariant out.paired g.met.T.Key.Eq.laws test one_key keyed c.in_ok-item.field-0-0 x out.item passes out.spare out.len out.bounds.capacity out.bounds.limit);
      hasher = ap (λ v. v.hasher) c.self.view_is;
    }

pub returns-clause-removed : goal.returns-clause-removed
unfolding LosesPlace
returns-clause-removed g c =
    let out = c.in_ok-item.ensures.removed in
    let left = slot_left c.self.inside.store.slots c.remove_found.new.store.slots c.in_ok-item.field-0-0 c.in_ok-item.item out.item out.updates.changed out.updates.others in
    record {
      slots = record {
        place = left.place;
        there = ap (λ v. slice_get v.items left.place) (sym c.self.view_is) ∙ left.there;
        items = left.items ∙ ap (λ v. remove v.items left.place) c.self.view_is;
        slots = left.slots ∙ ap (λ v. remove v.slots left.place) c.self.view_is;
      };
      vacant = out.vacant ∙ ap (λ v. v.vacant + 1) c.self.view_is;
      unchanged = tt;
      capacity = out.bounds.capacity ∙ ap (λ v. v.capacity) c.self.view_is;
      limit = out.bounds.limit ∙ ap (λ v. v.limit) c.self.view_is;
    }

pub returns-clause-value : goal.returns-clause-value
returns-clause-value g c = search rules
