use Rattle.std.proofs.Common.{◌∙◌, ◌+◌, sym, ap, subst, is_some, rules}
use Rattle.std.specs.List.{remove, slice_get}
use Rattle.iddqd_store.specs.Hashing.{hash_under}
use Rattle.iddqd_store.specs.SlotItems.{item_of_slot}
use Rattle.iddqd_store.specs.Holding.{LosesPlace}
use Rattle.iddqd_hash_parts.specs.HashItems.{IsKeyed, KeyedItems}
use Rattle.iddqd_hash.specs.HashMap.{KeepsSpare}
use Rattle.iddqd_hash_parts.specs.StoreAndIndex.{map_of}
use Rattle.iddqd_hash_parts.proofs.SlotItemLemmas.{slot_left}
use Rattle.iddqd_hash_parts.proofs.InSlotLemmas.{listed_told, place_lost}
use Rattle.iddqd_hash_parts.proofs.GetMutLemmas.{item_in_slot}
use Rattle.iddqd_hash_parts.proofs.MapLemmas.{taken_keyed, taken_spare}
use Rattle.iddqd_hash.proofs.id_hash_map.IdHashMap.take_hashed.Goals as goal

pub remove_from_both-requires-clause-listed : goal.remove_from_both-requires-clause-listed
remove_from_both-requires-clause-listed g c =
    let m = c.self.inside in
    let slot = c.args.slot in
    let some = ap is_some (sym (item_in_slot m.store.slots slot)) ∙ ap (λ v. is_some (item_of_slot v.slots v.items slot)) c.self.view_is ∙ c.requires.there in
    listed_told m.store m.index.pairs c.self.invariant c.args.hash slot some (ap (λ v. item_of_slot v.slots v.hashes slot) c.self.view_is ∙ c.requires.listed)

pub returns-clause-value : goal.returns-clause-value
returns-clause-value g c =
    let m = c.self.inside in
    ap (λ v. item_of_slot v.slots v.items c.args.slot) (sym c.self.view_is) ∙ item_in_slot m.store.slots c.args.slot ∙ c.remove_from_both.ensures.item

pub returns-clause-gone : goal.returns-clause-gone
returns-clause-gone g c at there =
    let m = c.self.inside in
    let lost = place_lost m.store c.remove_from_both.new.store c.args.slot c.remove_from_both.result c.remove_from_both.ensures.item c.remove_from_both.ensures.updates at (ap (λ v. slice_get v.slots at) c.self.view_is ∙ there) in
    (lost.0 ∙ ap (λ v. remove v.items at) c.self.view_is, lost.1 ∙ ap (λ v. remove v.slots at) c.self.view_is)

pub returns-clause-stays : goal.returns-clause-stays
unfolding IsKeyed
returns-clause-stays g c =
    let key = g.T.IdHashItem.key in
    let eq = g.T.Key.PartialEq.eq in
    let input = g.T.Key.Hash.hash_input in
    let hash = hash_under g.S.BuildHasher g.S.Hasher.Hasher in
    let equivalence = g.met.T.Key.Eq.laws in
    let m = c.self.inside in
    let out = c.remove_from_both in
    let x = out.result in
    let keyed = subst (KeyedItems key eq input hash) (sym c.self.view_is) c.requires.keyed in
    record {
      keyed = taken_keyed key eq input hash m.hasher m.store out.new.store m.index out.new.index c.self.invariant out.ensures.paired equivalence (eq (key x)) (equivalence.congr (key x)) keyed c.args.slot x out.ensures.item (equivalence.refl (key x)) c.args.hash out.ensures.pairs out.ensures.updates;
      spare = subst (λ old. KeepsSpare old (map_of out.new.store out.new.index m.hasher)) c.self.view_is
          (taken_spare key eq input hash m.hasher m.store out.new.store m.index out.new.index c.self.invariant out.ensures.paired equivalence (eq (key x)) (equivalence.congr (key x)) keyed c.args.slot x out.ensures.item (equivalence.refl (key x)) out.ensures.spare out.ensures.len out.ensures.bounds.capacity out.ensures.bounds.limit);
      hasher = ap (λ v. v.hasher) c.self.view_is;
    }

pub returns-clause-removed : goal.returns-clause-removed
unfolding LosesPlace
returns-clause-removed g c =
    let out = c.remove_from_both.ensures in
    let left = slot_left c.self.inside.store.slots c.remove_from_both.new.store.slots c.args.slot c.remove_from_both.result out.item out.updates.changed out.updates.others in
    record {
      slots = record {
        place = left.place;
        there = ap (λ v. slice_get v.items left.place) (sym c.self.view_is) ∙ left.there;
        items = left.items ∙ ap (λ v. remove v.items left.place) c.self.view_is;
        slots = left.slots ∙ ap (λ v. remove v.slots left.place) c.self.view_is;
      };
      vacant = out.vacant ∙ ap (λ v. v.vacant + 1) c.self.view_is;
      unchanged = tt;
      capacity = out.bounds.capacity ∙ ap (λ v. v.capacity) c.self.view_is;
      limit = out.bounds.limit ∙ ap (λ v. v.limit) c.self.view_is;
    }

pub invariant_of-self : goal.invariant_of-self
invariant_of-self g c = search rules
