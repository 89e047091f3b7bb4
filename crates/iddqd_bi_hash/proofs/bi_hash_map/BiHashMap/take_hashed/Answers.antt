use Rattle.std.proofs.Common.{◌∙◌, ◌+◌, sym, ap, is_some}
use Rattle.std.specs.List.{remove, slice_get}
use Rattle.iddqd_store.specs.SlotItems.{item_of_slot}
use Rattle.iddqd_store.specs.Holding.{LosesPlace}
use Rattle.iddqd_hash_parts.proofs.GetMutLemmas.{item_in_slot}
use Rattle.iddqd_hash_parts.proofs.InSlotLemmas.{listed_told, place_lost}
use Rattle.iddqd_hash_parts.proofs.SlotItemLemmas.{slot_left}
use Rattle.iddqd_bi_hash.specs.BiHashItems.{differ_by_key1, differ_by_key2}
use Rattle.iddqd_bi_hash.specs.StoreAndIndexes.{bi_map_of}
use Rattle.iddqd_bi_hash.proofs.BothLemmas.{taken_stays}
use Rattle.iddqd_bi_hash.proofs.TakenLemmas.{taken}
use Rattle.iddqd_bi_hash.proofs.bi_hash_map.BiHashMap.take_hashed.Goals as goal

pub remove_from_all-requires-clause-listed1 : goal.remove_from_all-requires-clause-listed1
remove_from_all-requires-clause-listed1 g c =
    let m = c.self.inside in
    let slot = c.args.slot in
    let some = ap is_some (sym (item_in_slot m.store.slots slot)) ∙ ap (λ v. is_some (item_of_slot v.slots v.items slot)) c.self.view_is ∙ c.requires.there in
    listed_told m.store m.index1.pairs c.self.invariant.one c.args.hash1 slot some (ap (λ v. item_of_slot v.slots v.hashes1 slot) c.self.view_is ∙ c.requires.listed1)

pub remove_from_all-requires-clause-listed2 : goal.remove_from_all-requires-clause-listed2
remove_from_all-requires-clause-listed2 g c =
    let m = c.self.inside in
    let slot = c.args.slot in
    let some = ap is_some (sym (item_in_slot m.store.slots slot)) ∙ ap (λ v. is_some (item_of_slot v.slots v.items slot)) c.self.view_is ∙ c.requires.there in
    listed_told m.store m.index2.pairs c.self.invariant.other c.args.hash2 slot some (ap (λ v. item_of_slot v.slots v.hashes2 slot) c.self.view_is ∙ c.requires.listed2)

pub returns-clause-value : goal.returns-clause-value
returns-clause-value g c =
    let m = c.self.inside in
    ap (λ v. item_of_slot v.slots v.items c.args.slot) (sym c.self.view_is) ∙ item_in_slot m.store.slots c.args.slot ∙ c.remove_from_all.ensures.item

pub returns-clause-gone : goal.returns-clause-gone
returns-clause-gone g c at there =
    let m = c.self.inside in
    let lost = place_lost m.store c.remove_from_all.new.store c.args.slot c.remove_from_all.result c.remove_from_all.ensures.item c.remove_from_all.ensures.updates at (ap (λ v. slice_get v.slots at) c.self.view_is ∙ there) in
    (lost.0 ∙ ap (λ v. remove v.items at) c.self.view_is, lost.1 ∙ ap (λ v. remove v.slots at) c.self.view_is)

pub returns-clause-stays : goal.returns-clause-stays
returns-clause-stays g c =
    let m = c.self.inside in
    let out = c.remove_from_all in
    taken_stays _ _ _ _ _ _ _ m.hasher m.store out.new.store m.index1 m.index2 out.new.index1 out.new.index2 c.self.invariant out.ensures.paired _ c.self.view_is g.met.T.K1.Eq.laws g.met.T.K2.Eq.laws c.requires.keyed c.args.slot out.result out.ensures.item out.ensures.updates
    c.args.hash1 c.args.hash2 out.ensures.pairs1 out.ensures.pairs2 out.ensures.spare1 out.ensures.spare2 out.ensures.len out.ensures.bounds

pub returns-clause-removed : goal.returns-clause-removed
unfolding LosesPlace
returns-clause-removed g c =
    let out = c.remove_from_all.ensures in
    let left = slot_left c.self.inside.store.slots c.remove_from_all.new.store.slots c.args.slot c.remove_from_all.result out.item out.updates.changed out.updates.others in
    record {
      slots = record {
        place = left.place;
        there = ap (λ v. slice_get v.items left.place) (sym c.self.view_is) ∙ left.there;
        items = left.items ∙ ap (λ v. remove v.items left.place) c.self.view_is;
        slots = left.slots ∙ ap (λ v. remove v.slots left.place) c.self.view_is;
      };
      vacant = out.vacant ∙ ap (λ v. v.vacant + 1) c.self.view_is;
      unchanged = tt;
      capacity = out.bounds.capacity ∙ ap (λ v. v.capacity) c.self.view_is;
      limit = out.bounds.limit ∙ ap (λ v. v.limit) c.self.view_is;
    }

pub returns-clause-alone : goal.returns-clause-alone
returns-clause-alone g c =
    let old = c.args.self.now in
    let out = c.remove_from_all.new in
    (taken g.T.BiHashItem.key1 g.T.BiHashItem.key2 g.met.T.K1.Eq.laws g.met.T.K2.Eq.laws old (bi_map_of out.store out.index1 out.index2 c.self.inside.hasher) c.args.slot c.remove_from_all.result (returns-clause-value g c) (returns-clause-gone g c)
    (differ_by_key1 _ _ _ _ _ _ _ old c.requires.keyed) (differ_by_key2 _ _ _ _ _ _ _ old c.requires.keyed)).alone

pub returns-clause-gone1 : goal.returns-clause-gone1
returns-clause-gone1 g c =
    let old = c.args.self.now in
    let out = c.remove_from_all.new in
    (taken g.T.BiHashItem.key1 g.T.BiHashItem.key2 g.met.T.K1.Eq.laws g.met.T.K2.Eq.laws old (bi_map_of out.store out.index1 out.index2 c.self.inside.hasher) c.args.slot c.remove_from_all.result (returns-clause-value g c) (returns-clause-gone g c)
    (differ_by_key1 _ _ _ _ _ _ _ old c.requires.keyed) (differ_by_key2 _ _ _ _ _ _ _ old c.requires.keyed)).gone1

pub returns-clause-gone2 : goal.returns-clause-gone2
returns-clause-gone2 g c =
    let old = c.args.self.now in
    let out = c.remove_from_all.new in
    (taken g.T.BiHashItem.key1 g.T.BiHashItem.key2 g.met.T.K1.Eq.laws g.met.T.K2.Eq.laws old (bi_map_of out.store out.index1 out.index2 c.self.inside.hasher) c.args.slot c.remove_from_all.result (returns-clause-value g c) (returns-clause-gone g c)
    (differ_by_key1 _ _ _ _ _ _ _ old c.requires.keyed) (differ_by_key2 _ _ _ _ _ _ _ old c.requires.keyed)).gone2
