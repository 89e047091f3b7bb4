use Rattle.std.proofs.Common.{◌≡◌, ◌∙◌, refl, sym, ap, subst, true, false, true≢false}
use Rattle.std.specs.List.{AllByRecursion, filter_map}
use Rattle.std.specs.Option.{option_and_then}
use Rattle.iddqd_store.specs.Contents.{IsAbsent, find_item}
use Rattle.iddqd_store.specs.Hashing.{hash_under}
use Rattle.iddqd_store.specs.SlotItems.{item_of_slot}
use Rattle.iddqd_store.proofs.WrittenLemmas.{written_found}
use Rattle.iddqd_bi_hash.specs.BiHashItems.{differ_by_key1, differ_by_key2}
use Rattle.iddqd_bi_hash.specs.BiHashMap.{IsOccupied}
use Rattle.iddqd_bi_hash.specs.TwoKeys.{find_by_both, without_slots}
use Rattle.iddqd_bi_hash.proofs.EntryLemmas.{both_item, item_if, left_lacks1, left_lacks2, same_slots}
use Rattle.iddqd_bi_hash.proofs.SlotsLemmas.{both_found_same, found_items, found_left, found_there, none_same, pair_each}
use Rattle.iddqd_bi_hash.proofs.UniqueLemmas.{both_found}
use Rattle.iddqd_bi_hash.proofs.bi_hash_map.BiHashMap.entry.Goals as goal

pub slot_by_key1-one-requires-clause-hash : goal.slot_by_key1-one-requires-clause-hash
slot_by_key1-one-requires-clause-hash g c k stands =
    let hash = hash_under g.S.BuildHasher g.S.Hasher.Hasher in
    ap (λ v. hash v.hasher (g.T.K1.Hash.hash_input k)) (sym c.self.view_is) ∙ ap (hash c.self.inside.hasher) (sym (c.requires.hashes1 k stands)) ∙ sym c.hash_one-hash1.ensures

pub slot_by_key2-other-requires-clause-hash : goal.slot_by_key2-other-requires-clause-hash
slot_by_key2-other-requires-clause-hash g c k stands =
    let hash = hash_under g.S.BuildHasher g.S.Hasher.Hasher in
    ap (λ v. hash v.hasher (g.T.K2.Hash.hash_input k)) (sym c.self.view_is) ∙ ap (hash c.self.inside.hasher) (sym (c.requires.hashes2 k stands)) ∙ sym c.hash_one-hash2.ensures

pub invariant_of-result : goal.invariant_of-result
invariant_of-result g c =
    let now = c.args.self.now in
    let one = c.slot_by_key1-one in
    let other = c.slot_by_key2-other in
    let told = c.in-Some.ensures in
    let occupied = IsOccupied now in
    let both = pair_each occupied c.in-Some.first c.in-Some.second (subst (AllByRecursion occupied) (sym told) (found_there occupied one.result other.result one.ensures.slot.there other.ensures.slot.there)) in
    record { there1 = both.0; there2 = both.1; same = λ unique. (same_slots one.result other.result c.in-Some.first c.in-Some.second told (sym c.is_one_slot-unique.ensures ∙ unique)).1 }

pub returns-in-Some : goal.returns-in-Some
returns-in-Some g c =
    let now = c.args.self.now in
    let key1 = g.T.BiHashItem.key1 in
    let key2 = g.T.BiHashItem.key2 in
    let test1 = g.Q.Equivalent.equivalent c.args.query1.now in
    let test2 = g.R.Equivalent.equivalent c.args.query2.now in
    let one = c.slot_by_key1-one in
    let other = c.slot_by_key2-other in
    let found1 = one.ensures.slot.item in
    let found2 = other.ensures.slot.item in
    let only1 = one.ensures.slot.only in
    let only2 = other.ensures.slot.only in
    let apart1 = differ_by_key1 _ _ _ _ _ _ _ now c.requires.keyed in
    let apart2 = differ_by_key2 _ _ _ _ _ _ _ now c.requires.keyed in
    let told = c.in-Some.ensures in
    let others = ap (without_slots now.slots now.items) told ∙ found_left key1 key2 g.met.T.K1.Eq.laws g.met.T.K2.Eq.laws test1 test2 (g.met.Q.Equivalent.one_key c.args.query1.now) (g.met.R.Equivalent.one_key c.args.query2.now) now.slots now.items apart1 apart2 one.result other.result found1 found2 only1 only2 in
    let is_unique = c.is_one_slot-unique.ensures ∙ both_found_same key1 key2 g.met.T.K1.Eq.laws g.met.T.K2.Eq.laws test1 test2 (g.met.Q.Equivalent.one_key c.args.query1.now) (g.met.R.Equivalent.one_key c.args.query2.now) now.slots now.items apart1 apart2 one.result other.result found1 found2 only1 only2 in
    let occupied = IsOccupied now in
    let both = pair_each occupied c.in-Some.first c.in-Some.second (subst (AllByRecursion occupied) (sym told) (found_there occupied one.result other.result one.ensures.slot.there other.ensures.slot.there)) in
    let found : c.is_one_slot-unique.result ≡ true → item_of_slot now.slots now.items c.in-Some.first ≡ find_item key1 test1 now.items =
    λ unique. ap (option_and_then (item_of_slot now.slots now.items)) (sym (same_slots one.result other.result c.in-Some.first c.in-Some.second told (sym c.is_one_slot-unique.ensures ∙ unique)).0) ∙ found1 in
    record {
      lender = refl;
      map = refl;
      items = ap (filter_map (item_of_slot now.slots now.items)) told ∙ found_items key1 key2 g.met.T.K1.Eq.laws g.met.T.K2.Eq.laws test1 test2 (g.met.Q.Equivalent.one_key c.args.query1.now) (g.met.R.Equivalent.one_key c.args.query2.now) now.slots now.items apart1 apart2 one.result other.result found1 found2 only1 only2;
      others = others;
      absent1 = subst (IsAbsent key1 test1) (sym others) (left_lacks1 key1 key2 test1 test2 now.items);
      absent2 = subst (IsAbsent key2 test2) (sym others) (left_lacks2 key1 key2 test1 test2 now.items);
      unique = is_unique;
      item = item_if c.is_one_slot-unique.result (item_of_slot now.slots now.items c.in-Some.first) (find_item key1 test1 now.items) found ∙ both_item (λ y. test2 (key2 y)) (find_item key1 test1 now.items) (find_by_both key1 key2 test1 test2 now.items) (both_found key1 key2 test1 (g.met.Q.Equivalent.one_key c.args.query1.now) test2 now.items apart1) c.is_one_slot-unique.result is_unique;
      written = λ unique w. written_found key1 g.met.T.K1.Eq.laws test1 (g.met.Q.Equivalent.one_key c.args.query1.now) now.slots now.items apart1 c.in-Some.first w both.0 (sym (found unique));
    }

pub returns-in-None : goal.returns-in-None
returns-in-None g c =
    let now = c.args.self.now in
    let key1 = g.T.BiHashItem.key1 in
    let key2 = g.T.BiHashItem.key2 in
    let test1 = g.Q.Equivalent.equivalent c.args.query1.now in
    let test2 = g.R.Equivalent.equivalent c.args.query2.now in
    let one = c.slot_by_key1-one in
    let other = c.slot_by_key2-other in
    let found1 = one.ensures.slot.item in
    let found2 = other.ensures.slot.item in
    let only1 = one.ensures.slot.only in
    let only2 = other.ensures.slot.only in
    let apart1 = differ_by_key1 _ _ _ _ _ _ _ now c.requires.keyed in
    let apart2 = differ_by_key2 _ _ _ _ _ _ _ now c.requires.keyed in
    let told = c.in-None.ensures in
    let others = ap (without_slots now.slots now.items) told ∙ found_left key1 key2 g.met.T.K1.Eq.laws g.met.T.K2.Eq.laws test1 test2 (g.met.Q.Equivalent.one_key c.args.query1.now) (g.met.R.Equivalent.one_key c.args.query2.now) now.slots now.items apart1 apart2 one.result other.result found1 found2 only1 only2 in
    let is_unique = none_same one.result other.result told ∙ both_found_same key1 key2 g.met.T.K1.Eq.laws g.met.T.K2.Eq.laws test1 test2 (g.met.Q.Equivalent.one_key c.args.query1.now) (g.met.R.Equivalent.one_key c.args.query2.now) now.slots now.items apart1 apart2 one.result other.result found1 found2 only1 only2 in
    record {
      lender = refl;
      map = refl;
      items = ap (filter_map (item_of_slot now.slots now.items)) told ∙ found_items key1 key2 g.met.T.K1.Eq.laws g.met.T.K2.Eq.laws test1 test2 (g.met.Q.Equivalent.one_key c.args.query1.now) (g.met.R.Equivalent.one_key c.args.query2.now) now.slots now.items apart1 apart2 one.result other.result found1 found2 only1 only2;
      others = others;
      absent1 = subst (IsAbsent key1 test1) (sym others) (left_lacks1 key1 key2 test1 test2 now.items);
      absent2 = subst (IsAbsent key2 test2) (sym others) (left_lacks2 key1 key2 test1 test2 now.items);
      unique = is_unique;
      item = both_item (λ y. test2 (key2 y)) (find_item key1 test1 now.items) (find_by_both key1 key2 test1 test2 now.items) (both_found key1 key2 test1 (g.met.Q.Equivalent.one_key c.args.query1.now) test2 now.items apart1) false is_unique;
      written = λ unique w. absurd (true≢false (sym unique));
    }
