use Rattle.std.proofs.Common.{◌∙◌, sym, ap, refl}
use Rattle.iddqd_store.specs.Hashing.{hash_under}
use Rattle.iddqd_store.specs.SlotItems.{item_of_slot}
use Rattle.iddqd_store.proofs.OrderLemmas.{found_answers}
use Rattle.iddqd_store.proofs.WrittenLemmas.{others_found, written_found}
use Rattle.iddqd_hash_parts.specs.HashItems.{IsKeyed}
use Rattle.iddqd_hash_parts.proofs.FoundLemmas.{replaced_absent, without_absent}
use Rattle.iddqd_hash.proofs.id_hash_map.IdHashMap.entry.Goals as goal

pub slot_by_key-requires-clause-hash : goal.slot_by_key-requires-clause-hash
slot_by_key-requires-clause-hash g c k stands =
    let hash = hash_under g.S.BuildHasher g.S.Hasher.Hasher in
    ap (λ v. hash v.hasher (g.T.Key.Hash.hash_input k)) (sym c.self.view_is) ∙ ap (hash c.self.inside.hasher) (sym (c.requires.hashes k stands)) ∙ sym c.hash_one-hash.ensures

pub invariant_of-result : goal.invariant_of-result
invariant_of-result g c = record { there = c.in-Some.ensures.slot.there; listed = c.in-Some.ensures.slot.listed }

pub returns-in-Some-clause-entry : goal.returns-in-Some-clause-entry
unfolding IsKeyed
returns-in-Some-clause-entry g c =
    let key = g.T.IdHashItem.key in
    let now = c.args.self.now in
    let test = g.Q.Equivalent.equivalent c.args.query.now in
    let one_key = g.met.Q.Equivalent.one_key c.args.query.now in
    let laws = g.met.T.Key.Eq.laws in
    let differ = c.requires.keyed.differ in
    let slot = c.in-Some.slot in
    let found = c.in-Some.ensures.slot in
    record {
      lender = refl;
      map = refl;
      item = found.item;
      written = λ w. written_found key laws test one_key now.slots now.items differ slot w found.there (sym found.item);
      others = others_found key laws test one_key now.slots now.items differ slot found.there (sym found.item);
    }

pub returns-in-Some-clause-akin : goal.returns-in-Some-clause-akin
returns-in-Some-clause-akin g c =
    let key = g.T.IdHashItem.key in
    let test = g.Q.Equivalent.equivalent c.args.query.now in
    let now = c.args.self.now in
    found_answers (λ x. test (key x)) now.items (item_of_slot now.slots now.items c.in-Some.slot) c.in-Some.ensures.slot.item

pub returns-in-None-clause-entry : goal.returns-in-None-clause-entry
returns-in-None-clause-entry g c =
    let key = g.T.IdHashItem.key in
    let test = g.Q.Equivalent.equivalent c.args.query.now in
    let items = c.args.self.now.items in
    let absent = sym c.in-None.ensures.slot.item in
    record {
      lender = refl;
      map = refl;
      item = sym absent;
      written = λ w. replaced_absent key test w items absent;
      others = without_absent key test items absent;
    }
