use Rattle.std.proofs.Common.{◌∙◌, map, sym, ap, refl, rules}
use Rattle.iddqd_store.specs.Errors.{values_of}
use Rattle.iddqd_store.specs.Hashing.{hash_under}
use Rattle.iddqd_store.specs.SlotItems.{item_of_slot}
use Rattle.iddqd_bi_hash.proofs.BothLemmas.{unchanged}
use Rattle.iddqd_bi_hash.proofs.MetLemmas.{neither_found, shown_met}
use Rattle.iddqd_bi_hash.proofs.bi_hash_map.BiHashMap.insert_unique.Goals as goal

pub slots_met-requires-clause-hashes : goal.slots_met-requires-clause-hashes
slots_met-requires-clause-hashes g c =
    let hash = hash_under g.S.BuildHasher g.S.Hasher.Hasher in
    record {
      one = c.hash_one-hash1.ensures ∙ ap (λ k. hash c.self.inside.hasher (g.T.K1.Hash.hash_input k)) c.key1.ensures ∙ ap (λ v. hash v.hasher (g.T.K1.Hash.hash_input (g.T.BiHashItem.key1 c.args.item))) c.self.view_is;
      other = c.hash_one-hash2.ensures ∙ ap (λ k. hash c.self.inside.hasher (g.T.K2.Hash.hash_input k)) c.key2.ensures ∙ ap (λ v. hash v.hasher (g.T.K2.Hash.hash_input (g.T.BiHashItem.key2 c.args.item))) c.self.view_is;
    }

pub insert_hashed-requires-clause-absent : goal.insert_hashed-requires-clause-absent
insert_hashed-requires-clause-absent g c = sym c.in_default.ensures.met

pub returns-in-Some : goal.returns-in-Some
returns-in-Some g c =
    let m = c.self.inside in
    let now = c.args.self.now in
    let kept = unchanged _ _ _ _ _ _ _ m.hasher m.store m.index1 m.index2 now c.self.view_is c.requires.keyed c.self.invariant in
    let shown = ap (map (λ lent. lent.now)) c.internal_new.ensures.duplicates
    ∙ shown_met (item_of_slot now.slots now.items) (values_of c.items_in_slots-existing.result) (values_of c.in-Some.slots) c.items_in_slots-existing.ensures
    ∙ c.in-Some.ensures.met in (
      (refl, λ _ h. cc, (kept, refl)),
      record { after = tt; absent1 = tt; absent2 = tt; refused = (c.internal_new.ensures.new, shown); no_spare = tt },
    )

pub returns-in-Ok : goal.returns-in-Ok
returns-in-Ok g c =
    let x = c.args.item in
    let none = neither_found (λ y. g.T.K1.PartialEq.eq (g.T.BiHashItem.key1 x) (g.T.BiHashItem.key1 y)) (λ y. g.T.K2.PartialEq.eq (g.T.BiHashItem.key2 x) (g.T.BiHashItem.key2 y)) c.args.self.now.items (sym c.in_default.ensures.met) in
    let absent1 = none.0 in
    let absent2 = none.1 in
    search rules
