use Rattle.std.proofs.Common.{◌∙◌, Some, refl, sym, ap, is_some}
use Rattle.iddqd_store.specs.Hashing.{hash_under}
use Rattle.iddqd_store.proofs.WrittenLemmas.{others_found, slot_place}
use Rattle.iddqd_bi_hash.specs.BiHashItems.{differ_by_key1}
use Rattle.iddqd_bi_hash.proofs.BothLemmas.{keeps_spare, stored2}
use Rattle.iddqd_bi_hash.proofs.UniqueLemmas.{both_absent, first_is_both}
use Rattle.iddqd_bi_hash.proofs.bi_hash_map.BiHashMap.remove_unique.Goals as goal

pub slot_by_both-requires-clause-hash : goal.slot_by_both-requires-clause-hash
slot_by_both-requires-clause-hash g c k stands =
    let hash = hash_under g.S.BuildHasher g.S.Hasher.Hasher in
    ap (λ v. hash v.hasher (g.T.K1.Hash.hash_input k)) (sym c.self.view_is) ∙ ap (hash c.self.inside.hasher) (sym (c.requires.hashes k stands)) ∙ sym c.hash_one-hash.ensures

-- the other key's hash is the one that is stored
pub take_hashed-requires-clause-listed2 : goal.take_hashed-requires-clause-listed2
take_hashed-requires-clause-listed2 g c =
    let hash = hash_under g.S.BuildHasher g.S.Hasher.Hasher in
    let input = g.T.K2.Hash.hash_input in
    let x = c.item_in_slot.result.now in
    stored2 _ _ _ _ _ _ _ c.args.self.now c.requires.keyed c.in_ok-slot.slot x c.item_in_slot.ensures
    ∙ ap (λ v. Some (hash v.hasher (input (g.T.BiHashItem.key2 x)))) (sym c.self.view_is)
    ∙ ap (λ k. Some (hash c.self.inside.hasher (input k))) (sym c.key2.ensures)
    ∙ ap Some (sym c.hash_one-other.ensures)

pub returns-in_err-slot-clause-items : goal.returns-in_err-slot-clause-items
returns-in_err-slot-clause-items g c =
    both_absent g.T.BiHashItem.key1 g.T.BiHashItem.key2 (g.Q.Equivalent.equivalent c.args.query1.now) (g.met.Q.Equivalent.one_key c.args.query1.now) (g.R.Equivalent.equivalent c.args.query2.now) c.args.self.now.items
    (sym c.in_err-slot.ensures.both)

pub returns-in_err-slot-clause-stays : goal.returns-in_err-slot-clause-stays
returns-in_err-slot-clause-stays g c =
    let m = c.self.inside in
    record { keyed = c.requires.keyed; spare = keeps_spare m.hasher m.store m.index1 m.index2 c.self.invariant _ c.self.view_is; hasher = refl }

pub returns-clause-value : goal.returns-clause-value
returns-clause-value g c = sym c.take_hashed.ensures.value ∙ c.in_ok-slot.ensures.both

pub returns-clause-items : goal.returns-clause-items
returns-clause-items g c =
    let old = c.args.self.now in
    let slot = c.in_ok-slot.slot in
    let taken = c.take_hashed.ensures in
    let differ = differ_by_key1 _ _ _ _ _ _ _ old c.requires.keyed in
    let p = slot_place old.slots old.items slot c.take_hashed.result taken.value in
    (taken.gone p.place p.slot_there).0 ∙ sym p.others
    ∙ others_found g.T.BiHashItem.key1 g.met.T.K1.Eq.laws (g.Q.Equivalent.equivalent c.args.query1.now) (g.met.Q.Equivalent.one_key c.args.query1.now) old.slots old.items differ slot (ap is_some taken.value) (sym c.in_ok-slot.ensures.first.item)
    ∙ first_is_both g.T.BiHashItem.key1 g.T.BiHashItem.key2 (g.Q.Equivalent.equivalent c.args.query1.now) (g.met.Q.Equivalent.one_key c.args.query1.now) (g.R.Equivalent.equivalent c.args.query2.now) old.items differ
    (ap is_some (sym c.in_ok-slot.ensures.both ∙ taken.value))
