use Rattle.std.proofs.Common.{◌∙◌, Some, sym, ap}
use Rattle.iddqd_store.specs.Hashing.{hash_under}
use Rattle.iddqd_bi_hash.proofs.BothLemmas.{stored1, stored2}
use Rattle.iddqd_bi_hash.proofs.bi_hash_map.BiHashMap.take_slot.Goals as goal

pub take_hashed-requires-clause-listed1 : goal.take_hashed-requires-clause-listed1
take_hashed-requires-clause-listed1 g c =
    let hash = hash_under g.S.BuildHasher g.S.Hasher.Hasher in
    let input = g.T.K1.Hash.hash_input in
    let x = c.item_in_slot.result.now in
    stored1 _ _ _ _ _ _ _ c.args.self.now c.requires.keyed c.args.slot x c.item_in_slot.ensures
    ∙ ap (λ v. Some (hash v.hasher (input (g.T.BiHashItem.key1 x)))) (sym c.self.view_is)
    ∙ ap (λ k. Some (hash c.self.inside.hasher (input k))) (sym c.key1.ensures)
    ∙ ap Some (sym c.hash_one-hash1.ensures)

pub take_hashed-requires-clause-listed2 : goal.take_hashed-requires-clause-listed2
take_hashed-requires-clause-listed2 g c =
    let hash = hash_under g.S.BuildHasher g.S.Hasher.Hasher in
    let input = g.T.K2.Hash.hash_input in
    let x = c.item_in_slot-2.result.now in
    stored2 _ _ _ _ _ _ _ c.args.self.now c.requires.keyed c.args.slot x c.item_in_slot-2.ensures
    ∙ ap (λ v. Some (hash v.hasher (input (g.T.BiHashItem.key2 x)))) (sym c.self.view_is)
    ∙ ap (λ k. Some (hash c.self.inside.hasher (input k))) (sym c.key2.ensures)
    ∙ ap Some (sym c.hash_one-hash2.ensures)
