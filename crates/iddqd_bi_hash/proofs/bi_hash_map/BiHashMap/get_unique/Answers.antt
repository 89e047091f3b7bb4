use Rattle.std.proofs.Common.{◌∙◌, sym, ap}
use Rattle.iddqd_store.specs.Hashing.{hash_under}
use Rattle.iddqd_bi_hash.proofs.bi_hash_map.BiHashMap.get_unique.Goals as goal

pub slot_by_both-requires-clause-hash : goal.slot_by_both-requires-clause-hash
slot_by_both-requires-clause-hash g c k stands =
    let hash = hash_under g.S.BuildHasher g.S.Hasher.Hasher in
    ap (λ v. hash v.hasher (g.T.K1.Hash.hash_input k)) (sym c.self.view_is) ∙ ap (hash c.self.inside.hasher) (sym (c.requires.hashes k stands)) ∙ sym c.hash_one-hash.ensures
