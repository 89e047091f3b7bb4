use Rattle.std.proofs.Common.{◌∙◌, sym, ap}
use Rattle.iddqd_store.specs.Hashing.{hash_under}
use Rattle.iddqd_bi_hash.proofs.bi_hash_map.BiHashMap.remove1.Goals as goal

pub remove_hashed1-requires-clause-hash : goal.remove_hashed1-requires-clause-hash
remove_hashed1-requires-clause-hash g c k stands =
    let hash = hash_under g.S.BuildHasher g.S.Hasher.Hasher in
    ap (λ v. hash v.hasher (g.T.K1.Hash.hash_input k)) (sym c.self.view_is) ∙ ap (hash c.self.inside.hasher) (sym (c.requires.hashes k stands)) ∙ sym c.hash_one-hash.ensures
