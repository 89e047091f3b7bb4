use Rattle.std.proofs.Common.{◌∙◌, ap}
use Rattle.iddqd_store.specs.Hashing.{hash_under}
use Rattle.iddqd_bi_hash.proofs.bi_hash_map.BiHashMap.insert_absent.Goals as goal

pub insert_hashed-requires-clause-hashes : goal.insert_hashed-requires-clause-hashes
insert_hashed-requires-clause-hashes g c =
    let hash = hash_under g.S.BuildHasher g.S.Hasher.Hasher in
    record {
      one = c.hash_one-hash1.ensures ∙ ap (λ k. hash c.self.inside.hasher (g.T.K1.Hash.hash_input k)) c.key1.ensures ∙ ap (λ v. hash v.hasher (g.T.K1.Hash.hash_input (g.T.BiHashItem.key1 c.args.item))) c.self.view_is;
      other = c.hash_one-hash2.ensures ∙ ap (λ k. hash c.self.inside.hasher (g.T.K2.Hash.hash_input k)) c.key2.ensures ∙ ap (λ v. hash v.hasher (g.T.K2.Hash.hash_input (g.T.BiHashItem.key2 c.args.item))) c.self.view_is;
    }
