use Rattle.std.proofs.Common.{◌∙◌, ap, refl}
use Rattle.iddqd_store.specs.Hashing.{hash_under}
use Rattle.iddqd_bi_hash.proofs.BothLemmas.{unchanged}
use Rattle.iddqd_bi_hash.proofs.OverwrittenLemmas.{met_none}
use Rattle.iddqd_bi_hash.proofs.bi_hash_map.BiHashMap.insert_or_halt.Goals as goal

pub slots_displaced-requires-clause-hashes : goal.slots_displaced-requires-clause-hashes
slots_displaced-requires-clause-hashes g c =
    let hash = hash_under g.S.BuildHasher g.S.Hasher.Hasher in
    record {
      one = c.hash_one-hash1.ensures ∙ ap (λ k. hash c.self.inside.hasher (g.T.K1.Hash.hash_input k)) c.key1.ensures ∙ ap (λ v. hash v.hasher (g.T.K1.Hash.hash_input (g.T.BiHashItem.key1 c.args.item))) c.self.view_is;
      other = c.hash_one-hash2.ensures ∙ ap (λ k. hash c.self.inside.hasher (g.T.K2.Hash.hash_input k)) c.key2.ensures ∙ ap (λ v. hash v.hasher (g.T.K2.Hash.hash_input (g.T.BiHashItem.key2 c.args.item))) c.self.view_is;
    }

pub insert_hashed-requires-clause-absent : goal.insert_hashed-requires-clause-absent
insert_hashed-requires-clause-absent g c = met_none g.T.BiHashItem.key1 g.T.BiHashItem.key2 g.T.K1.PartialEq.eq g.T.K2.PartialEq.eq c.args.item c.args.self.now.items c.in-None.ensures.met

pub returns-in-Some-clause-halted : goal.returns-in-Some-clause-halted
returns-in-Some-clause-halted g c = (refl, c.in-Some.ensures.there, c.in-Some.ensures.met)

pub returns-in-Some-clause-kept : goal.returns-in-Some-clause-kept
returns-in-Some-clause-kept g c =
    let m = c.self.inside in
    unchanged _ _ _ _ _ _ _ m.hasher m.store m.index1 m.index2 c.args.self.now c.self.view_is c.requires.keyed c.self.invariant
