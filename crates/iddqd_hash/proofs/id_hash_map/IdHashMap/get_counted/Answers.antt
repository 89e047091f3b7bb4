use Rattle.std.proofs.Common.{◌∙◌, sym, ap, arith}
use Rattle.iddqd_store.specs.Hashing.{hash_under}
use Rattle.iddqd_hash_parts.specs.HashItems.{of_stored_hash}
use Rattle.iddqd_store.proofs.CountingLemmas.{CountsAtMost-le}
use Rattle.iddqd_hash.proofs.id_hash_map.IdHashMap.get_counted.Goals as goal

pub slot_by_key-requires-clause-hash : goal.slot_by_key-requires-clause-hash
slot_by_key-requires-clause-hash g c k stands =
    let hash = hash_under g.S.BuildHasher g.S.Hasher.Hasher in
    ap (λ v. hash v.hasher (g.T.Key.Hash.hash_input k)) (sym c.self.view_is) ∙ ap (hash c.self.inside.hasher) (sym (c.requires.hashes k stands)) ∙ sym c.hash_one-hash.ensures

pub returns-clause-steps : goal.returns-clause-steps
returns-clause-steps g c =
    let hash = hash_under g.S.BuildHasher g.S.Hasher.Hasher in
    let told = c.hash_one-hash.ensures ∙ ap (λ v. hash v.hasher (g.Q.Hash.hash_input c.args.query.now)) c.self.view_is in
    CountsAtMost-le c.in_ok-slot.ensures.steps (omega (arith, ap (of_stored_hash c.args.self.now) told))

pub returns-in_err-slot-clause-steps : goal.returns-in_err-slot-clause-steps
returns-in_err-slot-clause-steps g c =
    let hash = hash_under g.S.BuildHasher g.S.Hasher.Hasher in
    let told = c.hash_one-hash.ensures ∙ ap (λ v. hash v.hasher (g.Q.Hash.hash_input c.args.query.now)) c.self.view_is in
    CountsAtMost-le c.in_err-slot.ensures.steps (omega (arith, ap (of_stored_hash c.args.self.now) told))
