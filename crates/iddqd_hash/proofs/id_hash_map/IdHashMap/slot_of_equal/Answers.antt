use Rattle.std.proofs.Common.{◌∙◌, sym, ap, subst}
use Rattle.iddqd_store.specs.Hashing.{hash_under}
use Rattle.iddqd_hash_parts.specs.HashItems.{FindsSlot}
use Rattle.iddqd_hash.proofs.id_hash_map.IdHashMap.slot_of_equal.Goals as goal

pub slot_by_key-requires-clause-hash : goal.slot_by_key-requires-clause-hash
slot_by_key-requires-clause-hash g c k stands =
    let hash = hash_under g.S.BuildHasher g.S.Hasher.Hasher in
    ap (hash c.args.self.now.hasher) (sym (g.met.T.Key.Hash.respects_eq c.key.result.now k stands) ∙ ap g.T.Key.Hash.hash_input c.key.ensures) ∙ sym c.requires.hash

pub returns-clause-slot : goal.returns-clause-slot
returns-clause-slot g c = subst (λ k. FindsSlot g.T.IdHashItem.key (g.T.Key.PartialEq.eq k) c.args.self.now c.args.hash c.slot_by_key.result) c.key.ensures c.slot_by_key.ensures.slot
