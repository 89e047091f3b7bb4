use Rattle.std.proofs.Common.{◌≡◌, ◌∙◌, sym, ap, true}
use Rattle.iddqd_store.specs.Hashing.{hash_under}
use Rattle.iddqd_hash_parts.proofs.GetMutLemmas.{keyed_akin_written}
use Rattle.iddqd_hash_parts.specs.HashItems.{IsKeyed}
use Rattle.iddqd_hash.proofs.id_hash_map.IdHashMap.visit_slot.Goals as goal

pub returns-clause-keyed : goal.returns-clause-keyed
unfolding IsKeyed
returns-clause-keyed g c =
    let key = g.T.IdHashItem.key in
    let eq = g.T.Key.PartialEq.eq in
    let x = c.item_in_slot_mut.result.now in
    let akin : eq (key x) (key c.visit.new.item) ≡ true = ap (λ p. eq (key x) (key p.1)) (sym c.visit.ensures) ∙ c.requires.keeps_keys c.args.visitor.now x in
    keyed_akin_written key g.T.Key.Hash.hash_input (hash_under g.S.BuildHasher g.S.Hasher.Hasher) c.args.self.now c.requires.keyed c.args.slot x c.visit.new.item c.item_in_slot_mut.ensures.value g.met.T.Key.Eq.laws g.met.T.Key.Hash.respects_eq akin
