use Rattle.std.proofs.Common.{◌∙◌, sym, ap, subst, arith}
use Rattle.iddqd_store.specs.Hashing.{hash_under}
use Rattle.iddqd_hash_parts.specs.HashItems.{FindsSlot, IsKeyed, KeyedItems}
use Rattle.iddqd_hash.specs.HashMap.{SpareFits}
use Rattle.iddqd_store.proofs.CountingLemmas.{CountsAtMost-le}
use Rattle.iddqd_hash_parts.proofs.HashCountLemmas.{bound_of}
use Rattle.iddqd_hash_parts.proofs.InSlotLemmas.{finds_slot}
use Rattle.iddqd_hash_parts.proofs.MapLemmas.{listed_under_query, spare_fits}
use Rattle.iddqd_hash.proofs.id_hash_map.IdHashMap.slot_by_key.Goals as goal

pub find_slot-requires-clause-stored : goal.find_slot-requires-clause-stored
unfolding IsKeyed
find_slot-requires-clause-stored g c =
    let key = g.T.IdHashItem.key in
    let eq = g.T.Key.PartialEq.eq in
    let input = g.T.Key.Hash.hash_input in
    let hash = hash_under g.S.BuildHasher g.S.Hasher.Hasher in
    let m = c.self.inside in
    listed_under_query key eq input hash m.hasher m.store m.index (subst (KeyedItems key eq input hash) (sym c.self.view_is) c.requires.keyed) (g.Q.Equivalent.equivalent c.args.query.now) c.args.hash
    (λ k stands. ap (λ v. hash v.hasher (input k)) c.self.view_is ∙ c.requires.hash k stands)

pub returns-clause-slot : goal.returns-clause-slot
returns-clause-slot g c =
    let m = c.self.inside in
    let key = g.T.IdHashItem.key in
    let test = g.Q.Equivalent.equivalent c.args.query.now in
    let found = c.find_slot.ensures in
    subst (λ v. FindsSlot key test v c.args.hash c.find_slot.result) c.self.view_is
    (finds_slot key test m.hasher m.store m.index c.self.invariant c.args.hash c.find_slot.result found.item found.only found.listed)

pub returns-clause-spare_fits : goal.returns-clause-spare_fits
returns-clause-spare_fits g c =
    let m = c.self.inside in
    subst SpareFits c.self.view_is (spare_fits m.hasher m.store m.index c.self.invariant)

pub returns-clause-steps : goal.returns-clause-steps
returns-clause-steps g c =
    let m = c.self.inside in
    CountsAtMost-le c.find_slot.ensures.steps (omega (arith, bound_of c.args.hash m.hasher m.store m.index c.self.invariant c.args.self.now c.self.view_is))
