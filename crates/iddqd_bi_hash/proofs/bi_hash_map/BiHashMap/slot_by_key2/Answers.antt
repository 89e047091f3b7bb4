use Rattle.std.proofs.Common.{subst}
use Rattle.iddqd_hash_parts.specs.HashItems.{FindsSlot}
use Rattle.iddqd_hash_parts.proofs.InSlotLemmas.{finds_slot}
use Rattle.iddqd_bi_hash.specs.BiHashItems.{by_key2}
use Rattle.iddqd_bi_hash.specs.StoreAndIndexes.{beside}
use Rattle.iddqd_bi_hash.proofs.BothLemmas.{differ2, fits, hashed2}
use Rattle.iddqd_bi_hash.proofs.bi_hash_map.BiHashMap.slot_by_key2.Goals as goal

pub find_slot-requires-clause-differ : goal.find_slot-requires-clause-differ
find_slot-requires-clause-differ g c =
    let m = c.self.inside in
    differ2 _ _ _ _ _ _ _ m.hasher m.store m.index1 m.index2 _ c.self.view_is c.requires.keyed

pub find_slot-requires-clause-stored : goal.find_slot-requires-clause-stored
find_slot-requires-clause-stored g c =
    let m = c.self.inside in
    hashed2 _ _ _ _ _ _ _ m.hasher m.store m.index1 m.index2 _ c.self.view_is c.requires.keyed (g.Q.Equivalent.equivalent c.args.query.now) c.args.hash c.requires.hash

pub returns-clause-slot : goal.returns-clause-slot
returns-clause-slot g c =
    let m = c.self.inside in
    let key = g.T.BiHashItem.key2 in
    let test = g.Q.Equivalent.equivalent c.args.query.now in
    subst (λ v. FindsSlot key test (by_key2 v) c.args.hash c.find_slot.result) c.self.view_is
    (finds_slot key test m.hasher m.store (beside m.index2.pairs m.index1 m.index2) c.self.invariant.other c.args.hash c.find_slot.result c.find_slot.ensures.item c.find_slot.ensures.only c.find_slot.ensures.listed)

pub returns-clause-spare_fits : goal.returns-clause-spare_fits
returns-clause-spare_fits g c =
    let m = c.self.inside in
    fits m.hasher m.store m.index1 m.index2 c.self.invariant _ c.self.view_is
