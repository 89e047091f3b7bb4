use Rattle.std.proofs.Common.{◌∙◌, sym, refl}
use Rattle.iddqd_store.specs.SlotItems.{item_of_slot}
use Rattle.iddqd_store.proofs.StoreLemmas.{given}
use Rattle.iddqd_hash_parts.proofs.MapLemmas.{unchanged}
use Rattle.iddqd_hash.proofs.id_hash_map.IdHashMap.insert_or_halt.Goals as goal

pub returns-in-Some-clause-halted : goal.returns-in-Some-clause-halted
returns-in-Some-clause-halted g c =
    let now = c.args.self.now in
    let found = c.in-Some.ensures.slot in
    let there = given (item_of_slot now.slots now.items c.in-Some.slot) found.there in
    (refl, there.0, sym found.item ∙ there.1, there.1)

pub returns-in-Some-clause-kept : goal.returns-in-Some-clause-kept
returns-in-Some-clause-kept g c = unchanged _ c.args.self.now c.requires.keyed c.in-Some.ensures.spare_fits
