use Rattle.std.proofs.Common.{◌∙◌, sym}
use Rattle.iddqd_store.proofs.WrittenLemmas.{slot_place}
use Rattle.iddqd_hash.proofs.id_hash_map.entry.OccupiedEntry.remove.Goals as goal

pub returns : goal.returns
returns g c =
    let e = c.args.self in
    let taken = c.take_hashed.ensures in
    let p = slot_place e.map.now.slots e.map.now.items e.slot c.take_hashed.result taken.value in
    record {
      item = taken.value;
      others = (taken.gone p.place p.slot_there).0 ∙ sym p.others;
      removes = taken.removed;
      stays = taken.stays;
    }
