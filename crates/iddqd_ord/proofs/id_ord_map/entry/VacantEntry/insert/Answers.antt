use Rattle.std.proofs.Common.{refl}
use Rattle.iddqd_store.proofs.WrittenLemmas.{akin_key_kept, same_key_kept}
use Rattle.iddqd_ord.proofs.id_ord_map.entry.VacantEntry.insert.Goals as goal

pub returns-in-Ok : goal.returns-in-Ok
returns-in-Ok g c =
    let new = c.insert_absent.new.self in
    let done = c.in-Ok.ensures in (
      (refl, λ w. refl, tt),
      record {
        kept = tt;
        same_map = refl;
        inserted = record { inserts = done.inserted; item = done.there.1.there; written = done.there.1.written };
        keyed = λ x w at same. same_key_kept g.T.IdOrdItem.key new.slots new.items c.in-Ok.slot x w at g.T.Key.Ord.cmp same done.inserted.keyed;
        keyed_akin = λ x w at akin. akin_key_kept g.T.IdOrdItem.key new.slots new.items c.in-Ok.slot x w at g.met.T.Key.Eq.laws akin g.met.T.Key.Ord.total g.met.T.Key.Ord.matches_eq done.inserted.keyed;
        refused = tt;
      },
    )
