use Rattle.std.proofs.Common.{refl}
use Rattle.iddqd_store.specs.Hashing.{hash_under}
use Rattle.iddqd_hash_parts.proofs.GetMutLemmas.{keyed_akin_written, keyed_written}
use Rattle.iddqd_hash_parts.specs.HashItems.{IsKeyed}
use Rattle.iddqd_hash.proofs.id_hash_map.entry.VacantEntry.insert.Goals as goal

pub returns-in-Ok : goal.returns-in-Ok
unfolding IsKeyed
returns-in-Ok g c =
    let new = c.insert_absent.new.self in
    let done = c.in-Ok.ensures in (
      (refl, λ w. refl, tt),
      record {
        kept = tt;
        same_map = refl;
        inserted = record { inserts = done.inserted; item = done.there.there; written = done.there.written };
        keyed = λ x w at same. keyed_written g.T.IdHashItem.key g.T.Key.Hash.hash_input (hash_under g.S.BuildHasher g.S.Hasher.Hasher) new done.inserted.stays.keyed c.in-Ok.slot x w at g.met.T.Key.Eq.laws g.met.T.Key.Hash.respects_eq same;
        keyed_akin = λ x w at akin. keyed_akin_written g.T.IdHashItem.key g.T.Key.Hash.hash_input (hash_under g.S.BuildHasher g.S.Hasher.Hasher) new done.inserted.stays.keyed c.in-Ok.slot x w at g.met.T.Key.Eq.laws g.met.T.Key.Hash.respects_eq akin;
        refused = tt;
      },
    )
