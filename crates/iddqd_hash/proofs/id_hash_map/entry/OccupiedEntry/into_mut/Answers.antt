use Rattle.iddqd_store.specs.Hashing.{hash_under}
use Rattle.iddqd_hash_parts.proofs.GetMutLemmas.{keyed_akin_written, keyed_written}
use Rattle.iddqd_hash_parts.specs.HashItems.{IsKeyed}
use Rattle.iddqd_hash.proofs.id_hash_map.entry.OccupiedEntry.into_mut.Goals as goal

pub returns-clause-keyed : goal.returns-clause-keyed
unfolding IsKeyed
returns-clause-keyed g c x w at same =
    let e = c.args.self in
    keyed_written g.T.IdHashItem.key g.T.Key.Hash.hash_input (hash_under g.S.BuildHasher g.S.Hasher.Hasher) e.map.now c.requires.keyed e.slot x w at g.met.T.Key.Eq.laws g.met.T.Key.Hash.respects_eq same

pub returns-clause-keyed_akin : goal.returns-clause-keyed_akin
unfolding IsKeyed
returns-clause-keyed_akin g c x w at akin =
    let e = c.args.self in
    keyed_akin_written g.T.IdHashItem.key g.T.Key.Hash.hash_input (hash_under g.S.BuildHasher g.S.Hasher.Hasher) e.map.now c.requires.keyed e.slot x w at g.met.T.Key.Eq.laws g.met.T.Key.Hash.respects_eq akin
