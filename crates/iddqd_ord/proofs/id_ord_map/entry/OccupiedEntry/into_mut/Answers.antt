use Rattle.iddqd_store.proofs.WrittenLemmas.{akin_key_kept, same_key_kept}
use Rattle.iddqd_ord.proofs.id_ord_map.entry.OccupiedEntry.into_mut.Goals as goal

pub returns-clause-keyed : goal.returns-clause-keyed
returns-clause-keyed g c x w at same =
    let e = c.args.self in
    same_key_kept g.T.IdOrdItem.key e.map.now.slots e.map.now.items e.slot x w at g.T.Key.Ord.cmp same c.requires.keyed

pub returns-clause-keyed_akin : goal.returns-clause-keyed_akin
returns-clause-keyed_akin g c x w at akin =
    let e = c.args.self in
    akin_key_kept g.T.IdOrdItem.key e.map.now.slots e.map.now.items e.slot x w at g.met.T.Key.Eq.laws akin g.met.T.Key.Ord.total g.met.T.Key.Ord.matches_eq c.requires.keyed
