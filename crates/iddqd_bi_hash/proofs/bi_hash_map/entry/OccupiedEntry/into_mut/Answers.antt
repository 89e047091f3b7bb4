use Rattle.iddqd_bi_hash.proofs.BothLemmas.{written_akin, written_same}
use Rattle.iddqd_bi_hash.proofs.bi_hash_map.entry.OccupiedEntry.into_mut.Goals as goal

pub returns-clause-keyed : goal.returns-clause-keyed
returns-clause-keyed g c x w at same1 same2 =
    let e = c.args.self in
    written_same _ _ _ _ _ _ _ e.map.now c.requires.keyed e.first x at w g.met.T.K1.Eq.laws g.met.T.K2.Eq.laws g.met.T.K1.Hash.respects_eq g.met.T.K2.Hash.respects_eq same1 same2

pub returns-clause-keyed_akin : goal.returns-clause-keyed_akin
returns-clause-keyed_akin g c x w at akin =
    let e = c.args.self in
    written_akin _ _ _ _ _ _ _ e.map.now c.requires.keyed e.first x at w g.met.T.K1.Eq.laws g.met.T.K2.Eq.laws g.met.T.K1.Hash.respects_eq g.met.T.K2.Hash.respects_eq akin.0 akin.1
