-- But for the last, these are for speed alone: the prover finds the proofs by itself, but later.
use Rattle.std.proofs.Common.{rules}
use Rattle.iddqd_store.specs.Query.{differ_from_ascends}
use Rattle.iddqd_ord.proofs.TakenOutLemmas.{taken_absent}
use Rattle.iddqd_ord.proofs.id_ord_map.IdOrdMap.remove_index.Goals as goal

pub returns-clause-value : goal.returns-clause-value
returns-clause-value g c = search rules

pub returns-clause-items : goal.returns-clause-items
returns-clause-items g c = search rules

pub returns-clause-slots : goal.returns-clause-slots
returns-clause-slots g c = search rules

pub returns-clause-gone : goal.returns-clause-gone
returns-clause-gone g c =
    let key = g.T.IdOrdItem.key in
    let items = c.args.self.now.items in
    rw c.take_at_place.ensures.items (taken_absent key g.met.T.Key.Eq.laws items (differ_from_ascends key g.T.Key.Ord.cmp g.met.T.Key.Ord.matches_eq items c.requires.keyed) _ _ c.take_at_place.ensures.item)
