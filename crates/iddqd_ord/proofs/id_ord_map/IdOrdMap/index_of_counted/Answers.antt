use Rattle.std.proofs.Common.{◌∙◌, Ok, Err, sym, ap, subst, refl, arith, slice_get}
use Rattle.std.specs.Ordering.{is_le}
use Rattle.iddqd_store.specs.Contents.{keys}
use Rattle.iddqd_store.proofs.CountingLemmas.{CountsAtMost-le}
use Rattle.iddqd_store.proofs.QueryLemmas.{OrderedQuery, place_there, find_nowhere}
use Rattle.iddqd_ord_index.specs.Search.{IsPlaceAmong}
use Rattle.iddqd_ord.proofs.RangeLemmas.{at_there, nowhere, rank_is}
use Rattle.iddqd_ord.proofs.StoreAndIndexLemmas.{bound_of}
use Rattle.iddqd_ord.proofs.id_ord_map.IdOrdMap.index_of_counted.Given.{Over}
use Rattle.iddqd_ord.proofs.id_ord_map.IdOrdMap.index_of_counted.Goals as goal

query : (g : Over) (q : g.row.Q.Denot) → OrderedQuery g.T.Key.PartialEq.eq g.T.Key.Ord.cmp (g.Q.Equivalent.equivalent q) (g.Q.Comparable.compare q)
query g q = record {
  equivalence = g.met.T.Key.Eq.laws;
  total = g.met.T.Key.Ord.total;
  ties = g.met.T.Key.Ord.matches_eq;
  tests = g.met.Q.Equivalent.one_key q;
  level = g.met.Q.Comparable.equal_where_equivalent q;
  above = g.met.Q.Comparable.less_above q;
  below = g.met.Q.Comparable.greater_below q;
}

pub returns-in-Ok : goal.returns-in-Ok
returns-in-Ok g c =
    let key = g.T.IdOrdItem.key in
    let compare = g.Q.Comparable.compare c.args.query.now in
    let items = c.args.self.now.items in
    let m = c.self.inside in
    let p = rw (ap (λ m. m.items) c.self.view_is) at c.in-Ok.ensures.place in
    let own = query g c.args.query.now in
    record {
      place = subst (λ i. IsPlaceAmong compare (keys key items) (Ok i)) (sym c.position.ensures) p;
      rank = c.position.ensures ∙ rank_is key compare items c.in-Ok.place (at_there key items own c.requires.keyed c.in-Ok.place p.0 p.1);
      found = ap (slice_get items) c.position.ensures ∙ sym (place_there key own items c.requires.keyed c.in-Ok.place p.0 p.1);
      steps = CountsAtMost-le c.in-Ok.ensures.steps (omega (arith, bound_of m.store m.index.slots c.self.invariant items (ap (λ v. v.items) c.self.view_is)));
    }

pub returns-in-Err : goal.returns-in-Err
returns-in-Err g c =
    let key = g.T.IdOrdItem.key in
    let compare = g.Q.Comparable.compare c.args.query.now in
    let items = c.args.self.now.items in
    let m = c.self.inside in
    let p = rw (ap (λ m. m.items) c.self.view_is) at c.in-Err.ensures.place in
    let own = query g c.args.query.now in
    record {
      place = subst (λ i. IsPlaceAmong compare (keys key items) (Err i)) (sym c.position-in-Err.ensures) p;
      rank = c.position-in-Err.ensures ∙ rank_is key compare items c.in-Err.place (nowhere key items compare is_le refl refl c.in-Err.place p.0 p.1 p.2);
      found = sym (find_nowhere key own items c.requires.keyed c.in-Err.place p.1 p.2);
      steps = CountsAtMost-le c.in-Err.ensures.steps (omega (arith, bound_of m.store m.index.slots c.self.invariant items (ap (λ v. v.items) c.self.view_is)));
    }
