use Rattle.std.proofs.Common.{refl}
use Rattle.std.specs.Ordering.{is_ge, is_gt, is_le, is_lt}
use Rattle.iddqd_store.proofs.QueryLemmas.{OrderedQuery}
use Rattle.iddqd_ord.proofs.RangeLemmas.{above_there, at_there, ends_where, ge_turned, gt_turned, nowhere}
use Rattle.iddqd_ord.proofs.id_ord_map.IdOrdMap.end_of.Given.{Over}
use Rattle.iddqd_ord.proofs.id_ord_map.IdOrdMap.end_of.Goals as goal

query : (g : Over) (q : g.row.Q.Denot) → OrderedQuery g.T.Key.PartialEq.eq g.T.Key.Ord.cmp (g.Q.Equivalent.equivalent q) (g.Q.Comparable.compare q)
query g q = record {
  equivalence = g.met.T.Key.Eq.laws;
  total = g.met.T.Key.Ord.total;
  ties = g.met.T.Key.Ord.matches_eq;
  tests = g.met.Q.Equivalent.one_key q;
  level = g.met.Q.Comparable.equal_where_equivalent q;
  above = g.met.Q.Comparable.less_above q;
  below = g.met.Q.Comparable.greater_below q;
}

pub returns-in-Ok-clause-end : goal.returns-in-Ok-clause-end
returns-in-Ok-clause-end g c =
    let key = g.T.IdOrdItem.key in
    let compare = g.Q.Comparable.compare c.in-Included.query.now in
    let p = c.in-Ok.ensures.place in
    rw c.in-Included.is (ends_where (λ x. is_lt (compare (key x))) (λ x. is_ge (compare (key x))) (λ x. ge_turned (compare (key x))) c.args.self.now.items _ (above_there key c.args.self.now.items (query g c.in-Included.query.now) c.requires.keyed c.in-Ok.place p.0 p.1))

pub returns-in-Err-clause-end : goal.returns-in-Err-clause-end
returns-in-Err-clause-end g c =
    let key = g.T.IdOrdItem.key in
    let compare = g.Q.Comparable.compare c.in-Included.query.now in
    let p = c.in-Err.ensures.place in
    rw c.in-Included.is (ends_where (λ x. is_lt (compare (key x))) (λ x. is_ge (compare (key x))) (λ x. ge_turned (compare (key x))) c.args.self.now.items _ (nowhere key c.args.self.now.items compare is_lt refl refl c.in-Err.place p.0 p.1 p.2))

pub returns-in-Ok-index_of_counted-clause-end : goal.returns-in-Ok-index_of_counted-clause-end
returns-in-Ok-index_of_counted-clause-end g c =
    let key = g.T.IdOrdItem.key in
    let compare = g.Q.Comparable.compare c.in-Excluded.query.now in
    let p = c.in-Ok-index_of_counted.ensures.place in
    rw c.in-Excluded.is (ends_where (λ x. is_le (compare (key x))) (λ x. is_gt (compare (key x))) (λ x. gt_turned (compare (key x))) c.args.self.now.items _ (at_there key c.args.self.now.items (query g c.in-Excluded.query.now) c.requires.keyed c.in-Ok-index_of_counted.place p.0 p.1))

pub returns-in-Ok-index_of_counted-2-clause-end : goal.returns-in-Ok-index_of_counted-2-clause-end
returns-in-Ok-index_of_counted-2-clause-end g c =
    let key = g.T.IdOrdItem.key in
    let compare = g.Q.Comparable.compare c.in-Excluded.query.now in
    let p = c.in-Ok-index_of_counted.ensures.place in
    rw c.in-Excluded.is (ends_where (λ x. is_le (compare (key x))) (λ x. is_gt (compare (key x))) (λ x. gt_turned (compare (key x))) c.args.self.now.items _ (nowhere key c.args.self.now.items compare is_le refl refl c.in-Ok-index_of_counted.place p.0 p.1 p.2))
