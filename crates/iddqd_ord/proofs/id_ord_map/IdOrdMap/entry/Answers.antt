use Rattle.std.proofs.Common.{◌∙◌, sym, ap, refl}
use Rattle.iddqd_store.proofs.OrderLemmas.{found_answers}
use Rattle.iddqd_store.proofs.QueryLemmas.{OrderedQuery, place_there, find_nowhere, replaced_nowhere, replaced_there, without_nowhere, without_there}
use Rattle.iddqd_ord.proofs.GetMutLemmas.{found_is_at}
use Rattle.iddqd_ord.proofs.StoreAndIndexLemmas.{have_slots}
use Rattle.iddqd_ord.proofs.id_ord_map.IdOrdMap.entry.Given.{Over}
use Rattle.iddqd_ord.proofs.id_ord_map.IdOrdMap.entry.Goals as goal

query : (g : Over) (q : g.row.Q.Denot) → OrderedQuery g.T.Key.PartialEq.eq g.T.Key.Ord.cmp (g.Q.Equivalent.equivalent q) (g.Q.Comparable.compare q)
query g q = record {
  equivalence = g.met.T.Key.Eq.laws;
  total = g.met.T.Key.Ord.total;
  ties = g.met.T.Key.Ord.matches_eq;
  tests = g.met.Q.Equivalent.one_key q;
  level = g.met.Q.Comparable.equal_where_equivalent q;
  above = g.met.Q.Comparable.less_above q;
  below = g.met.Q.Comparable.greater_below q;
}

pub returns-in-Ok-clause-entry : goal.returns-in-Ok-clause-entry
returns-in-Ok-clause-entry g c =
    let key = g.T.IdOrdItem.key in
    let items = c.args.self.now.items in
    let m = c.self.inside in
    let slot = found_is_at _ c.args.self.now _ _ (have_slots m.store m.index.slots c.self.invariant) c.self.view_is c.in-Ok.ensures.in_list c.in-Ok.ensures.slot in
    let p = rw (ap (λ m. m.items) c.self.view_is) at c.in-Ok.ensures.place in
    record {
      lender = refl;
      map = refl;
      item = slot.item ∙ sym (place_there key (query g c.args.query.now) items c.requires.keyed _ p.0 p.1);
      written = λ w. slot.written w ∙ replaced_there key (query g c.args.query.now) items c.requires.keyed _ w p.0 p.1;
      others = slot.others ∙ without_there key (query g c.args.query.now) items c.requires.keyed _ p.0 p.1;
    }

pub returns-in-Ok-clause-akin : goal.returns-in-Ok-clause-akin
returns-in-Ok-clause-akin g c =
    let key = g.T.IdOrdItem.key in
    let test = g.Q.Equivalent.equivalent c.args.query.now in
    let now = c.args.self.now in
    found_answers (λ x. test (key x)) now.items _ (returns-in-Ok-clause-entry g c).item

pub returns-in-Err-clause-entry : goal.returns-in-Err-clause-entry
returns-in-Err-clause-entry g c =
    let key = g.T.IdOrdItem.key in
    let items = c.args.self.now.items in
    let place = c.in-Err.field-0 in
    let p = rw (ap (λ m. m.items) c.self.view_is) at c.in-Err.ensures.place in
    record {
      lender = refl;
      map = refl;
      item = find_nowhere key (query g c.args.query.now) items c.requires.keyed place p.1 p.2;
      written = λ w. replaced_nowhere key (query g c.args.query.now) items c.requires.keyed place w p.1 p.2;
      others = without_nowhere key (query g c.args.query.now) items c.requires.keyed place p.1 p.2;
    }

pub invariant_of-result : goal.invariant_of-result
invariant_of-result g c =
    let m = c.self.inside in
    let slot = found_is_at _ c.args.self.now _ _ (have_slots m.store m.index.slots c.self.invariant) c.self.view_is c.in-Ok.ensures.in_list c.in-Ok.ensures.slot in
    record { there = slot.there; placed = slot.placed }
