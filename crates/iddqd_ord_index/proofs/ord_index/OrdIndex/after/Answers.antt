use Rattle.std.proofs.Common.{◌≡◌, ◌+◌, ◌∙◌, Some, None, length, get_or, sym, ap, arith, option_and_then}
use Rattle.std.specs.Option.{option_and_then}
use Rattle.std.proofs.lemmas.Option.{slice_get-get_or}
use Rattle.std.specs.List.{slice_get}
use Rattle.iddqd_ord_index.specs.Listed.{listed_items}
use Rattle.iddqd_store.specs.Contents.{find_item}
use Rattle.iddqd_store.specs.Store.{item_at}
use Rattle.iddqd_ord_index.proofs.ListedLemmas.{get-listed}
use Rattle.iddqd_store.proofs.QueryLemmas.{OrderedQuery, above_there, above_nowhere}
use Rattle.std.proofs.lemmas.Option.{slice_get_past}
use Rattle.std.specs.Ordering.{is_lt}
use Rattle.iddqd_ord_index.proofs.ord_index.OrdIndex.after.Given.{Over}
use Rattle.iddqd_ord_index.proofs.ord_index.OrdIndex.after.Goals.{in-Ok, in-Err}
use Rattle.iddqd_ord_index.proofs.ord_index.OrdIndex.after.Goals as goal

query : (g : Over) (q : g.row.Q.Denot) → OrderedQuery g.T.Key.PartialEq.eq g.T.Key.Ord.cmp (g.Q.Equivalent.equivalent q) (g.Q.Comparable.compare q)
query g q = record {
  equivalence = g.met.T.Key.Eq.laws;
  total = g.met.T.Key.Ord.total;
  ties = g.met.T.Key.Ord.matches_eq;
  tests = g.met.Q.Equivalent.one_key q;
  level = g.met.Q.Comparable.equal_where_equivalent q;
  above = g.met.Q.Comparable.less_above q;
  below = g.met.Q.Comparable.greater_below q;
}

pub returns-then-next-self-clause-item : goal.returns-then-next-self-clause-item
returns-then-next-self-clause-item g c =
    let store = c.args.store.now in
    let slots = c.args.self.now.slots in
    let items = listed_items store slots in
    let key = g.T.IdOrdItem.key in
    let compare = g.Q.Comparable.compare c.args.query.now in
    let next : find_item key (λ k. is_lt (compare k)) items ≡ slice_get items c.match-find.next =
    elim c.match-find.branch [
      | in-Ok w ↦ (above_there key (query g c.args.query.now) items c.requires.ascending w.in-Ok.place w.in-Ok.ensures.place.0 w.in-Ok.ensures.place.1
          ∙ ap (slice_get items) (sym (w.next-is ∙ ap (λ n. n + 1) w.place.view_is)))
      | in-Err w ↦ (above_nowhere key (query g c.args.query.now) items c.requires.ascending w.in-Err.place w.in-Err.ensures.place.0 w.in-Err.ensures.place.1 w.in-Err.ensures.place.2
          ∙ ap (slice_get items) (sym (w.next-is ∙ w.place-in-Err.view_is)))
    ] in
    let long = ap (λ i. length i.slots) c.self.view_is in
    let read : slice_get slots c.match-find.next ≡ Some c.slot_at.result =
    slice_get-get_or slots c.match-find.next 0 (omega (arith, c.self.invariant.len)) ∙ ap Some (ap (λ i. get_or i.slots c.match-find.next 0) (sym c.self.view_is) ∙ sym c.slot_at.ensures) in
    sym (next ∙ get-listed store slots c.requires.occupied c.match-find.next ∙ ap (option_and_then (item_at store)) read)

pub returns-else-next-self-clause-item : goal.returns-else-next-self-clause-item
returns-else-next-self-clause-item g c =
    let store = c.args.store.now in
    let slots = c.args.self.now.slots in
    let items = listed_items store slots in
    let key = g.T.IdOrdItem.key in
    let compare = g.Q.Comparable.compare c.args.query.now in
    let next : find_item key (λ k. is_lt (compare k)) items ≡ slice_get items c.match-find.next =
    elim c.match-find.branch [
      | in-Ok w ↦ (above_there key (query g c.args.query.now) items c.requires.ascending w.in-Ok.place w.in-Ok.ensures.place.0 w.in-Ok.ensures.place.1
          ∙ ap (slice_get items) (sym (w.next-is ∙ ap (λ n. n + 1) w.place.view_is)))
      | in-Err w ↦ (above_nowhere key (query g c.args.query.now) items c.requires.ascending w.in-Err.place w.in-Err.ensures.place.0 w.in-Err.ensures.place.1 w.in-Err.ensures.place.2
          ∙ ap (slice_get items) (sym (w.next-is ∙ w.place-in-Err.view_is)))
    ] in
    let long = ap (λ i. length i.slots) c.self.view_is in
    let read : slice_get slots c.match-find.next ≡ None = slice_get_past slots c.match-find.next (omega (arith, c.self.invariant.len)) in
    sym (next ∙ get-listed store slots c.requires.occupied c.match-find.next ∙ ap (option_and_then (item_at store)) read)
