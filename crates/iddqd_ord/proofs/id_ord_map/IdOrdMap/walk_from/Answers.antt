use Rattle.std.proofs.Common.{◌≡◌, ℕ, ◌+◌, ◌∙◌, List, [], ◌∷◌, Option, Some, None, MatchOption, drop, length, length-drop, ap, sym, subst, arith}
use Rattle.std.proofs.lemmas.List.{drop-drop}
use Rattle.iddqd_ord_index.specs.Search.{position_of}
use Rattle.iddqd_store.proofs.CountingLemmas.{CountsAtMost-le}
use Rattle.iddqd_store.proofs.QueryLemmas.{OrderedQuery}
use Rattle.iddqd_store.specs.SlotItems.{HaveSlots}
use Rattle.iddqd_ord.proofs.RangeLemmas.{absent_place, behind_place, from_place}
use Rattle.iddqd_ord.proofs.StoreAndIndexLemmas.{bound_of, have_slots}
use Rattle.iddqd_ord.proofs.id_ord_map.IdOrdMap.walk_from.Given.{Over}
use Rattle.iddqd_ord.proofs.id_ord_map.IdOrdMap.walk_from.Goals as goal

query : (g : Over) (q : g.row.Q.Denot) → OrderedQuery g.T.Key.PartialEq.eq g.T.Key.Ord.cmp (g.Q.Equivalent.equivalent q) (g.Q.Comparable.compare q)
query g q = record {
  equivalence = g.met.T.Key.Eq.laws;
  total = g.met.T.Key.Ord.total;
  ties = g.met.T.Key.Ord.matches_eq;
  tests = g.met.Q.Equivalent.one_key q;
  level = g.met.Q.Comparable.equal_where_equivalent q;
  above = g.met.Q.Comparable.less_above q;
  below = g.met.Q.Comparable.greater_below q;
}

-- a step of a walk leaves the rest
rest_of : (old new : List ℕ) (r : Option ℕ) → MatchOption r ((old ≡ []) × (new ≡ [])) (λ x. old ≡ x ∷ new) → new ≡ drop 1 old
rest_of old new None h = h.1 ∙ sym (ap (drop 1) h.0)
rest_of old new (Some x) h = sym (ap (drop 1) h)

pub returns-in-Included : goal.returns-in-Included
returns-in-Included g c =
    let m = c.self.inside in
    let items = c.args.self.now.items in
    let found = c.walk_from.ensures in
    let place = rw (ap (λ m. m.items) c.self.view_is) at found.place in
    record {
      start = rw c.in-Included.is (
        position_of c.walk_from.result.0,
        from_place g.T.IdOrdItem.key items (query g c.in-Included.query.now) c.requires.keyed c.walk_from.result.0 place,
        found.slots ∙ ap (λ m. drop (position_of c.walk_from.result.0) m.slots) c.self.view_is,
      );
      fits = found.fits;
      own = subst (λ v. HaveSlots v.slots v.items) c.self.view_is (have_slots m.store m.index.slots c.self.invariant);
      steps = CountsAtMost-le found.steps (omega (arith, bound_of m.store m.index.slots c.self.invariant items (ap (λ v. v.items) c.self.view_is)));
    }

pub returns-then-is_ok : goal.returns-then-is_ok
returns-then-is_ok g c =
    let m = c.self.inside in
    let items = c.args.self.now.items in
    let found = c.walk_from-place.ensures in
    let at = position_of c.walk_from-place.result.0 in
    let place = rw (ap (λ m. m.items) c.self.view_is) at found.place in
    let rest = rest_of c.walk_from-place.result.1 c.next.new.self c.next.result c.next.ensures.steps in
    record {
      start = rw c.in-Excluded.is (
        at + 1,
        behind_place g.T.IdOrdItem.key items (query g c.in-Excluded.query.now) c.requires.keyed c.walk_from-place.result.0 place (sym c.is_ok.ensures.value ∙ c.if-is_ok.true),
        rest ∙ (ap (drop 1) (found.slots ∙ ap (λ m. drop at m.slots) c.self.view_is) ∙ drop-drop 1 at c.args.self.now.slots),
      );
      fits = omega (arith, found.fits, ap length rest, length-drop 1 c.walk_from-place.result.1);
      own = subst (λ v. HaveSlots v.slots v.items) c.self.view_is (have_slots m.store m.index.slots c.self.invariant);
      steps = CountsAtMost-le found.steps (omega (arith, bound_of m.store m.index.slots c.self.invariant items (ap (λ v. v.items) c.self.view_is)));
    }

pub returns-else-is_ok : goal.returns-else-is_ok
returns-else-is_ok g c =
    let m = c.self.inside in
    let items = c.args.self.now.items in
    let found = c.walk_from-place.ensures in
    let at = position_of c.walk_from-place.result.0 in
    let place = rw (ap (λ m. m.items) c.self.view_is) at found.place in
    record {
      start = rw c.in-Excluded.is (
        at,
        absent_place g.T.IdOrdItem.key items (query g c.in-Excluded.query.now) c.requires.keyed c.walk_from-place.result.0 place (sym c.is_ok.ensures.value ∙ c.if-is_ok.false),
        found.slots ∙ ap (λ m. drop at m.slots) c.self.view_is,
      );
      fits = found.fits;
      own = subst (λ v. HaveSlots v.slots v.items) c.self.view_is (have_slots m.store m.index.slots c.self.invariant);
      steps = CountsAtMost-le found.steps (omega (arith, bound_of m.store m.index.slots c.self.invariant items (ap (λ v. v.items) c.self.view_is)));
    }

pub returns-in-Unbounded-clause-own : goal.returns-in-Unbounded-clause-own
returns-in-Unbounded-clause-own g c =
    let m = c.self.inside in
    subst (λ v. HaveSlots v.slots v.items) c.self.view_is (have_slots m.store m.index.slots c.self.invariant)
