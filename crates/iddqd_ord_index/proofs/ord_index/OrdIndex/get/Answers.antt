use Rattle.std.proofs.Common.{◌≡◌, ℕ, ◌∙◌, Ok, Err, Some, None, length, subst, sym, ap, arith, Option, option_and_then}
use Rattle.std.specs.Option.{option_and_then}
use Rattle.std.proofs.lemmas.Option.{slice_get-get_or}
use Rattle.std.proofs.lemmas.List.{get_or_default}
use Rattle.std.specs.List.{Contains}
use Rattle.std.specs.Option.{IfSome}
use Rattle.iddqd_ord_index.specs.Digits.{digits}
use Rattle.iddqd_ord_index.specs.Listed.{listed_items}
use Rattle.iddqd_ord_index.specs.Standing.{slot_standing, IsMonotone, IsAmong}
use Rattle.iddqd_store.specs.Contents.{find_item}
use Rattle.iddqd_store.specs.Store.{item_at}
use Rattle.iddqd_store.proofs.CountingLemmas.{CountsAtMost-le}
use Rattle.iddqd_ord_index.proofs.HeightLemmas.{height_bound}
use Rattle.iddqd_ord_index.proofs.ListedLemmas.{get-listed}
use Rattle.iddqd_ord_index.proofs.StandingLemmas.{monotone, placed}
use Rattle.iddqd_store.proofs.QueryLemmas.{OrderedQuery, place_there, find_nowhere}
use Rattle.iddqd_ord_index.proofs.ord_index.OrdIndex.get.Given.{Over}
use Rattle.iddqd_ord_index.proofs.ord_index.OrdIndex.get.Goals as goal

query : (g : Over) (q : g.row.Q.Denot) → OrderedQuery g.T.Key.PartialEq.eq g.T.Key.Ord.cmp (g.Q.Equivalent.equivalent q) (g.Q.Comparable.compare q)
query g q = record {
  equivalence = g.met.T.Key.Eq.laws;
  total = g.met.T.Key.Ord.total;
  ties = g.met.T.Key.Ord.matches_eq;
  tests = g.met.Q.Equivalent.one_key q;
  level = g.met.Q.Comparable.equal_where_equivalent q;
  above = g.met.Q.Comparable.less_above q;
  below = g.met.Q.Comparable.greater_below q;
}

pub get-requires-clause-monotone : goal.get-requires-clause-monotone
get-requires-clause-monotone g c = subst (λ i. IsMonotone (slot_standing g.T.IdOrdItem.key (g.Q.Comparable.compare c.args.query.now) c.args.store.now) i.slots) (sym c.self.view_is) (monotone g.T.IdOrdItem.key (g.Q.Comparable.compare c.args.query.now) c.args.store.now c.args.self.now.slots c.requires.occupied g.met.T.Key.Ord.total (g.met.Q.Comparable.less_above c.args.query.now) (g.met.Q.Comparable.greater_below c.args.query.now) c.requires.ascending)

pub returns-clause-steps : goal.returns-clause-steps
returns-clause-steps g c = CountsAtMost-le c.get.ensures.steps (omega (arith, height_bound c.self.inside.root c.self.invariant.dense c.self.invariant.top, ap (λ i. digits (length i.slots)) c.self.view_is))

pub returns-clause-item : goal.returns-clause-item
returns-clause-item g c = by_result c.get.result (subst (λ i. IsAmong (slot_standing g.T.IdOrdItem.key (g.Q.Comparable.compare c.args.query.now) c.args.store.now) i.slots c.get.result) c.self.view_is c.get.ensures.found)
  where
    by_result : (r : Option ℕ) → IsAmong (slot_standing g.T.IdOrdItem.key (g.Q.Comparable.compare c.args.query.now) c.args.store.now) c.args.self.now.slots r → option_and_then (item_at c.args.store.now) r ≡ find_item g.T.IdOrdItem.key (g.Q.Equivalent.equivalent c.args.query.now) (listed_items c.args.store.now c.args.self.now.slots)
    by_result (Some slot) a =
        let p = placed g.T.IdOrdItem.key (g.Q.Comparable.compare c.args.query.now) c.args.store.now c.args.self.now.slots c.requires.occupied (Ok a.0) a.2 in
        let there = place_there g.T.IdOrdItem.key (query g c.args.query.now) (listed_items c.args.store.now c.args.self.now.slots) c.requires.ascending a.0 p.0 p.1 in
        let read = slice_get-get_or c.args.self.now.slots a.0 0 a.2.0 ∙ ap Some (sym a.1) in
        sym (there ∙ (get-listed c.args.store.now c.args.self.now.slots c.requires.occupied a.0 ∙ ap (option_and_then (item_at c.args.store.now)) read))
    by_result None a =
        let p = placed g.T.IdOrdItem.key (g.Q.Comparable.compare c.args.query.now) c.args.store.now c.args.self.now.slots c.requires.occupied (Err a.0) a.1 in
        find_nowhere g.T.IdOrdItem.key (query g c.args.query.now) (listed_items c.args.store.now c.args.self.now.slots) c.requires.ascending a.0 p.1 p.2

pub returns-clause-slot : goal.returns-clause-slot
returns-clause-slot g c = by_result c.get.result (subst (λ i. IsAmong (slot_standing g.T.IdOrdItem.key (g.Q.Comparable.compare c.args.query.now) c.args.store.now) i.slots c.get.result) c.self.view_is c.get.ensures.found)
  where
    by_result : (r : Option ℕ) → IsAmong (slot_standing g.T.IdOrdItem.key (g.Q.Comparable.compare c.args.query.now) c.args.store.now) c.args.self.now.slots r → IfSome r (Contains c.args.self.now.slots)
    by_result (Some slot) a = (a.0, a.2.0, get_or_default c.args.self.now.slots a.0 slot 0 a.2.0 ∙ sym a.1)
    by_result None a = tt
