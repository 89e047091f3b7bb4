use Rattle.std.proofs.Common.{◌∙◌, ℕ, Ok, Err, Some, IsTrue, length, refl, sym, ap, subst, arith, rules, option_and_then}
use Rattle.std.proofs.lemmas.Option.{slice_get-get_or}
use Rattle.std.specs.List.{Contains, insert}
use Rattle.std.specs.Option.{option_and_then, OnSome}
use Rattle.iddqd_store.specs.Store.{Store, item_at}
use Rattle.iddqd_store.proofs.QueryLemmas.{OrderedQuery, place_there}
use Rattle.iddqd_ord_index.specs.Changes.{AddsTo}
use Rattle.iddqd_ord_index.specs.Digits.{digits}
use Rattle.iddqd_ord_index.specs.Listed.{listed_items}
use Rattle.iddqd_ord_index.specs.Standing.{slot_standing, IsAmong, IsMonotone, IsPlace}
use Rattle.std.specs.declared.cmp.Ordering.{Ordering}
use Rattle.iddqd_store.proofs.CountingLemmas.{CountsAtMost-le}
use Rattle.iddqd_ord_index.proofs.AddLemmas.{parted_length}
use Rattle.iddqd_ord_index.proofs.HeightLemmas.{height_bound, height_most}
use Rattle.iddqd_ord_index.proofs.IndexLemmas.{IsAdded, added_index, kept_index}
use Rattle.iddqd_ord_index.proofs.ListedLemmas.{get-listed}
use Rattle.iddqd_ord_index.proofs.StandingLemmas.{monotone, placed}
use Rattle.iddqd_ord_index.proofs.ord_index.OrdIndex.insert_by_key.Given.{Over}
use Rattle.iddqd_ord_index.proofs.ord_index.OrdIndex.insert_by_key.Goals as goal
use Rattle.iddqd_ord_index.proofs.ord_index.OrdIndex.insert_by_key.Goals.{in-Some, in_default}

abbrev order : (g : Over) → g.row.Q.Denot → Store g.row.T.Denot → ℕ → Ordering
order g q store = slot_standing g.T.IdOrdItem.key (g.Q.Comparable.compare q) store

query : (g : Over) (q : g.row.Q.Denot) → OrderedQuery g.T.Key.PartialEq.eq g.T.Key.Ord.cmp (g.Q.Equivalent.equivalent q) (g.Q.Comparable.compare q)
query g q = record {
  equivalence = g.met.T.Key.Eq.laws;
  total = g.met.T.Key.Ord.total;
  ties = g.met.T.Key.Ord.matches_eq;
  tests = g.met.Q.Equivalent.one_key q;
  level = g.met.Q.Comparable.equal_where_equivalent q;
  above = g.met.Q.Comparable.less_above q;
  below = g.met.Q.Comparable.greater_below q;
}

pub insert_by_key-requires-clause-monotone : goal.insert_by_key-requires-clause-monotone
insert_by_key-requires-clause-monotone g c =
    subst (λ i. IsMonotone (order g c.args.query.now c.args.store.now) i.slots) (sym c.self.view_is) (monotone g.T.IdOrdItem.key (g.Q.Comparable.compare c.args.query.now) c.args.store.now c.args.self.now.slots c.requires.occupied g.met.T.Key.Ord.total (g.met.Q.Comparable.less_above c.args.query.now) (g.met.Q.Comparable.greater_below c.args.query.now) c.requires.ascending)

pub invariant_of-self : goal.invariant_of-self
invariant_of-self g c = kept_index c.self.inside c.insert_by_key.new.self c.insert_by_key.new.pool c.in-Found.ensures.ends.0 c.in-Found.ensures.kept c.self.invariant

pub returns-in-Found-clause-found : goal.returns-in-Found-clause-found
returns-in-Found-clause-found g c =
    let key = g.T.IdOrdItem.key in
    let store = c.args.store.now in
    let slots = c.args.self.now.slots in
    let a = subst (λ i. IsAmong (order g c.args.query.now store) i.slots (Some c.in-Found.found)) c.self.view_is c.in-Found.ensures.ends.1 in
    let p = placed key (g.Q.Comparable.compare c.args.query.now) store slots c.requires.occupied (Ok a.0) a.2 in
    let there = place_there key (query g c.args.query.now) (listed_items store slots) c.requires.ascending a.0 p.0 p.1 in
    let read = slice_get-get_or slots a.0 0 a.2.0 ∙ ap Some (sym a.1) in
    sym (there ∙ (get-listed store slots c.requires.occupied a.0 ∙ ap (option_and_then (item_at store)) read))

pub returns-in-Found-clause-listed : goal.returns-in-Found-clause-listed
returns-in-Found-clause-listed g c = search rules

pub returns-in-Found-clause-steps : goal.returns-in-Found-clause-steps
returns-in-Found-clause-steps g c = CountsAtMost-le c.in-Found.ensures.steps (omega (arith, height_bound c.self.inside.root c.self.invariant.dense c.self.invariant.top, ap (λ i. digits (length i.slots)) c.self.view_is))

pub returns-in-Full-clause-place : goal.returns-in-Full-clause-place
returns-in-Full-clause-place g c =
    placed g.T.IdOrdItem.key (g.Q.Comparable.compare c.args.query.now) c.args.store.now c.args.self.now.slots c.requires.occupied (Err c.in-Full.position) (subst (λ i. IsPlace (order g c.args.query.now c.args.store.now) i.slots (Err c.in-Full.position)) c.self.view_is c.in-Full.ensures.ends.1)

pub returns-in-Full-clause-steps : goal.returns-in-Full-clause-steps
returns-in-Full-clause-steps g c = CountsAtMost-le c.in-Full.ensures.steps (omega (arith, height_bound c.self.inside.root c.self.invariant.dense c.self.invariant.top, ap (λ i. digits (length i.slots)) c.self.view_is))

pub push_root_level-requires-clause-total : goal.push_root_level-requires-clause-total
push_root_level-requires-clause-total g c =
    let ends = c.in-Inserted.ensures.ends in
    let slots = c.self.inside.root.slots in
    let split = subst (λ r. AddsTo (insert slots ends.0 c.args.slot) c.self.inside.root.width c.insert_by_key.new.self r) c.in-Some.is ends.2 in
    omega (arith, parted_length slots ends.0 c.args.slot c.in-Some.middle c.insert_by_key.new.self c.in-Some.upper ends.1.0 split, c.self.invariant.len)

pub overflow_add-self : goal.overflow_add-self
overflow_add-self g c = omega (arith, height_most c.self.inside.root c.self.invariant.dense c.self.invariant.top (omega (arith, c.self.invariant.numbered)), c.self.invariant.levels)

added : (g : Over) (c : goal.After-self-2-1 g) → IsAdded c.self.inside c.in-Inserted.ensures.ends.0 c.args.slot c.match-split.self-inside
added g c =
    let ends = c.in-Inserted.ensures.ends in
    let root = c.self.inside.root in
    let all = insert root.slots ends.0 c.args.slot in
    elim c.match-split.branch [
      | in-Some w ↦
          let split = subst (λ r. AddsTo all root.width c.insert_by_key.new.self r) w.in-Some.is ends.2 in
          let ready = c.is_filled-ready.ensures.0 (subst (λ r. OnSome r (IsTrue c.is_filled-ready.result)) w.in-Some.is ends.3) in
          subst (IsAdded c.self.inside ends.0 c.args.slot) (sym w.self-inside-is) (record {
            list = w.push_root_level.ensures.slots ∙ sym split.slots;
            len = refl;
            levels = omega (arith, w.push_root_level.ensures.height, c.in-Inserted.ensures.height, c.self.invariant.levels);
            dense = w.push_root_level.ensures.dense;
            top = λ _. omega (arith, w.push_root_level.ensures.width);
            wanted = λ _. (ap (λ s. s.wanted) w.want.ensures, omega (arith, ap (λ s. s.room) w.want.ensures, w.push_root_level.ensures.pool.1, c.in-Inserted.ensures.pool.1, ready.1));
            prepared = refl;
            cached = c.clear.ensures;
          })
      | in_default w ↦
          let grown = subst (λ r. AddsTo all root.width c.insert_by_key.new.self r) w.in_default.is ends.2 in
          subst (IsAdded c.self.inside ends.0 c.args.slot) (sym w.self-inside-is) (record {
            list = grown.slots;
            len = refl;
            levels = omega (arith, c.in-Inserted.ensures.height, c.self.invariant.levels);
            dense = c.in-Inserted.ensures.dense;
            top = λ lt. omega (arith, grown.wider, c.self.invariant.top (omega (arith, c.in-Inserted.ensures.height)));
            wanted = λ lt. let want = c.self.invariant.wanted lt in (c.in-Inserted.ensures.pool.0 ∙ want.0, omega (arith, c.in-Inserted.ensures.pool.1, want.1));
            prepared = refl;
            cached = c.clear.ensures;
          })
    ]

pub invariant_of-self-2 : goal.invariant_of-self-2
invariant_of-self-2 g c =
    let ends = c.in-Inserted.ensures.ends in
    let absent : ¬ Contains c.self.inside.root.slots c.args.slot = subst (λ i. ¬ Contains i.slots c.args.slot) (sym c.self.view_is) c.requires.absent in
    added_index c.self.inside ends.0 c.args.slot c.match-split.self-inside c.self.invariant ends.1.0 absent (omega (arith, c.requires.room, ap (λ i. length i.slots) c.self.view_is)) (added g c)

pub returns-clause-inserted : goal.returns-clause-inserted
returns-clause-inserted g c =
    let ends = c.in-Inserted.ensures.ends in
    let a = added g c in
    let list = a.list ∙ ap (λ i. insert i.slots ends.0 c.args.slot) c.self.view_is in
    let prepared = a.prepared in (
      ends.0,
      placed g.T.IdOrdItem.key (g.Q.Comparable.compare c.args.query.now) c.args.store.now c.args.self.now.slots c.requires.occupied (Err ends.0) (subst (λ i. IsPlace (order g c.args.query.now c.args.store.now) i.slots (Err ends.0)) c.self.view_is ends.1),
      cc,
    )

pub returns-clause-steps : goal.returns-clause-steps
returns-clause-steps g c = CountsAtMost-le c.in-Inserted.ensures.steps (omega (arith, height_bound c.self.inside.root c.self.invariant.dense c.self.invariant.top, ap (λ i. digits (length i.slots)) c.self.view_is))
