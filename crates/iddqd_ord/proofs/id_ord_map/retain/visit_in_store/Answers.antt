use Rattle.std.proofs.Common.{◌≡◌, ◌+◌, ◌∷◌, ◌++◌, ◌∙◌, ℕ, List, true, false, length, set, refl, sym, ap, subst, arith}
use Rattle.std.specs.List.{remove}
use Rattle.iddqd_store.specs.Store.{with_item}
use Rattle.iddqd_store.proofs.StoreLemmas.{len_lent, vacant_lent}
use Rattle.iddqd_store.proofs.VisitLemmas.{ascends_remove, visited_dropped, visited_end, visited_kept, visitor_dropped, visitor_end, visitor_kept, written_then_removed}
use Rattle.iddqd_ord_index.specs.Listed.{listed_items, occupied_slots}
use Rattle.iddqd_ord_index.proofs.ListedLemmas.{length-listed}
use Rattle.iddqd_ord.proofs.VisitingLemmas.{IsVisited, IsVisiting, ascends_written, item_there, slot_there, visit_drops, visit_keeps, visit_writes, visits_begin, visits_end}
use Rattle.iddqd_ord.proofs.id_ord_map.retain.visit_in_store.Given.{Over}
use Rattle.iddqd_ord.proofs.id_ord_map.retain.visit_in_store.Goals as goal

abbrev held : (g : Over) → g.row.V.Denot → List g.row.T.Denot → g.row.V.Denot → List g.row.T.Denot → ℕ → Type 0
held g first old now = IsVisited g.V.Visit.visits g.T.IdOrdItem.key g.T.Key.Ord.cmp first old now

pub visit-init : goal.visit-init
visit-init g c =
    let store = c.args.store.now in
    let all = c.args.walk in
    let first = c.args.visitor.now in
    record {
      visiting = visits_begin (held g first (listed_items store all) first) store all c.requires.paired (record { items = refl; visitor = refl; keyed = c.requires.keyed });
      vacant = refl;
      bounds = (refl, refl);
    }

pub get_mut-requires : goal.get_mut-requires
get_mut-requires g c =
    let now = held g c.args.visitor.now (listed_items c.args.store.now c.args.walk) c.visit.visitor in
    slot_there now c.visit.store c.args.walk c.next.new.self c.in-Some.slot (subst (IsVisiting now c.visit.store c.args.walk) c.in-Some.ensures.steps c.visit.invariant.visiting)

pub visit-preserved-then-not-visit : goal.visit-preserved-then-not-visit
visit-preserved-then-not-visit g c =
    let visits = g.V.Visit.visits in
    let key = g.T.IdOrdItem.key in
    let cmp = g.T.Key.Ord.cmp in
    let store = c.visit.store in
    let all = c.args.walk in
    let rest = c.next.new.self in
    let slot = c.in-Some.slot in
    let x = c.get_mut.result.now in
    let y = c.visit-in-Some.new.item in
    let v = c.visit.visitor in
    let w = c.visit-in-Some.new.self in
    let first = c.args.visitor.now in
    let old = listed_items c.args.store.now all in
    let inv = c.visit.invariant in
    let p = subst (IsVisiting (held g first old v) store all) c.in-Some.ensures.steps inv.visiting in
    let at = length p.kept in
    let items = listed_items store (p.kept ++ slot ∷ rest) in
    let here = slot_there (held g first old v) store all rest slot p in
    let there = item_there (held g first old v) store all rest slot p x c.get_mut.ensures.item in
    let told : visits v x ≡ (w, y, false) = c.visit-in-Some.ensures ∙ ap (λ b. (w, y, b)) c.if-not-visit.true in
    let gone : held g first old w (remove items at) at = record {
      items = p.asked.items ∙ visited_dropped visits v w x y items at there told;
      visitor = p.asked.visitor ∙ visitor_dropped visits v w x y items at false there told;
      keyed = ascends_remove key cmp items at p.asked.keyed;
    } in
    let q = visit_writes (held g first old v) store all rest slot p (λ its n. held g first old w (remove its n) n) y (subst (λ its. held g first old w its at) (sym (written_then_removed items at y)) gone) in
    record {
      visiting = visit_drops (λ its n. held g first old w (remove its n) n) (with_item store slot y) all rest slot q (held g first old w) c.remove.new.self c.remove.result c.remove.ensures.item c.remove.ensures.updates c.remove.ensures.len q.asked;
      vacant = omega (arith, c.remove.ensures.vacant, c.remove.ensures.len, vacant_lent store slot y here, len_lent store slot y here, inv.vacant);
      bounds = (ap (λ s. s.capacity) c.remove.ensures.store ∙ inv.bounds.0, ap (λ s. s.limit) c.remove.ensures.store ∙ inv.bounds.1);
    }

pub visit-preserved : goal.visit-preserved
visit-preserved g c =
    let visits = g.V.Visit.visits in
    let key = g.T.IdOrdItem.key in
    let eq = g.T.Key.PartialEq.eq in
    let store = c.visit.store in
    let all = c.args.walk in
    let rest = c.next.new.self in
    let slot = c.in-Some.slot in
    let x = c.get_mut.result.now in
    let y = c.visit-in-Some.new.item in
    let v = c.visit.visitor in
    let w = c.visit-in-Some.new.self in
    let first = c.args.visitor.now in
    let old = listed_items c.args.store.now all in
    let inv = c.visit.invariant in
    let p = subst (IsVisiting (held g first old v) store all) c.in-Some.ensures.steps inv.visiting in
    let at = length p.kept in
    let items = listed_items store (p.kept ++ slot ∷ rest) in
    let here = slot_there (held g first old v) store all rest slot p in
    let there = item_there (held g first old v) store all rest slot p x c.get_mut.ensures.item in
    let told : visits v x ≡ (w, y, true) = c.visit-in-Some.ensures ∙ ap (λ b. (w, y, b)) c.if-not-visit.false in
    let akin : eq (key x) (key y) ≡ true = ap (λ p. eq (key x) (key p.1)) (sym c.visit-in-Some.ensures) ∙ c.requires.keeps_keys v x in
    let stays : held g first old w (set items at y) (at + 1) = record {
      items = p.asked.items ∙ visited_kept visits v w x y items at there told;
      visitor = p.asked.visitor ∙ visitor_kept visits v w x y items at true there told;
      keyed = ascends_written key g.met.T.Key.Eq.laws g.met.T.Key.Ord.total g.met.T.Key.Ord.matches_eq items at x y there akin p.asked.keyed;
    } in
    let q = visit_writes (held g first old v) store all rest slot p (λ its n. held g first old w its (n + 1)) y stays in
    record {
      visiting = visit_keeps (λ its n. held g first old w its (n + 1)) (with_item store slot y) all rest slot q (held g first old w) q.asked;
      vacant = omega (arith, vacant_lent store slot y here, len_lent store slot y here, inv.vacant);
      bounds = inv.bounds;
    }

pub returns-clause-items : goal.returns-clause-items
returns-clause-items g c =
    let store = c.visit.store in
    let all = c.args.walk in
    let left = occupied_slots store all in
    let e = visits_end (held g c.args.visitor.now (listed_items c.args.store.now all) c.visit.visitor) store all c.visit.walk c.in_default.ensures.steps.0 c.visit.invariant.visiting in
    let long = length-listed store left e.0.occupied in
    sym (e.1.items ∙ visited_end g.V.Visit.visits c.visit.visitor (listed_items store left) (length left) (omega arith))

pub returns-clause-visitor : goal.returns-clause-visitor
returns-clause-visitor g c =
    let store = c.visit.store in
    let all = c.args.walk in
    let left = occupied_slots store all in
    let e = visits_end (held g c.args.visitor.now (listed_items c.args.store.now all) c.visit.visitor) store all c.visit.walk c.in_default.ensures.steps.0 c.visit.invariant.visiting in
    let long = length-listed store left e.0.occupied in
    sym (e.1.visitor ∙ visitor_end g.V.Visit.visits c.visit.visitor (listed_items store left) (length left) (omega arith))
