use Rattle.std.proofs.Common.{◌∷◌, ◌++◌, ◌∙◌, ℕ, List, length, refl, ap, subst, arith, of_calls}
use Rattle.std.specs.Fn.{CalledAt}
use Rattle.std.proofs.lemmas.Fn.{called_at}
use Rattle.iddqd_store.specs.Contents.{Ascends}
use Rattle.iddqd_store.proofs.VisitLemmas.{IsAsked, ascends_remove, asked_dropped, asked_end, asked_kept}
use Rattle.iddqd_ord_index.specs.Listed.{listed_items, occupied_slots}
use Rattle.iddqd_ord_index.proofs.ListedLemmas.{length-listed}
use Rattle.iddqd_ord.proofs.VisitingLemmas.{IsVisiting, item_there, slot_there, visit_drops, visit_keeps, visits_begin, visits_end}
use Rattle.iddqd_ord.proofs.id_ord_map.retain.retain_in_store.Given.{Over}
use Rattle.iddqd_ord.proofs.id_ord_map.retain.retain_in_store.Goals as goal

-- what is kept of the closure's results, and of the keys
abbrev held : (g : Over) → g.row.F.Denot → List g.row.T.Denot → g.row.F.Denot → List g.row.T.Denot → ℕ → Type 0
held g first old now items at = IsAsked (CalledAt g.F.FnMut) first old now items at × Ascends g.T.IdOrdItem.key g.T.Key.Ord.cmp items

pub visit-init : goal.visit-init
visit-init g c =
    let store = c.args.store.now in
    let all = c.args.walk in
    record {
      callable = c.requires.callable;
      visiting = visits_begin (held g c.args.keep (listed_items store all) c.args.keep) store all c.requires.paired ((λ ys rest. rest), c.requires.keyed);
      vacant = refl;
      bounds = (refl, refl);
    }

pub item-requires : goal.item-requires
item-requires g c =
    let now = held g c.args.keep (listed_items c.args.store.now c.args.walk) c.visit.keep in
    slot_there now c.visit.store c.args.walk c.next.new.self c.in-Some.slot (subst (IsVisiting now c.visit.store c.args.walk) c.in-Some.ensures.steps c.visit.invariant.visiting)

pub visit-preserved-then-not-keep : goal.visit-preserved-then-not-keep
visit-preserved-then-not-keep g c =
    let store = c.visit.store in
    let all = c.args.walk in
    let rest = c.next.new.self in
    let slot = c.in-Some.slot in
    let x = c.item.result.now in
    let old = listed_items c.args.store.now all in
    let now = held g c.args.keep old c.visit.keep in
    let inv = c.visit.invariant in
    let v = subst (IsVisiting now store all) c.in-Some.ensures.steps inv.visiting in
    let items = listed_items store (v.kept ++ slot ∷ rest) in
    let there = item_there now store all rest slot v x c.item.ensures in
    let asked = asked_dropped (CalledAt g.F.FnMut) c.args.keep old c.visit.keep c.keep.new.self items (length v.kept) x there (called_at g.F.FnMut c.keep.ensures c.if-not-keep.true) v.asked.0 in
    record {
      callable = search of_calls;
      visiting = visit_drops now store all rest slot v (held g c.args.keep old c.keep.new.self) c.remove.new.self x c.item.ensures c.remove.ensures.updates c.remove.ensures.len
          (asked, ascends_remove g.T.IdOrdItem.key g.T.Key.Ord.cmp items (length v.kept) v.asked.1);
      vacant = omega (arith, c.remove.ensures.vacant, c.remove.ensures.len, inv.vacant);
      bounds = (ap (λ s. s.capacity) c.remove.ensures.store ∙ inv.bounds.0, ap (λ s. s.limit) c.remove.ensures.store ∙ inv.bounds.1);
    }

pub visit-preserved : goal.visit-preserved
visit-preserved g c =
    let store = c.visit.store in
    let all = c.args.walk in
    let rest = c.next.new.self in
    let slot = c.in-Some.slot in
    let x = c.item.result.now in
    let old = listed_items c.args.store.now all in
    let now = held g c.args.keep old c.visit.keep in
    let inv = c.visit.invariant in
    let v = subst (IsVisiting now store all) c.in-Some.ensures.steps inv.visiting in
    let items = listed_items store (v.kept ++ slot ∷ rest) in
    let there = item_there now store all rest slot v x c.item.ensures in
    let asked = asked_kept (CalledAt g.F.FnMut) c.args.keep old c.visit.keep c.keep.new.self items (length v.kept) x there (called_at g.F.FnMut c.keep.ensures c.if-not-keep.false) v.asked.0 in
    record {
      callable = search of_calls;
      visiting = visit_keeps now store all rest slot v (held g c.args.keep old c.keep.new.self) (asked, v.asked.1);
      vacant = inv.vacant;
      bounds = inv.bounds;
    }

pub returns-clause-filtered : goal.returns-clause-filtered
returns-clause-filtered g c =
    let store = c.visit.store in
    let all = c.args.walk in
    let old = listed_items c.args.store.now all in
    let e = visits_end (held g c.args.keep old c.visit.keep) store all c.visit.walk c.in_default.ensures.steps.0 c.visit.invariant.visiting in
    let long = length-listed store (occupied_slots store all) e.0.occupied in
    asked_end (CalledAt g.F.FnMut) c.args.keep old c.visit.keep (listed_items store (occupied_slots store all)) (length (occupied_slots store all)) (omega arith) e.1.0
