use Rattle.std.proofs.Common.{◌+◌, ◌-◌, ◌∙◌, Some, Ok, Err, length, get_or, subst, ap, sym, arith}
use Rattle.std.proofs.lemmas.Option.{slice_get-get_or}
use Rattle.std.specs.List.{All}
use Rattle.iddqd_store.specs.Store.{IsOccupied}
use Rattle.iddqd_ord_index.specs.Nodes.{below}
use Rattle.iddqd_ord_index.specs.Standing.{slot_standing, IsPlace, IsMonotone}
use Rattle.iddqd_ord_index.proofs.BranchAtLemmas.{inner_levels, leaf_levels}
use Rattle.iddqd_ord_index.proofs.DescentLemmas.{inner, leaf, digits_four}
use Rattle.iddqd_ord_index.proofs.tree.node.Node.find.Goals as goal

pub search-requires-clause-occupied : goal.search-requires-clause-occupied
search-requires-clause-occupied g c =
    let n = inner (slot_standing g.T.IdOrdItem.key (g.Q.Comparable.compare c.args.query.now) c.args.store.now) (IsOccupied c.args.store.now) _ _ _ _ _ c.requires.monotone c.requires.occupied c.node.invariant.forked (c.is_empty.ensures.some c.down-test.true) c.node.view_is c.down.invariant.part in
    subst (λ l. All (IsOccupied c.args.store.now) l) (sym c.as_slice.ensures.value) n.all

pub search-requires-clause-monotone : goal.search-requires-clause-monotone
search-requires-clause-monotone g c =
    let n = inner (slot_standing g.T.IdOrdItem.key (g.Q.Comparable.compare c.args.query.now) c.args.store.now) (IsOccupied c.args.store.now) _ _ _ _ _ c.requires.monotone c.requires.occupied c.node.invariant.forked (c.is_empty.ensures.some c.down-test.true) c.node.view_is c.down.invariant.part in
    subst (λ l. IsMonotone (slot_standing g.T.IdOrdItem.key (g.Q.Comparable.compare c.args.query.now) c.args.store.now) l) (sym c.as_slice.ensures.value) n.monotone

pub start-requires-clause-room : goal.start-requires-clause-room
start-requires-clause-room g c =
    let n = inner (slot_standing g.T.IdOrdItem.key (g.Q.Comparable.compare c.args.query.now) c.args.store.now) (IsOccupied c.args.store.now) _ _ _ _ _ c.requires.monotone c.requires.occupied c.node.invariant.forked (c.is_empty.ensures.some c.down-test.true) c.node.view_is c.down.invariant.part in
    omega (arith, n.room, c.requires.room)

pub overflow_add-position : goal.overflow_add-position
overflow_add-position g c =
    let n = inner (slot_standing g.T.IdOrdItem.key (g.Q.Comparable.compare c.args.query.now) c.args.store.now) (IsOccupied c.args.store.now) _ _ _ _ _ c.requires.monotone c.requires.occupied c.node.invariant.forked (c.is_empty.ensures.some c.down-test.true) c.node.view_is c.down.invariant.part in
    let s : IsPlace (slot_standing g.T.IdOrdItem.key (g.Q.Comparable.compare c.args.query.now) c.args.store.now) c.node.inside.slots.items (Ok c.in-Ok.i) = subst (λ l. IsPlace (slot_standing g.T.IdOrdItem.key (g.Q.Comparable.compare c.args.query.now) c.args.store.now) l (Ok c.in-Ok.i)) c.as_slice.ensures.value c.in-Ok.ensures.place in
    omega (arith, n.own_room c.in-Ok.i s.0, c.start.ensures, c.requires.room)

pub returns-in-Ok-clause-place : goal.returns-in-Ok-clause-place
returns-in-Ok-clause-place g c =
    let n = inner (slot_standing g.T.IdOrdItem.key (g.Q.Comparable.compare c.args.query.now) c.args.store.now) (IsOccupied c.args.store.now) _ _ _ _ _ c.requires.monotone c.requires.occupied c.node.invariant.forked (c.is_empty.ensures.some c.down-test.true) c.node.view_is c.down.invariant.part in
    let s : IsPlace (slot_standing g.T.IdOrdItem.key (g.Q.Comparable.compare c.args.query.now) c.args.store.now) c.node.inside.slots.items (Ok c.in-Ok.i) = subst (λ l. IsPlace (slot_standing g.T.IdOrdItem.key (g.Q.Comparable.compare c.args.query.now) c.args.store.now) l (Ok c.in-Ok.i)) c.as_slice.ensures.value c.in-Ok.ensures.place in
    let o = n.own c.in-Ok.i (c.down.base + c.start.result - 1) s.0 s.1 (omega (arith, n.own_some c.in-Ok.i s.0, c.start.ensures)) in
    (o.0, o.1)

pub returns-in-Ok-clause-slot : goal.returns-in-Ok-clause-slot
returns-in-Ok-clause-slot g c =
    let n = inner (slot_standing g.T.IdOrdItem.key (g.Q.Comparable.compare c.args.query.now) c.args.store.now) (IsOccupied c.args.store.now) _ _ _ _ _ c.requires.monotone c.requires.occupied c.node.invariant.forked (c.is_empty.ensures.some c.down-test.true) c.node.view_is c.down.invariant.part in
    let s : IsPlace (slot_standing g.T.IdOrdItem.key (g.Q.Comparable.compare c.args.query.now) c.args.store.now) c.node.inside.slots.items (Ok c.in-Ok.i) = subst (λ l. IsPlace (slot_standing g.T.IdOrdItem.key (g.Q.Comparable.compare c.args.query.now) c.args.store.now) l (Ok c.in-Ok.i)) c.as_slice.ensures.value c.in-Ok.ensures.place in
    let o = n.own c.in-Ok.i (c.down.base + c.start.result - 1) s.0 s.1 (omega (arith, n.own_some c.in-Ok.i s.0, c.start.ensures)) in
    slice_get-get_or c.args.self.now.slots (c.down.base + c.start.result - 1) 0 o.0 ∙ ap Some (o.2 ∙ ap (λ l. get_or l c.in-Ok.i 0) (sym c.as_slice-in-Ok.ensures.value))

pub returns-in-Ok-clause-steps : goal.returns-in-Ok-clause-steps
returns-in-Ok-clause-steps g c = record {
  at_most = omega (arith, digits_four (length c.as_slice.result.now) c.as_slice.ensures.fits, c.down.invariant.counted, c.in-Ok.ensures.steps.at_most, inner_levels (below c.node.inside.branches) c.node.inside.slots.items c.node.invariant.forked (c.is_empty.ensures.some c.down-test.true), ap (λ t. t.height) c.node.view_is);
  never_resets = omega (arith, c.down.invariant.never_resets, c.in-Ok.ensures.steps.never_resets);
}

pub start-base-requires-clause-room : goal.start-base-requires-clause-room
start-base-requires-clause-room g c =
    let n = inner (slot_standing g.T.IdOrdItem.key (g.Q.Comparable.compare c.args.query.now) c.args.store.now) (IsOccupied c.args.store.now) _ _ _ _ _ c.requires.monotone c.requires.occupied c.node.invariant.forked (c.is_empty.ensures.some c.down-test.true) c.node.view_is c.down.invariant.part in
    omega (arith, n.room, c.requires.room)

pub overflow_add-base : goal.overflow_add-base
overflow_add-base g c =
    let n = inner (slot_standing g.T.IdOrdItem.key (g.Q.Comparable.compare c.args.query.now) c.args.store.now) (IsOccupied c.args.store.now) _ _ _ _ _ c.requires.monotone c.requires.occupied c.node.invariant.forked (c.is_empty.ensures.some c.down-test.true) c.node.view_is c.down.invariant.part in
    let s : IsPlace (slot_standing g.T.IdOrdItem.key (g.Q.Comparable.compare c.args.query.now) c.args.store.now) c.node.inside.slots.items (Err c.in-Err.i) = subst (λ l. IsPlace (slot_standing g.T.IdOrdItem.key (g.Q.Comparable.compare c.args.query.now) c.args.store.now) l (Err c.in-Err.i)) c.as_slice.ensures.value c.in-Err.ensures.place in
    omega (arith, n.down_room c.in-Err.i s.0, c.start-base.ensures, c.requires.room)

pub down-preserved : goal.down-preserved
down-preserved g c =
    let n = inner (slot_standing g.T.IdOrdItem.key (g.Q.Comparable.compare c.args.query.now) c.args.store.now) (IsOccupied c.args.store.now) _ _ _ _ _ c.requires.monotone c.requires.occupied c.node.invariant.forked (c.is_empty.ensures.some c.down-test.true) c.node.view_is c.down.invariant.part in
    let s : IsPlace (slot_standing g.T.IdOrdItem.key (g.Q.Comparable.compare c.args.query.now) c.args.store.now) c.node.inside.slots.items (Err c.in-Err.i) = subst (λ l. IsPlace (slot_standing g.T.IdOrdItem.key (g.Q.Comparable.compare c.args.query.now) c.args.store.now) l (Err c.in-Err.i)) c.as_slice.ensures.value c.in-Err.ensures.place in
    let b = n.branch c.in-Err.i s.0 in
    record {
      part = n.down c.in-Err.i c.start-base.result c.get-node.result.now s c.start-base.ensures c.get-node.ensures;
      counted = omega (arith, digits_four (length c.as_slice.result.now) c.as_slice.ensures.fits, c.down.invariant.counted, c.in-Err.ensures.steps.at_most, b.1.height, ap (λ t. t.height) c.get-node.ensures, ap (λ t. t.height) c.node.view_is);
      never_resets = omega (arith, c.down.invariant.never_resets, c.in-Err.ensures.steps.never_resets);
    }

pub search-requires-2-clause-occupied : goal.search-requires-2-clause-occupied
search-requires-2-clause-occupied g c =
    let n = leaf (slot_standing g.T.IdOrdItem.key (g.Q.Comparable.compare c.args.query.now) c.args.store.now) (IsOccupied c.args.store.now) _ _ _ _ _ c.requires.monotone c.requires.occupied (c.is_empty.ensures.none c.down-test.false) c.node.view_is c.down.invariant.part in
    subst (λ l. All (IsOccupied c.args.store.now) l) (sym c.as_slice-2.ensures.value) n.all

pub search-requires-2-clause-monotone : goal.search-requires-2-clause-monotone
search-requires-2-clause-monotone g c =
    let n = leaf (slot_standing g.T.IdOrdItem.key (g.Q.Comparable.compare c.args.query.now) c.args.store.now) (IsOccupied c.args.store.now) _ _ _ _ _ c.requires.monotone c.requires.occupied (c.is_empty.ensures.none c.down-test.false) c.node.view_is c.down.invariant.part in
    subst (λ l. IsMonotone (slot_standing g.T.IdOrdItem.key (g.Q.Comparable.compare c.args.query.now) c.args.store.now) l) (sym c.as_slice-2.ensures.value) n.monotone

pub overflow_add-result : goal.overflow_add-result
overflow_add-result g c =
    let n = leaf (slot_standing g.T.IdOrdItem.key (g.Q.Comparable.compare c.args.query.now) c.args.store.now) (IsOccupied c.args.store.now) _ _ _ _ _ c.requires.monotone c.requires.occupied (c.is_empty.ensures.none c.down-test.false) c.node.view_is c.down.invariant.part in
    let s : IsPlace (slot_standing g.T.IdOrdItem.key (g.Q.Comparable.compare c.args.query.now) c.args.store.now) c.node.inside.slots.items (Ok c.in-Ok-search.i) = subst (λ l. IsPlace (slot_standing g.T.IdOrdItem.key (g.Q.Comparable.compare c.args.query.now) c.args.store.now) l (Ok c.in-Ok-search.i)) c.as_slice-2.ensures.value c.in-Ok-search.ensures.place in
    omega (arith, n.fits, s.0, c.requires.room)

pub returns-in-Ok-search-clause-place : goal.returns-in-Ok-search-clause-place
returns-in-Ok-search-clause-place g c =
    let n = leaf (slot_standing g.T.IdOrdItem.key (g.Q.Comparable.compare c.args.query.now) c.args.store.now) (IsOccupied c.args.store.now) _ _ _ _ _ c.requires.monotone c.requires.occupied (c.is_empty.ensures.none c.down-test.false) c.node.view_is c.down.invariant.part in
    let s : IsPlace (slot_standing g.T.IdOrdItem.key (g.Q.Comparable.compare c.args.query.now) c.args.store.now) c.node.inside.slots.items (Ok c.in-Ok-search.i) = subst (λ l. IsPlace (slot_standing g.T.IdOrdItem.key (g.Q.Comparable.compare c.args.query.now) c.args.store.now) l (Ok c.in-Ok-search.i)) c.as_slice-2.ensures.value c.in-Ok-search.ensures.place in
    n.found c.in-Ok-search.i s

pub returns-in-Ok-search-clause-slot : goal.returns-in-Ok-search-clause-slot
returns-in-Ok-search-clause-slot g c =
    let n = leaf (slot_standing g.T.IdOrdItem.key (g.Q.Comparable.compare c.args.query.now) c.args.store.now) (IsOccupied c.args.store.now) _ _ _ _ _ c.requires.monotone c.requires.occupied (c.is_empty.ensures.none c.down-test.false) c.node.view_is c.down.invariant.part in
    let s : IsPlace (slot_standing g.T.IdOrdItem.key (g.Q.Comparable.compare c.args.query.now) c.args.store.now) c.node.inside.slots.items (Ok c.in-Ok-search.i) = subst (λ l. IsPlace (slot_standing g.T.IdOrdItem.key (g.Q.Comparable.compare c.args.query.now) c.args.store.now) l (Ok c.in-Ok-search.i)) c.as_slice-2.ensures.value c.in-Ok-search.ensures.place in
    slice_get-get_or c.args.self.now.slots (c.down.base + c.in-Ok-search.i) 0 (omega (arith, n.fits, s.0)) ∙ ap Some (n.same c.in-Ok-search.i s.0 ∙ ap (λ l. get_or l c.in-Ok-search.i 0) (sym c.as_slice-in-Ok-search.ensures.value))

pub returns-in-Ok-search-clause-steps : goal.returns-in-Ok-search-clause-steps
returns-in-Ok-search-clause-steps g c = record {
  at_most = omega (arith, digits_four (length c.as_slice-2.result.now) c.as_slice-2.ensures.fits, c.down.invariant.counted, c.in-Ok-search.ensures.steps.at_most, leaf_levels (below c.node.inside.branches) (c.is_empty.ensures.none c.down-test.false), ap (λ t. t.height) c.node.view_is);
  never_resets = omega (arith, c.down.invariant.never_resets, c.in-Ok-search.ensures.steps.never_resets);
}

pub overflow_add-result-in-Err-search : goal.overflow_add-result-in-Err-search
overflow_add-result-in-Err-search g c =
    let n = leaf (slot_standing g.T.IdOrdItem.key (g.Q.Comparable.compare c.args.query.now) c.args.store.now) (IsOccupied c.args.store.now) _ _ _ _ _ c.requires.monotone c.requires.occupied (c.is_empty.ensures.none c.down-test.false) c.node.view_is c.down.invariant.part in
    let s : IsPlace (slot_standing g.T.IdOrdItem.key (g.Q.Comparable.compare c.args.query.now) c.args.store.now) c.node.inside.slots.items (Err c.in-Err-search.i) = subst (λ l. IsPlace (slot_standing g.T.IdOrdItem.key (g.Q.Comparable.compare c.args.query.now) c.args.store.now) l (Err c.in-Err-search.i)) c.as_slice-2.ensures.value c.in-Err-search.ensures.place in
    omega (arith, n.fits, s.0, c.requires.room)

pub returns-in-Err-search-clause-place : goal.returns-in-Err-search-clause-place
returns-in-Err-search-clause-place g c =
    let n = leaf (slot_standing g.T.IdOrdItem.key (g.Q.Comparable.compare c.args.query.now) c.args.store.now) (IsOccupied c.args.store.now) _ _ _ _ _ c.requires.monotone c.requires.occupied (c.is_empty.ensures.none c.down-test.false) c.node.view_is c.down.invariant.part in
    let s : IsPlace (slot_standing g.T.IdOrdItem.key (g.Q.Comparable.compare c.args.query.now) c.args.store.now) c.node.inside.slots.items (Err c.in-Err-search.i) = subst (λ l. IsPlace (slot_standing g.T.IdOrdItem.key (g.Q.Comparable.compare c.args.query.now) c.args.store.now) l (Err c.in-Err-search.i)) c.as_slice-2.ensures.value c.in-Err-search.ensures.place in
    n.missed c.in-Err-search.i s

pub returns-in-Err-search-clause-steps : goal.returns-in-Err-search-clause-steps
returns-in-Err-search-clause-steps g c = record {
  at_most = omega (arith, digits_four (length c.as_slice-2.result.now) c.as_slice-2.ensures.fits, c.down.invariant.counted, c.in-Err-search.ensures.steps.at_most, leaf_levels (below c.node.inside.branches) (c.is_empty.ensures.none c.down-test.false), ap (λ t. t.height) c.node.view_is);
  never_resets = omega (arith, c.down.invariant.never_resets, c.in-Err-search.ensures.steps.never_resets);
}
