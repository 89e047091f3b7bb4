use Rattle.std.proofs.Common.{◌≡◌, ℕ, ◌+◌, ◌-◌, ◌∙◌, Ok, Err, length, drop, subst, ap, sym, arith, length-drop}
use Rattle.std.proofs.lemmas.List.{take_rest}
use Rattle.std.specs.declared.cmp.Ordering.{Ordering}
use Rattle.std.specs.List.{All}
use Rattle.iddqd_store.specs.Store.{Store, IsOccupied}
use Rattle.iddqd_ord_index.specs.Nodes.{below, subtrees}
use Rattle.iddqd_ord_index.specs.Runs.{BeginsWith}
use Rattle.iddqd_ord_index.specs.Shape.{behind, lists}
use Rattle.iddqd_ord_index.specs.Standing.{slot_standing, IsPlace, IsMonotone}
use Rattle.iddqd_ord_index.proofs.BranchAtLemmas.{inner_levels, leaf_levels}
use Rattle.iddqd_ord_index.proofs.DescentLemmas.{branch_begins, inner, leaf, leaf_begins, digits_four, own_begins}
use Rattle.iddqd_ord_index.proofs.LeafLemmas.{heights_behind}
use Rattle.iddqd_ord_index.proofs.tree.node.Node.find_leaves.Given.{Over}
use Rattle.iddqd_ord_index.proofs.tree.node.Node.find_leaves.Goals as goal

-- how the query stands to a slot
abbrev order : (g : Over) → g.row.Q.Denot → Store g.row.T.Denot → ℕ → Ordering
order g query store = slot_standing g.T.IdOrdItem.key (g.Q.Comparable.compare query) store

pub search-requires-clause-occupied : goal.search-requires-clause-occupied
search-requires-clause-occupied g c =
    let n = inner (order g c.args.query.now c.args.store.now) (IsOccupied c.args.store.now) _ _ _ _ _ c.requires.monotone c.requires.occupied c.node.invariant.forked (c.is_empty.ensures.some c.down-test.true) c.node.view_is c.down.invariant.part in
    subst (All (IsOccupied c.args.store.now)) (sym c.as_slice-own.ensures.value) n.all

pub search-requires-clause-monotone : goal.search-requires-clause-monotone
search-requires-clause-monotone g c =
    let n = inner (order g c.args.query.now c.args.store.now) (IsOccupied c.args.store.now) _ _ _ _ _ c.requires.monotone c.requires.occupied c.node.invariant.forked (c.is_empty.ensures.some c.down-test.true) c.node.view_is c.down.invariant.part in
    subst (IsMonotone (order g c.args.query.now c.args.store.now)) (sym c.as_slice-own.ensures.value) n.monotone

pub start-requires-clause-room : goal.start-requires-clause-room
start-requires-clause-room g c =
    let n = inner (order g c.args.query.now c.args.store.now) (IsOccupied c.args.store.now) _ _ _ _ _ c.requires.monotone c.requires.occupied c.node.invariant.forked (c.is_empty.ensures.some c.down-test.true) c.node.view_is c.down.invariant.part in
    omega (arith, n.room, c.requires.room)

pub overflow_add-position : goal.overflow_add-position
overflow_add-position g c =
    let n = inner (order g c.args.query.now c.args.store.now) (IsOccupied c.args.store.now) _ _ _ _ _ c.requires.monotone c.requires.occupied c.node.invariant.forked (c.is_empty.ensures.some c.down-test.true) c.node.view_is c.down.invariant.part in
    let s : IsPlace (order g c.args.query.now c.args.store.now) c.node.inside.slots.items (Ok c.in-Ok.i) = rw c.as_slice-own.ensures.value at c.in-Ok.ensures.place in
    omega (arith, n.own_room c.in-Ok.i s.0, c.start.ensures, c.requires.room)

pub returns-in-Ok-clause-place : goal.returns-in-Ok-clause-place
returns-in-Ok-clause-place g c =
    let n = inner (order g c.args.query.now c.args.store.now) (IsOccupied c.args.store.now) _ _ _ _ _ c.requires.monotone c.requires.occupied c.node.invariant.forked (c.is_empty.ensures.some c.down-test.true) c.node.view_is c.down.invariant.part in
    let s : IsPlace (order g c.args.query.now c.args.store.now) c.node.inside.slots.items (Ok c.in-Ok.i) = rw c.as_slice-own.ensures.value at c.in-Ok.ensures.place in
    let o = n.own c.in-Ok.i (c.down.base + c.start.result - 1) s.0 s.1 (omega (arith, n.own_some c.in-Ok.i s.0, c.start.ensures)) in
    (o.0, o.1)

pub returns-in-Ok-clause-walk : goal.returns-in-Ok-clause-walk
returns-in-Ok-clause-walk g c =
    let n = inner (order g c.args.query.now c.args.store.now) (IsOccupied c.args.store.now) _ _ _ _ _ c.requires.monotone c.requires.occupied c.node.invariant.forked (c.is_empty.ensures.some c.down-test.true) c.node.view_is c.down.invariant.part in
    let s : IsPlace (order g c.args.query.now c.args.store.now) c.node.inside.slots.items (Ok c.in-Ok.i) = rw c.as_slice-own.ensures.value at c.in-Ok.ensures.place in
    subst (λ l. BeginsWith l (drop (c.down.base + c.start.result - 1) c.args.self.now.slots)) (sym c.along.ensures)
    (own_begins c.args.self.now.slots c.down.base (below c.node.inside.branches) c.node.inside.slots.items (behind (lists (subtrees c.down.leaves.now)) c.down.slots.now) c.down.node.now c.node.view_is c.down.invariant.walk c.node.invariant.forked (c.is_empty.ensures.some c.down-test.true) c.in-Ok.i (n.branch c.in-Ok.i (omega (arith, s.0))).0 c.as_slice-own.result.now (c.down.base + c.start.result - 1) c.as_slice-own.ensures.value s.0 (omega (arith, n.own_some c.in-Ok.i s.0, c.start.ensures)))

pub returns-in-Ok-clause-steps : goal.returns-in-Ok-clause-steps
returns-in-Ok-clause-steps g c = record {
  at_most = omega (arith, digits_four (length c.as_slice-own.result.now) c.as_slice-own.ensures.fits, c.down.invariant.counted, c.in-Ok.ensures.steps.at_most, inner_levels (below c.node.inside.branches) c.node.inside.slots.items c.node.invariant.forked (c.is_empty.ensures.some c.down-test.true), ap (λ t. t.height) c.node.view_is);
  never_resets = omega (arith, c.down.invariant.never_resets, c.in-Ok.ensures.steps.never_resets);
}

pub start-base-requires-clause-room : goal.start-base-requires-clause-room
start-base-requires-clause-room g c =
    let n = inner (order g c.args.query.now c.args.store.now) (IsOccupied c.args.store.now) _ _ _ _ _ c.requires.monotone c.requires.occupied c.node.invariant.forked (c.is_empty.ensures.some c.down-test.true) c.node.view_is c.down.invariant.part in
    omega (arith, n.room, c.requires.room)

pub overflow_add-base : goal.overflow_add-base
overflow_add-base g c =
    let n = inner (order g c.args.query.now c.args.store.now) (IsOccupied c.args.store.now) _ _ _ _ _ c.requires.monotone c.requires.occupied c.node.invariant.forked (c.is_empty.ensures.some c.down-test.true) c.node.view_is c.down.invariant.part in
    let s : IsPlace (order g c.args.query.now c.args.store.now) c.node.inside.slots.items (Err c.in-Err.i) = rw c.as_slice-own.ensures.value at c.in-Err.ensures.place in
    omega (arith, n.down_room c.in-Err.i s.0, c.start-base.ensures, c.requires.room)

pub down-preserved : goal.down-preserved
down-preserved g c =
    let n = inner (order g c.args.query.now c.args.store.now) (IsOccupied c.args.store.now) _ _ _ _ _ c.requires.monotone c.requires.occupied c.node.invariant.forked (c.is_empty.ensures.some c.down-test.true) c.node.view_is c.down.invariant.part in
    let s : IsPlace (order g c.args.query.now c.args.store.now) c.node.inside.slots.items (Err c.in-Err.i) = rw c.as_slice-own.ensures.value at c.in-Err.ensures.place in
    let b = n.branch c.in-Err.i s.0 in
    let u = c.branches_after-leaves.ensures.branches in
    let o = take_rest c.as_slice-own.result.now c.in-Err.i ∙ ap (drop c.in-Err.i) c.as_slice-own.ensures.value in
    record {
      part = n.down c.in-Err.i c.start-base.result c.get-node.result.now s c.start-base.ensures c.get-node.ensures;
      walk = branch_begins c.args.self.now.slots c.down.base (below c.node.inside.branches) c.node.inside.slots.items (behind (lists (subtrees c.down.leaves.now)) c.down.slots.now) c.down.node.now c.node.view_is c.down.invariant.walk c.node.invariant.forked (c.is_empty.ensures.some c.down-test.true) c.in-Err.i b.0 _ _ c.get-node.result.now c.start-base.result c.start-base.ensures c.get-node.ensures u o;
      cells = omega (arith, c.branches_after-leaves.ensures.present, ap length u, ap length o, length-drop (c.in-Err.i + 1) (below c.node.inside.branches), length-drop c.in-Err.i c.node.inside.slots.items, c.node.invariant.forked.fork (c.is_empty.ensures.some c.down-test.true));
      present = c.branches_after-leaves.ensures.present;
      heights = subst (All (λ t. t.height ≡ c.get-node.result.now.height)) (sym u) (heights_behind (below c.node.inside.branches) c.node.inside.slots.items c.node.invariant.forked c.in-Err.i b.0 c.get-node.result.now c.get-node.ensures);
      counted = omega (arith, digits_four (length c.as_slice-own.result.now) c.as_slice-own.ensures.fits, c.down.invariant.counted, c.in-Err.ensures.steps.at_most, b.1.height, ap (λ t. t.height) c.get-node.ensures, ap (λ t. t.height) c.node.view_is);
      never_resets = omega (arith, c.down.invariant.never_resets, c.in-Err.ensures.steps.never_resets);
    }

pub search-requires-2-clause-occupied : goal.search-requires-2-clause-occupied
search-requires-2-clause-occupied g c =
    let n = leaf (order g c.args.query.now c.args.store.now) (IsOccupied c.args.store.now) _ _ _ _ _ c.requires.monotone c.requires.occupied (c.is_empty.ensures.none c.down-test.false) c.node.view_is c.down.invariant.part in
    subst (All (IsOccupied c.args.store.now)) (sym c.as_slice-own-2.ensures.value) n.all

pub search-requires-2-clause-monotone : goal.search-requires-2-clause-monotone
search-requires-2-clause-monotone g c =
    let n = leaf (order g c.args.query.now c.args.store.now) (IsOccupied c.args.store.now) _ _ _ _ _ c.requires.monotone c.requires.occupied (c.is_empty.ensures.none c.down-test.false) c.node.view_is c.down.invariant.part in
    subst (IsMonotone (order g c.args.query.now c.args.store.now)) (sym c.as_slice-own-2.ensures.value) n.monotone

pub returns-in-Ok-search-clause-walk : goal.returns-in-Ok-search-clause-walk
returns-in-Ok-search-clause-walk g c =
    leaf_begins c.args.self.now.slots c.down.base (below c.node.inside.branches) c.node.inside.slots.items (behind (lists (subtrees c.down.leaves.now)) c.down.slots.now) c.down.node.now c.node.view_is c.down.invariant.walk (c.is_empty.ensures.none c.down-test.false) c.as_slice-own-2.result.now c.in-Ok-search.i c.as_slice-own-2.ensures.value (omega (arith, c.in-Ok-search.ensures.place.0))

pub returns-in-Ok-search-clause-steps : goal.returns-in-Ok-search-clause-steps
returns-in-Ok-search-clause-steps g c = record {
  at_most = omega (arith, digits_four (length c.as_slice-own-2.result.now) c.as_slice-own-2.ensures.fits, c.down.invariant.counted, c.in-Ok-search.ensures.steps.at_most, leaf_levels (below c.node.inside.branches) (c.is_empty.ensures.none c.down-test.false), ap (λ t. t.height) c.node.view_is);
  never_resets = omega (arith, c.down.invariant.never_resets, c.in-Ok-search.ensures.steps.never_resets);
}

pub returns-in-Err-search-clause-place : goal.returns-in-Err-search-clause-place
returns-in-Err-search-clause-place g c =
    let n = leaf (order g c.args.query.now c.args.store.now) (IsOccupied c.args.store.now) _ _ _ _ _ c.requires.monotone c.requires.occupied (c.is_empty.ensures.none c.down-test.false) c.node.view_is c.down.invariant.part in
    n.missed c.in-Err-search.i (rw (sym c.as_slice-own-2.ensures.value) c.in-Err-search.ensures.place)

pub returns-in-Err-search-clause-walk : goal.returns-in-Err-search-clause-walk
returns-in-Err-search-clause-walk g c =
    leaf_begins c.args.self.now.slots c.down.base (below c.node.inside.branches) c.node.inside.slots.items (behind (lists (subtrees c.down.leaves.now)) c.down.slots.now) c.down.node.now c.node.view_is c.down.invariant.walk (c.is_empty.ensures.none c.down-test.false) c.as_slice-own-2.result.now c.in-Err-search.i c.as_slice-own-2.ensures.value c.in-Err-search.ensures.place.0

pub returns-in-Err-search-clause-steps : goal.returns-in-Err-search-clause-steps
returns-in-Err-search-clause-steps g c = record {
  at_most = omega (arith, digits_four (length c.as_slice-own-2.result.now) c.as_slice-own-2.ensures.fits, c.down.invariant.counted, c.in-Err-search.ensures.steps.at_most, leaf_levels (below c.node.inside.branches) (c.is_empty.ensures.none c.down-test.false), ap (λ t. t.height) c.node.view_is);
  never_resets = omega (arith, c.down.invariant.never_resets, c.in-Err-search.ensures.steps.never_resets);
}
