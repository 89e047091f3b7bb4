use Rattle.std.proofs.Common.{ℕ, ◌≡◌, ◌≢◌, ◌+◌, ◌-◌, ◌<◌, ◌≤◌, Ok, min, length, take, get_or, refl, subst, ap, sym, ◌∙◌, arith}
use Rattle.std.proofs.lemmas.Grind.{common_steps}
use Rattle.std.specs.List.{All, remove}
use Rattle.std.specs.declared.cmp.Ordering.{Ordering}
use Rattle.iddqd_store.specs.Store.{Store, IsOccupied}
use Rattle.iddqd_ord_index.specs.NodeRemoval.{own_place}
use Rattle.iddqd_ord_index.specs.Nodes.{below, AreBranches}
use Rattle.iddqd_ord_index.specs.Shape.{levels, lists, starts, unused}
use Rattle.iddqd_ord_index.specs.Standing.{slot_standing, IsMonotone, IsPlace}
use Rattle.iddqd_ord_index.proofs.CellLemmas.{branches_with, cell_full}
use Rattle.iddqd_ord_index.proofs.ChildLemmas.{IsChild, IsStill, child, child_at, child_found, child_place, low_of, place_inside, steps_here, steps_below}
use Rattle.iddqd_ord_index.proofs.DenseLemmas.{dense_of}
use Rattle.iddqd_ord_index.proofs.DescentLemmas.{inner}
use Rattle.iddqd_ord_index.proofs.FoundLemmas.{whole_part}
use Rattle.iddqd_ord_index.proofs.SearchedLemmas.{own}
use Rattle.iddqd_ord_index.proofs.RemoveLemmas.{IsShrunk, gives_back, kept_below, put_shrunk, room_left}
use Rattle.iddqd_ord_index.proofs.tree.node.Node.+remove_by_key.Given.{Over}
use Rattle.iddqd_ord_index.proofs.tree.node.Node.+remove_by_key.Goals as goal

abbrev order : (g : Over) → g.row.Q.Denot → Store g.row.T.Denot → ℕ → Ordering
order g q store = slot_standing g.T.IdOrdItem.key (g.Q.Comparable.compare q) store

-- the node's own slots
pub search-place-requires-clause-occupied : goal.search-place-requires-clause-occupied
search-place-requires-clause-occupied g t c =
    let occupied = IsOccupied c.args.store.now in
    subst (λ l. All occupied l) (sym c.as_slice.ensures.value) (own (order g c.args.query.now c.args.store.now) occupied (below c.self.inside.branches) c.self.inside.slots.items c.args.self.now c.requires.monotone c.requires.occupied c.self.invariant.forked c.self.view_is).1

pub search-place-requires-clause-monotone : goal.search-place-requires-clause-monotone
search-place-requires-clause-monotone g t c =
    let x = order g c.args.query.now c.args.store.now in
    subst (λ l. IsMonotone x l) (sym c.as_slice.ensures.value) (own x (IsOccupied c.args.store.now) (below c.self.inside.branches) c.self.inside.slots.items c.args.self.now c.requires.monotone c.requires.occupied c.self.invariant.forked c.self.view_is).0

-- a leaf
pub returns-in-Ok-clause-slots : goal.returns-in-Ok-clause-slots
returns-in-Ok-clause-slots g t c = grind (arith, common_steps)

pub returns-in-Ok-clause-steps : goal.returns-in-Ok-clause-steps
returns-in-Ok-clause-steps g t c = steps_here _ _ _ _ c.as_slice.ensures.fits c.search-place.ensures.steps (low_of _ _ _ c.self.invariant.forked c.self.view_is)

pub returns-in-Err-clause-steps : goal.returns-in-Err-clause-steps
returns-in-Err-clause-steps g t c = steps_here _ _ _ _ c.as_slice.ensures.fits c.search-place.ensures.steps (low_of _ _ _ c.self.invariant.forked c.self.view_is)

-- an own slot of an inner node
pub returns-in-Ok-place-clause-slots : goal.returns-in-Ok-place-clause-slots
returns-in-Ok-place-clause-slots g t c =
    let x = order g c.args.query.now c.args.store.now in
    let at : ℕ = own_place c.self.inside.branches c.in-Ok-place.i in
    let n = inner x (IsOccupied c.args.store.now) c.args.self.now.slots (below c.self.inside.branches) c.self.inside.slots.items 0 c.args.self.now c.requires.monotone c.requires.occupied c.self.invariant.forked (c.is_empty.ensures.some c.if-is_empty.false) c.self.view_is (whole_part x c.args.self.now.slots) in
    let s : IsPlace x c.self.inside.slots.items (Ok c.in-Ok-place.i) = subst (λ l. IsPlace x l (Ok c.in-Ok-place.i)) c.as_slice.ensures.value c.in-Ok-place.ensures.place in
    let o = n.own c.in-Ok-place.i at s.0 s.1 (omega (arith, n.own_some c.in-Ok-place.i s.0)) in
    (at, c.remove_own.ensures.value ∙ sym o.2, (o.0, o.1), c.remove_own.ensures.slots ∙ ap (λ x. remove x.slots at) c.self.view_is)

pub returns-in-Ok-place-clause-dense : goal.returns-in-Ok-place-clause-dense
returns-in-Ok-place-clause-dense g t c = dense_of (below c.remove_own.new.branches) c.remove_own.new.slots.items c.remove_own.ensures.forked

pub returns-in-Ok-place-clause-steps : goal.returns-in-Ok-place-clause-steps
returns-in-Ok-place-clause-steps g t c = steps_here _ _ _ _ c.as_slice.ensures.fits c.search-place.ensures.steps (low_of _ _ _ c.self.invariant.forked c.self.view_is)

pub unwrap-node-requires : goal.unwrap-node-requires
unwrap-node-requires g t c =
    let lt = place_inside (below c.self.inside.branches) _ _ c.in-Err-place.i c.self.invariant.forked (c.is_empty.ensures.some c.if-is_empty.false) c.as_slice.ensures.value c.in-Err-place.ensures.place.0 in
    cell_full c.self.inside.branches c.block_mut.result.now c.block_mut.ensures.block c.in-Err-place.i c.self.invariant.branches lt _ c.as_mut.result c.as_mut.ensures.variant

-- the branch where the query belongs
branch : (g : Over) (t : ℕ) (c : goal.After-remove_by_key-arg-3-1 g t) → IsChild (order g c.args.query.now c.args.store.now) (IsOccupied c.args.store.now) c.self.inside.branches c.self.inside.slots.items c.args.self.now c.block_mut.result.now c.in-Err-place.i c.unwrap-node.result.now
branch g t c =
    child (order g c.args.query.now c.args.store.now) (IsOccupied c.args.store.now) c.self.inside.branches c.self.inside.slots.items c.args.self.now c.requires.monotone c.requires.occupied c.self.invariant.branches c.self.invariant.forked c.self.view_is
    c.block_mut.result.now c.block_mut.ensures.block (c.is_empty.ensures.some c.if-is_empty.false) c.in-Err-place.i c.as_slice.result.now c.as_slice.ensures.value c.in-Err-place.ensures.place
    _ c.as_mut.ensures.value c.unwrap-node.ensures

pub remove_by_key-requires : goal.remove_by_key-requires
remove_by_key-requires g t c κs within =
    let b = branch g t c in (
      omega (arith, b.height, c.decreases),
      (within.0, (within.1.0, (within.1.1, (b.all, (b.monotone, (omega (arith, b.part.fits, c.requires.room), λ y. omega (arith, b.wide))))))),
    )

-- a branch that kept its slots is in its place
same : (g : Over) (t : ℕ) (c : goal.After-from_residual g t) → IsStill (branches_with c.self.inside.branches c.block_mut.result.now c.in-Err-place.i c.remove_by_key.new.self) c.self.inside.branches c.self.inside.slots.items c.args.self.now
same g t c = (branch g t c.before.before.before.before).still c.remove_by_key.new.self c.in_err-slot.ensures.unchanged

pub invariant_of-self-in_err-slot : goal.invariant_of-self-in_err-slot
invariant_of-self-in_err-slot g t c = let w = same g t c in record { branches = w.branches; forked = w.forked }

pub returns-in_err-slot-clause-slots : goal.returns-in_err-slot-clause-slots
returns-in_err-slot-clause-slots g t c =
    let r = c.in_err-slot.ensures.slots.0 in
    rw c.from_residual.ensures ((_, child_place (branch g t c.before.before.before.before) r.0 r.1), ap (λ t. t.slots) (same g t c).view)

pub returns-in_err-slot-clause-unchanged : goal.returns-in_err-slot-clause-unchanged
returns-in_err-slot-clause-unchanged g t c = rw c.from_residual.ensures (same g t c).view

pub returns-in_err-slot-clause-height : goal.returns-in_err-slot-clause-height
returns-in_err-slot-clause-height g t c = ap (λ t. t.height) (same g t c).view

pub returns-in_err-slot-clause-dense : goal.returns-in_err-slot-clause-dense
returns-in_err-slot-clause-dense g t c = dense_of _ _ (same g t c).forked

pub returns-in_err-slot-clause-steps : goal.returns-in_err-slot-clause-steps
returns-in_err-slot-clause-steps g t c = steps_below _ _ _ _ _ _ c.as_slice.ensures.fits c.search-place.ensures.steps c.remove_by_key.ensures.steps (branch g t c.before.before.before.before).height

-- the branch from which a slot was removed
pub overflow_sub-len : goal.overflow_sub-len
overflow_sub-len g t c =
    let b = branch g t c.before.before.before.before.before.before.before in
    omega (arith, c.count-len.ensures, ap (λ t. length t.slots) b.is, b.some)

pub set_count-requires : goal.set_count-requires
set_count-requires g t c = (branch g t c.before.before.before.before.before.before.before).counted c.remove_by_key.new.self

-- what was known when the branch was called, for what is known when the branches are rebalanced
abbrev call : (g : Over) (t : ℕ) → goal.After-rebalance-arg-3-1 g t → goal.After-remove_by_key-arg-3-1 g t
call g t c = c.before.before.before.before.before.before.before.before.before.before.before

less_le : (k n : ℕ) → k < n → k ≤ n
less_le k n lt = omega arith

found_within : (base many all k : ℕ) → base + many ≤ all → k < many → base + k < all
found_within base many all k fits lt = omega arith

least_of : (k len many : ℕ) → len ≡ many → k < many → k ≡ min k (len - 1)
least_of k len many e lt = omega arith

not_last : (k len many : ℕ) → len ≡ many → k < many → k ≢ len
not_last k len many e lt is = omega arith

-- the branches with the branch and its count
shrunk : (g : Over) (t : ℕ) (c : goal.After-rebalance-arg-3-1 g t) → AreBranches c.set_count.new.self
    × IsShrunk (below c.self.inside.branches) (below c.set_count.new.self) c.self.inside.slots.items c.in-Err-place.i c.args.self.now.slots
    (remove c.args.self.now.slots (starts (take c.in-Err-place.i (lists (below c.self.inside.branches))) + c.in_ok-slot.ensures.slots.0)) c.in_ok-slot.slot (starts (take c.in-Err-place.i (lists (below c.self.inside.branches))) + c.in_ok-slot.ensures.slots.0)
    × ((get_or (below c.set_count.new.self) c.in-Err-place.i unused).width ≡ c.remove_by_key.new.self.width)
shrunk g t c =
    let b = branch g t (call g t c) in
    let ss = c.self.inside.slots.items in
    let i = c.in-Err-place.i in
    let len = c.count-len.result in
    let r = c.in_ok-slot.ensures.slots in
    let k = r.0 in
    let n : len ≡ length c.unwrap-node.result.now.slots = c.count-len.ensures ∙ sym (ap (λ t. length t.slots) b.is) in
    put_shrunk c.self.inside.branches c.set_count.new.self ss ss _ i k len c.in_ok-slot.slot c.in_ok-slot.slot k c.remove_by_key.new.self c.unwrap-node.result.now c.args.self.now
    c.self.invariant.branches c.self.invariant.forked (child_at b k (less_le k _ r.2.0)) b.is c.count-len.ensures c.requires.some (found_within _ _ _ k b.part.fits r.2.0) (least_of k len _ n r.2.0) r.1 r.3 c.in_ok-slot.ensures.height c.in_ok-slot.ensures.width c.in_ok-slot.ensures.dense
    (λ _. (refl, refl)) (λ e. absurd (not_last k len _ n r.2.0 e)) refl
    (c.set_count.ensures.cells ∙ b.nodes c.remove_by_key.new.self) (c.set_count.ensures.counts ∙ b.counts c.remove_by_key.new.self (len - 1)) c.self.view_is

pub rebalance-requires : goal.rebalance-requires
rebalance-requires g t c =
    let b = branch g t (call g t c) in
    let m = shrunk g t c in
    let us = below c.set_count.new.self in
    record {
      branches = m.0;
      near = m.1.near;
      width = c.width-width.ensures.width ∙ sym m.2;
      room = room_left us _ _ _ m.1.near.fork m.1.list (found_within _ _ _ c.in_ok-slot.ensures.slots.0 b.part.fits c.in_ok-slot.ensures.slots.2.0) c.requires.room;
    }

pub returns-clause-slots : goal.returns-clause-slots
returns-clause-slots g t c =
    let b = branch g t (call g t c.before) in
    let r = c.in_ok-slot.ensures.slots in
    let q = child_found b r.0 r.2 in
    let m = (shrunk g t c.before).1 in
    (_, m.value, q, c.rebalance.ensures.slots ∙ m.list)

pub returns-clause-height : goal.returns-clause-height
returns-clause-height g t c = c.rebalance.ensures.levels ∙ ((shrunk g t c.before).1.height ∙ ap (λ t. t.height) c.self.view_is)

pub returns-clause-dense : goal.returns-clause-dense
returns-clause-dense g t c = dense_of (below c.rebalance.new.branches) c.rebalance.new.slots.items c.rebalance.ensures.forked

pub returns-clause-steps : goal.returns-clause-steps
returns-clause-steps g t c = steps_below _ _ _ _ _ _ c.as_slice.ensures.fits c.search-place.ensures.steps c.remove_by_key.ensures.steps (branch g t (call g t c.before)).height

pub returns-clause-gives_back : goal.returns-clause-gives_back
returns-clause-gives_back g t c =
    let b = branch g t (call g t c.before) in
    let high : levels (below c.set_count.new.self) ≡ c.args.self.now.height = (shrunk g t c.before).1.height ∙ ap (λ t. t.height) c.self.view_is in
    gives_back c.args.self.now c.unwrap-node.result.now c.remove_by_key.new.self c.args.pool.now c.remove_by_key.new.pool c.rebalance.new.pool _ (length c.self.inside.slots.items) (length c.rebalance.new.slots.items) c.width-width.result
    b.height b.low b.wide (ap (λ t. t.width) c.self.view_is) high c.width-width.ensures.width c.remove_by_key.ensures.kept c.remove_by_key.ensures.pool.0 c.remove_by_key.ensures.gives_back c.rebalance.ensures.short c.rebalance.ensures.gives_back

-- the unused blocks
stock : (g : Over) (t : ℕ) (c : goal.After-rebalance g t) → (c.args.pool.now.count ≤ c.rebalance.new.pool.count) × ((c.rebalance.new.pool.wanted ≡ c.args.pool.now.wanted) × (c.rebalance.new.pool.room ≡ c.args.pool.now.room))
stock g t c = kept_below _ _ _ _ _ _ c.remove_by_key.ensures.kept c.remove_by_key.ensures.pool c.rebalance.ensures.width.0 c.rebalance.ensures.kept c.rebalance.ensures.gives_back

pub returns-clause-kept : goal.returns-clause-kept
returns-clause-kept g t c = (stock g t c).0

pub returns-clause-pool : goal.returns-clause-pool
returns-clause-pool g t c = (stock g t c).1
