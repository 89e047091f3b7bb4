use Rattle.std.proofs.Common.{◌≡◌, ◌+◌, ◌-◌, ◌<◌, ◌≤◌, Some, None, Ok, Err, ℕ, Option, IsTrue, length, take, get_or, refl, subst, ap, sym, ◌∙◌, arith}
use Rattle.std.specs.declared.cmp.Ordering.{Ordering}
use Rattle.std.specs.List.{All, insert}
use Rattle.std.specs.Option.{OnSome}
use Rattle.iddqd_store.specs.Store.{Store, IsOccupied}
use Rattle.iddqd_ord_index.specs.Changes.{AddsTo}
use Rattle.iddqd_ord_index.specs.Nodes.{below, AreBranches}
use Rattle.iddqd_ord_index.specs.Shape.{lists, starts, tree, IsDense}
use Rattle.iddqd_ord_index.specs.Standing.{slot_standing, IsMonotone, IsPlace}
use Rattle.iddqd_ord_index.specs.declared.tree.node.Node.{Node}
use Rattle.iddqd_ord_index.proofs.AddLemmas.{IsParted, above, put_grown, put_parted}
use Rattle.iddqd_ord_index.proofs.BranchAtLemmas.{inner_levels, inner_of}
use Rattle.iddqd_ord_index.proofs.CellLemmas.{branches_with, cell_full}
use Rattle.iddqd_ord_index.proofs.ChildLemmas.{IsChild, IsStill, child, child_among, child_at, child_place, low_of, place_inside, steps_here, steps_below}
use Rattle.iddqd_ord_index.proofs.DenseLemmas.{dense_of}
use Rattle.iddqd_ord_index.proofs.EditLemmas.{IsMade}
use Rattle.iddqd_ord_index.proofs.SearchedLemmas.{own, own_found, leaf_place}
use Rattle.iddqd_ord_index.proofs.tree.node.Node.+insert_by_key.Given.{Over}
use Rattle.iddqd_ord_index.proofs.tree.node.Node.+insert_by_key.Goals as goal
use Rattle.iddqd_ord_index.proofs.tree.node.Node.+insert_by_key.Goals.{else-len-eq-MOST_SLOTS-via-then-len-eq-MOST_SLOTS+else-not-ready, else-len-eq-MOST_SLOTS-via-else-len-eq-MOST_SLOTS}

abbrev order : (g : Over) → g.row.Q.Denot → Store g.row.T.Denot → ℕ → Ordering
order g q store = slot_standing g.T.IdOrdItem.key (g.Q.Comparable.compare q) store

not_split : {P : Type 0} (Q : Type 0) (split : Option (ℕ × Node)) → OnSome split P → ¬ P → OnSome split Q
not_split Q (Some r) p not = absurd (not p)
not_split Q None p not = tt

split_if : {P : Type 0} (split : Option (ℕ × Node)) → P → OnSome split P
split_if (Some r) p = p
split_if None p = tt

same_width : (n m : ℕ) → n ≡ m → m ≤ n
same_width n m e = omega arith

one_less : (count more : ℕ) → count - more ≡ count + 1 - more - 1
one_less count more = omega arith

-- the node's own slots
pub search-requires-clause-occupied : goal.search-requires-clause-occupied
search-requires-clause-occupied g t c =
    let occupied = IsOccupied c.args.store.now in
    subst (λ l. All occupied l) (sym c.as_slice.ensures.value) (own (order g c.args.query.now c.args.store.now) occupied (below c.self.inside.branches) c.self.inside.slots.items c.args.self.now c.requires.monotone c.requires.occupied c.self.invariant.forked c.self.view_is).1

pub search-requires-clause-monotone : goal.search-requires-clause-monotone
search-requires-clause-monotone g t c =
    let x = order g c.args.query.now c.args.store.now in
    subst (λ l. IsMonotone x l) (sym c.as_slice.ensures.value) (own x (IsOccupied c.args.store.now) (below c.self.inside.branches) c.self.inside.slots.items c.args.self.now c.requires.monotone c.requires.occupied c.self.invariant.forked c.self.view_is).0

pub returns-in-Ok-clause-ends : goal.returns-in-Ok-clause-ends
returns-in-Ok-clause-ends g t c =
    let x = order g c.args.query.now c.args.store.now in
    let i = c.in-Ok.i in
    let p : IsPlace x c.self.inside.slots.items (Ok i) = subst (λ l. IsPlace x l (Ok i)) c.as_slice.ensures.value c.in-Ok.ensures.place in
    let q = own_found x (IsOccupied c.args.store.now) (below c.self.inside.branches) c.self.inside.slots.items c.args.self.now c.requires.monotone c.requires.occupied c.self.invariant.forked c.self.view_is i p in
    (refl, (q.0, ap (λ l. get_or l i 0) c.as_slice-in-Ok.ensures.value ∙ q.1, q.2))

pub returns-in-Ok-clause-dense : goal.returns-in-Ok-clause-dense
returns-in-Ok-clause-dense g t c = subst IsDense c.self.view_is (dense_of (below c.self.inside.branches) c.self.inside.slots.items c.self.invariant.forked)

pub returns-in-Ok-clause-steps : goal.returns-in-Ok-clause-steps
returns-in-Ok-clause-steps g t c = steps_here _ _ _ _ c.as_slice.ensures.fits c.in-Ok.ensures.steps (low_of _ _ _ c.self.invariant.forked c.self.view_is)

-- a leaf
pub returns-then-not-ready-clause-steps : goal.returns-then-not-ready-clause-steps
returns-then-not-ready-clause-steps g t c = steps_here _ _ _ _ c.as_slice.ensures.fits c.in-Err.ensures.steps (low_of _ _ _ c.self.invariant.forked c.self.view_is)

pub returns-then-is_empty-clause-steps : goal.returns-then-is_empty-clause-steps
returns-then-is_empty-clause-steps g t c = steps_here _ _ _ _ c.as_slice.ensures.fits c.in-Err.ensures.steps (low_of _ _ _ c.self.invariant.forked c.self.view_is)

pub returns-then-not-ready-clause-ends : goal.returns-then-not-ready-clause-ends
returns-then-not-ready-clause-ends g t c =
    let x = order g c.args.query.now c.args.store.now in
    let ss = c.self.inside.slots.items in
    let i = c.in-Err.i in
    let p : IsPlace x ss (Err i) = subst (λ l. IsPlace x l (Err i)) c.as_slice.ensures.value c.in-Err.ensures.place in
    (refl, leaf_place x (IsOccupied c.args.store.now) (below c.self.inside.branches) ss c.args.self.now c.requires.monotone c.requires.occupied c.self.invariant.forked c.self.view_is (c.is_empty.ensures.none c.if-is_empty.true) i p, c.if-not-ready.true)

pub returns-then-is_empty-clause-ends : goal.returns-then-is_empty-clause-ends
returns-then-is_empty-clause-ends g t c =
    let x = order g c.args.query.now c.args.store.now in
    let ss = c.self.inside.slots.items in
    let i = c.in-Err.i in
    let p : IsPlace x ss (Err i) = subst (λ l. IsPlace x l (Err i)) c.as_slice.ensures.value c.in-Err.ensures.place in (
      i,
      leaf_place x (IsOccupied c.args.store.now) (below c.self.inside.branches) ss c.args.self.now c.requires.monotone c.requires.occupied c.self.invariant.forked c.self.view_is (c.is_empty.ensures.none c.if-is_empty.true) i p,
      c.add_to_leaf.ensures.adds,
      elim c.else-len-eq-MOST_SLOTS.branch [
        | else-len-eq-MOST_SLOTS-via-then-len-eq-MOST_SLOTS+else-not-ready w ↦ split_if c.add_to_leaf.result w.if-not-ready.false
        | else-len-eq-MOST_SLOTS-via-else-len-eq-MOST_SLOTS w ↦ not_split (IsTrue c.args.ready) c.add_to_leaf.result c.add_to_leaf.ensures.full (λ full. w.if-len-eq-MOST_SLOTS.false (c.len.ensures.value ∙ (ap (λ t. t.width) c.self.view_is ∙ full)))
      ],
    )

pub unwrap-node-requires : goal.unwrap-node-requires
unwrap-node-requires g t c =
    let lt = place_inside (below c.self.inside.branches) _ _ c.in-Err.i c.self.invariant.forked (c.is_empty.ensures.some c.if-is_empty.false) c.as_slice.ensures.value c.in-Err.ensures.place.0 in
    cell_full c.self.inside.branches c.block_mut.result.now c.block_mut.ensures.block c.in-Err.i c.self.invariant.branches lt _ c.as_mut.result c.as_mut.ensures.variant

-- the branch where the query belongs
branch : (g : Over) (t : ℕ) (c : goal.After-insert_by_key-arg-2-1 g t) → IsChild (order g c.args.query.now c.args.store.now) (IsOccupied c.args.store.now) c.self.inside.branches c.self.inside.slots.items c.args.self.now c.block_mut.result.now c.in-Err.i c.unwrap-node.result.now
branch g t c =
    child (order g c.args.query.now c.args.store.now) (IsOccupied c.args.store.now) c.self.inside.branches c.self.inside.slots.items c.args.self.now c.requires.monotone c.requires.occupied c.self.invariant.branches c.self.invariant.forked c.self.view_is
    c.block_mut.result.now c.block_mut.ensures.block (c.is_empty.ensures.some c.if-is_empty.false) c.in-Err.i c.as_slice.result.now c.as_slice.ensures.value c.in-Err.ensures.place
    _ c.as_mut.ensures.value c.unwrap-node.ensures

pub insert_by_key-requires : goal.insert_by_key-requires
insert_by_key-requires g t c κs within =
    let b = branch g t c in (
      omega (arith, b.height, c.decreases),
      (within.0, (within.1.0, (within.1.1, (b.all, (b.monotone, (omega (arith, b.part.fits, c.requires.room), λ r. omega (arith, b.height, c.requires.enough r))))))),
    )

-- an item below has the key, and nothing has changed
found : (g : Over) (t : ℕ) (c : goal.In-Found g t) → IsStill (branches_with c.self.inside.branches c.block_mut.result.now c.in-Err.i c.insert_by_key.new.self) c.self.inside.branches c.self.inside.slots.items c.args.self.now
found g t c = (branch g t c.before.before.before.before).still c.insert_by_key.new.self c.in-Found.ensures.ends.0

pub invariant_of-self : goal.invariant_of-self
invariant_of-self g t c = let k = found g t c in record { branches = k.branches; forked = k.forked }

pub returns-in-Found-clause-ends : goal.returns-in-Found-clause-ends
returns-in-Found-clause-ends g t c = ((found g t c).view, child_among (branch g t c.before.before.before.before) c.in-Found.found c.in-Found.ensures.ends.1)

pub returns-in-Found-clause-height : goal.returns-in-Found-clause-height
returns-in-Found-clause-height g t c = ap (λ t. t.height) (found g t c).view

pub returns-in-Found-clause-dense : goal.returns-in-Found-clause-dense
returns-in-Found-clause-dense g t c = dense_of _ _ (found g t c).forked

pub returns-in-Found-clause-steps : goal.returns-in-Found-clause-steps
returns-in-Found-clause-steps g t c = steps_below _ _ _ _ _ _ c.as_slice.ensures.fits c.in-Err.ensures.steps c.in-Found.ensures.steps (branch g t c.before.before.before.before).height

-- the leaf is full, and nothing has changed
full : (g : Over) (t : ℕ) (c : goal.After-start-arg-1 g t) → IsStill (branches_with c.self.inside.branches c.block_mut.result.now c.in-Err.i c.insert_by_key.new.self) c.self.inside.branches c.self.inside.slots.items c.args.self.now
full g t c = (branch g t c.before.before.before.before.before).still c.insert_by_key.new.self c.in-Full.ensures.ends.0

pub start-requires-clause-branches : goal.start-requires-clause-branches
start-requires-clause-branches g t c = (full g t c).branches

pub start-requires-clause-in_bounds : goal.start-requires-clause-in_bounds
start-requires-clause-in_bounds g t c = subst (λ us. c.in-Err.i < length us) (sym (full g t c).same) (branch g t c.before.before.before.before.before).inside

pub start-requires-clause-room : goal.start-requires-clause-room
start-requires-clause-room g t c =
    let b = branch g t c.before.before.before.before.before in
    subst (λ us. starts (lists us) ≤ 4294967296) (sym (full g t c).same) (omega (arith, b.room, c.requires.room))

-- where the branch starts
start_is : (g : Over) (t : ℕ) (c : goal.After-start g t) → c.start.result ≡ starts (take c.in-Err.i (lists (below c.self.inside.branches)))
start_is g t c = c.start.ensures ∙ ap (λ us. starts (take c.in-Err.i (lists us))) (full g t c.before).same

pub overflow_add-result : goal.overflow_add-result
overflow_add-result g t c =
    let b = branch g t c.before.before.before.before.before.before in
    omega (arith, start_is g t c, c.in-Full.ensures.ends.1.0, b.part.fits, c.requires.room)

pub invariant_of-self-in-Full : goal.invariant_of-self-in-Full
invariant_of-self-in-Full g t c = let k = full g t c.before in record { branches = k.branches; forked = k.forked }

pub returns-in-Full-clause-ends : goal.returns-in-Full-clause-ends
returns-in-Full-clause-ends g t c =
    let x = order g c.args.query.now c.args.store.now in
    let b = branch g t c.before.before.before.before.before.before in
    ((full g t c.before).view, subst (λ n. IsPlace x c.args.self.now.slots (Err (n + c.in-Full.rest))) (sym (start_is g t c)) (child_place b c.in-Full.rest c.in-Full.ensures.ends.1), c.in-Full.ensures.ends.2)

pub returns-in-Full-clause-height : goal.returns-in-Full-clause-height
returns-in-Full-clause-height g t c = ap (λ t. t.height) (full g t c.before).view

pub returns-in-Full-clause-dense : goal.returns-in-Full-clause-dense
returns-in-Full-clause-dense g t c = dense_of _ _ (full g t c.before).forked

pub returns-in-Full-clause-steps : goal.returns-in-Full-clause-steps
returns-in-Full-clause-steps g t c = steps_below _ _ _ _ _ _ c.as_slice.ensures.fits c.in-Err.ensures.steps c.in-Full.ensures.steps (branch g t c.before.before.before.before.before.before).height

-- the slot was inserted below, and nothing was split
pub overflow_add-count : goal.overflow_add-count
overflow_add-count g t c =
    let b = branch g t c.before.before.before.before.before in
    omega (arith, c.count-count.ensures, ap (λ t. length t.slots) b.is, b.part.fits, c.requires.room)

pub set_count-requires : goal.set_count-requires
set_count-requires g t c = (branch g t c.before.before.before.before.before).counted c.insert_by_key.new.self

-- the branches with the count of one slot more
grown : (g : Over) (t : ℕ) (c : goal.After-set_count g t) → AreBranches c.set_count.new.self × IsMade (below c.self.inside.branches) (below c.set_count.new.self) c.self.inside.slots.items (insert c.args.self.now.slots (starts (take c.in-Err.i (lists (below c.self.inside.branches))) + c.in-Inserted-None.ensures.ends.0) c.args.slot)
grown g t c =
    let b = branch g t c.before.before.before.before.before.before in
    let ends = c.in-Inserted-None.ensures.ends in
    let node = c.unwrap-node.result.now in
    let adds = subst (λ r. AddsTo (insert node.slots ends.0 c.args.slot) node.width c.insert_by_key.new.self r) c.in-Inserted-None.field-0-is ends.2 in
    put_grown c.self.inside.branches c.set_count.new.self c.self.inside.slots.items _ c.args.slot c.in-Err.i ends.0 c.count-count.result c.insert_by_key.new.self node c.args.self.now
    c.self.invariant.branches c.self.invariant.forked (child_at b ends.0 ends.1.0) b.is adds c.in-Inserted-None.ensures.height c.in-Inserted-None.ensures.dense
    (c.set_count.ensures.cells ∙ b.nodes c.insert_by_key.new.self) (c.set_count.ensures.counts ∙ b.counts c.insert_by_key.new.self (c.count-count.result + 1)) c.count-count.ensures c.self.view_is

pub invariant_of-self-in-Inserted-None : goal.invariant_of-self-in-Inserted-None
invariant_of-self-in-Inserted-None g t c = let m = grown g t c in record { branches = m.0; forked = m.1.forked }

pub returns-in-Inserted-None-clause-ends : goal.returns-in-Inserted-None-clause-ends
returns-in-Inserted-None-clause-ends g t c =
    let ends = c.in-Inserted-None.ensures.ends in
    let b = branch g t c.before.before.before.before.before.before in
    (_, child_place b ends.0 ends.1, record { slots = (grown g t c).1.list; wider = same_width _ _ (ap (λ t. t.width) c.self.view_is) }, tt)

pub returns-in-Inserted-None-clause-height : goal.returns-in-Inserted-None-clause-height
returns-in-Inserted-None-clause-height g t c = (grown g t c).1.height ∙ ap (λ t. t.height) c.self.view_is

pub returns-in-Inserted-None-clause-dense : goal.returns-in-Inserted-None-clause-dense
returns-in-Inserted-None-clause-dense g t c = dense_of (below c.set_count.new.self) c.self.inside.slots.items (grown g t c).1.forked

pub returns-in-Inserted-None-clause-left : goal.returns-in-Inserted-None-clause-left
returns-in-Inserted-None-clause-left g t c =
    let b = branch g t c.before.before.before.before.before.before in
    omega (arith, c.in-Inserted-None.ensures.left, b.height)

pub returns-in-Inserted-None-clause-steps : goal.returns-in-Inserted-None-clause-steps
returns-in-Inserted-None-clause-steps g t c = steps_below _ _ _ _ _ _ c.as_slice.ensures.fits c.in-Err.ensures.steps c.in-Inserted-None.ensures.steps (branch g t c.before.before.before.before.before.before).height

-- the slot was inserted below, and an upper half was split off: both halves have the slots of the branch, and this one
halves : (g : Over) (t : ℕ) (c : goal.After-upper-in-Inserted-Some-1 g t) → c.count-count.result + 1 ≡ length c.insert_by_key.new.self.slots + (length c.in-Inserted-Some.upper.slots + 1)
halves g t c =
    let b = branch g t c.before.before.before.before.before in
    let ends = c.in-Inserted-Some.ensures.ends in
    let node = c.unwrap-node.result.now in
    let split = subst (λ r. AddsTo (insert node.slots ends.0 c.args.slot) node.width c.insert_by_key.new.self r) c.in-Inserted-Some.field-0-is ends.2 in
    above (below c.self.inside.branches) c.self.inside.slots.items _ c.args.slot c.in-Err.i ends.0 c.in-Inserted-Some.middle c.count-count.result node c.insert_by_key.new.self c.in-Inserted-Some.upper c.self.invariant.forked (child_at b ends.0 ends.1.0) b.is split c.count-count.ensures

pub len-above-requires : goal.len-above-requires
len-above-requires g t c =
    let b = branch g t c.before.before.before.before.before in
    omega (arith, halves g t c, c.count-count.ensures, ap (λ t. length t.slots) b.is, b.part.fits, c.requires.room)

pub overflow_sub-count : goal.overflow_sub-count
overflow_sub-count g t c = omega (arith, halves g t c.before.before, c.len-above.ensures)

pub set_count-requires-in-Inserted-Some : goal.set_count-requires-in-Inserted-Some
set_count-requires-in-Inserted-Some g t c = (branch g t c.before.before.before.before.before.before.before).counted c.insert_by_key.new.self

-- what was known when the branch was called, for what is known when the upper half is put in
abbrev call : (g : Over) (t : ℕ) → goal.After-add_branch-arg-in-Inserted-Some-2-1 g t → goal.After-insert_by_key-arg-2-1 g t
call g t c = c.before.before.before.before.before.before.before.before.before.before.before

-- the branches with the lower half and its count
parted : (g : Over) (t : ℕ) (c : goal.After-add_branch-arg-in-Inserted-Some-2-1 g t) → AreBranches c.set_count-in-Inserted-Some.new.self × IsParted (below c.self.inside.branches) (below c.set_count-in-Inserted-Some.new.self) c.self.inside.slots.items c.in-Err.i c.in-Inserted-Some.middle c.in-Inserted-Some.upper (insert c.args.self.now.slots (starts (take c.in-Err.i (lists (below c.self.inside.branches))) + c.in-Inserted-Some.ensures.ends.0) c.args.slot)
parted g t c =
    let b = branch g t (call g t c) in
    let ends = c.in-Inserted-Some.ensures.ends in
    let node = c.unwrap-node.result.now in
    let less : ℕ = c.count-count.result - c.len-above.result in
    let split = subst (λ r. AddsTo (insert node.slots ends.0 c.args.slot) node.width c.insert_by_key.new.self r) c.in-Inserted-Some.field-0-is ends.2 in
    put_parted c.self.inside.branches c.set_count-in-Inserted-Some.new.self c.self.inside.slots.items _ c.args.slot c.in-Err.i ends.0 c.count-count.result c.len-above.result less c.in-Inserted-Some.middle c.insert_by_key.new.self node c.in-Inserted-Some.upper c.args.self.now
    c.self.invariant.branches c.self.invariant.forked (child_at b ends.0 ends.1.0) b.is split c.in-Inserted-Some.ensures.height c.in-Inserted-Some.ensures.dense
    (c.set_count-in-Inserted-Some.ensures.cells ∙ b.nodes c.insert_by_key.new.self) (c.set_count-in-Inserted-Some.ensures.counts ∙ b.counts c.insert_by_key.new.self less) (one_less c.count-count.result c.len-above.result) c.count-count.ensures c.len-above.ensures c.self.view_is

pub add_branch-requires-clause-branches : goal.add_branch-requires-clause-branches
add_branch-requires-clause-branches g t c = (parted g t c).0

pub add_branch-requires-clause-forked : goal.add_branch-requires-clause-forked
add_branch-requires-clause-forked g t c = (parted g t c).1.forked

pub add_branch-requires-clause-inner : goal.add_branch-requires-clause-inner
add_branch-requires-clause-inner g t c =
    inner_of (below c.set_count-in-Inserted-Some.new.self) (subst (λ n. 1 < n) (sym (parted g t c).1.height) (inner_levels (below c.self.inside.branches) c.self.inside.slots.items c.self.invariant.forked (c.is_empty.ensures.some c.if-is_empty.false)))

pub add_branch-requires-clause-upper : goal.add_branch-requires-clause-upper
add_branch-requires-clause-upper g t c = (parted g t c).1.branch

pub add_branch-requires-clause-count : goal.add_branch-requires-clause-count
add_branch-requires-clause-count g t c = c.len-above.ensures

pub add_branch-requires-clause-enough : goal.add_branch-requires-clause-enough
add_branch-requires-clause-enough g t c =
    let b = branch g t (call g t c) in
    let ready = subst (λ r. OnSome r (IsTrue c.args.ready)) c.in-Inserted-Some.field-0-is c.in-Inserted-Some.ensures.ends.3 in
    omega (arith, c.requires.enough ready, c.in-Inserted-Some.ensures.left, b.height)

pub returns-in-Inserted-Some-clause-ends : goal.returns-in-Inserted-Some-clause-ends
returns-in-Inserted-Some-clause-ends g t c =
    let b = branch g t (call g t c.before) in
    let ends = c.in-Inserted-Some.ensures.ends in
    let at : ℕ = starts (take c.in-Err.i (lists (below c.self.inside.branches))) + ends.0 in
    let new = tree (below c.add_branch.new.branches) c.add_branch.new.slots.items in (
      at,
      child_place b ends.0 ends.1,
      subst (λ n. AddsTo (insert c.args.self.now.slots at c.args.slot) n new c.add_branch.result) (ap (λ t. t.width) c.self.view_is)
          (subst (λ l. AddsTo l (length c.self.inside.slots.items) new c.add_branch.result) (parted g t c.before).1.list c.add_branch.ensures.adds),
      split_if c.add_branch.result (subst (λ r. OnSome r (IsTrue c.args.ready)) c.in-Inserted-Some.field-0-is ends.3),
    )

pub returns-in-Inserted-Some-clause-height : goal.returns-in-Inserted-Some-clause-height
returns-in-Inserted-Some-clause-height g t c = c.add_branch.ensures.levels ∙ ((parted g t c.before).1.height ∙ ap (λ t. t.height) c.self.view_is)

pub returns-in-Inserted-Some-clause-dense : goal.returns-in-Inserted-Some-clause-dense
returns-in-Inserted-Some-clause-dense g t c = dense_of (below c.add_branch.new.branches) c.add_branch.new.slots.items c.add_branch.ensures.forked

pub returns-in-Inserted-Some-clause-left : goal.returns-in-Inserted-Some-clause-left
returns-in-Inserted-Some-clause-left g t c =
    let b = branch g t (call g t c.before) in
    omega (arith, c.add_branch.ensures.left, c.in-Inserted-Some.ensures.left, b.height)

pub returns-in-Inserted-Some-clause-steps : goal.returns-in-Inserted-Some-clause-steps
returns-in-Inserted-Some-clause-steps g t c = steps_below _ _ _ _ _ _ c.as_slice.ensures.fits c.in-Err.ensures.steps c.in-Inserted-Some.ensures.steps (branch g t (call g t c.before)).height
