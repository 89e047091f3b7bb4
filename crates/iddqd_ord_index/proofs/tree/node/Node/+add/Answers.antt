use Rattle.std.proofs.Common.{◌≡◌, ◌+◌, ◌-◌, ℕ, List, length, get_or, refl, subst, ap, ◌∙◌, arith}
use Rattle.std.proofs.lemmas.Grind.{common_steps}
use Rattle.std.specs.List.{insert}
use Rattle.iddqd_ord_index.specs.Changes.{AddsTo}
use Rattle.iddqd_ord_index.specs.Nodes.{below, AreBranches}
use Rattle.iddqd_ord_index.specs.Shape.{tree, unused}
use Rattle.iddqd_ord_index.proofs.AddLemmas.{IsParted, above, put_grown, put_parted}
use Rattle.iddqd_ord_index.proofs.BranchAtLemmas.{starts_is, inner_levels, inner_of, branch_is, branch_within, rest_within, branch_at_in}
use Rattle.iddqd_ord_index.proofs.CellLemmas.{branch_in, cell_full, changed_counts, changed_nodes, counted}
use Rattle.iddqd_ord_index.proofs.DenseLemmas.{dense_of}
use Rattle.iddqd_ord_index.proofs.EditLemmas.{IsMade}
use Rattle.iddqd_ord_index.proofs.tree.node.Node.+add.Goals as goal

pub branch_at-i-requires-clause-reached : goal.branch_at-i-requires-clause-reached
branch_at-i-requires-clause-reached t c =
    let s = starts_is (below c.self.inside.branches) c.self.inside.slots.items c.self.invariant.forked (c.is_empty.ensures.some c.if-is_empty.false) in
    omega (arith, ap (λ t. length t.slots) c.self.view_is, c.requires.place)

pub overflow_add-count : goal.overflow_add-count
overflow_add-count t c =
    let ts = below c.self.inside.branches in
    let ss = c.self.inside.slots.items in
    let w = branch_within ts ss c.self.invariant.forked c.branch_at-i.result.0 (branch_at_in ts ss c.args.at c.branch_at-i.result.0 c.branch_at-i.result.1 c.self.invariant.forked c.branch_at-i.ensures) in
    omega (arith, ap (λ t. length t.slots) c.self.view_is, c.requires.room, c.count-count.ensures)

pub unwrap-node-requires : goal.unwrap-node-requires
unwrap-node-requires t c =
    cell_full c.self.inside.branches c.block_mut.result.now c.block_mut.ensures.block c.branch_at-i.result.0 c.self.invariant.branches (branch_at_in (below c.self.inside.branches) c.self.inside.slots.items c.args.at c.branch_at-i.result.0 c.branch_at-i.result.1 c.self.invariant.forked c.branch_at-i.ensures) _ c.as_mut.result c.as_mut.ensures.variant

-- the node in the cell is the branch
branch : (t : ℕ) (c : goal.After-add-arg-1 t) → c.unwrap-node.result.now ≡ get_or (below c.self.inside.branches) c.branch_at-i.result.0 unused
branch t c =
    branch_in c.self.inside.branches c.block_mut.result.now c.block_mut.ensures.block c.branch_at-i.result.0 c.self.invariant.branches (branch_at_in (below c.self.inside.branches) c.self.inside.slots.items c.args.at c.branch_at-i.result.0 c.branch_at-i.result.1 c.self.invariant.forked c.branch_at-i.ensures) _ c.as_mut.ensures.value c.unwrap-node.ensures

pub add-requires : goal.add-requires
add-requires t c =
    let ts = below c.self.inside.branches in
    let ss = c.self.inside.slots.items in
    let f = c.self.invariant.forked in
    let i = c.branch_at-i.result.0 in
    let n = branch_at_in ts ss c.args.at i c.branch_at-i.result.1 f c.branch_at-i.ensures in
    let w = branch_within ts ss f i n in
    let b = branch_is ts ss f i n in
    let r = rest_within ts ss c.args.at i c.branch_at-i.result.1 f c.branch_at-i.ensures in
    let v = branch t c in
    let h = ap (λ t. t.height) v in
    let l = ap (λ t. length t.slots) v in
    let s = c.self.view_is in (
      omega (arith, b.height, ap (λ t. t.height) s, c.decreases),
      (omega arith, (omega (arith, ap (λ t. length t.slots) s, c.requires.room), omega (arith, b.height, ap (λ t. t.height) s, c.requires.enough))),
    )

-- the branches with the count of one slot more
made : (t : ℕ) (c : goal.After-set_count t) → AreBranches c.set_count.new.self × IsMade (below c.self.inside.branches) (below c.set_count.new.self) c.self.inside.slots.items (insert c.args.self.now.slots c.args.at c.args.slot)
made t c =
    let i = c.branch_at-i.result.0 in
    let new = c.add.new.self in
    let count : ℕ = c.count-count.result + 1 in
    put_grown c.self.inside.branches c.set_count.new.self c.self.inside.slots.items c.args.at c.args.slot i c.branch_at-i.result.1 c.count-count.result new c.unwrap-node.result.now c.args.self.now
    c.self.invariant.branches c.self.invariant.forked c.branch_at-i.ensures (branch t c.before.before.before.before.before.before) c.in_default.ensures.adds c.in_default.ensures.height c.in_default.ensures.dense
    (c.set_count.ensures.cells ∙ changed_nodes c.self.inside.branches c.block_mut.result.now c.block_mut.ensures.block c.branch_at-i.result.0 new) (c.set_count.ensures.counts ∙ changed_counts c.self.inside.branches c.block_mut.result.now c.block_mut.ensures.block c.branch_at-i.result.0 new count) c.count-count.ensures c.self.view_is

pub invariant_of-self : goal.invariant_of-self
invariant_of-self t c = let m = made t c in record { branches = m.0; forked = m.1.forked }

pub returns-in_default-clause-adds : goal.returns-in_default-clause-adds
returns-in_default-clause-adds t c = let m = made t c in record { slots = m.1.list; wider = omega (arith, ap (λ t. t.width) c.self.view_is) }

pub returns-in_default-clause-height : goal.returns-in_default-clause-height
returns-in_default-clause-height t c = let m = made t c in m.1.height ∙ ap (λ t. t.height) c.self.view_is

pub returns-in_default-clause-dense : goal.returns-in_default-clause-dense
returns-in_default-clause-dense t c = let m = made t c in dense_of (below c.set_count.new.self) c.self.inside.slots.items m.1.forked

-- both halves have the slots of the branch, and this one
halves : (t : ℕ) (c : goal.After-upper-2-1 t) → c.count-count.result + 1 ≡ length c.add.new.self.slots + (length c.in-Some.upper.slots + 1)
halves t c =
    above (below c.self.inside.branches) c.self.inside.slots.items c.args.at c.args.slot c.branch_at-i.result.0 c.branch_at-i.result.1 c.in-Some.middle c.count-count.result c.unwrap-node.result.now c.add.new.self c.in-Some.upper c.self.invariant.forked c.branch_at-i.ensures (branch t c.before.before.before.before.before) c.in-Some.ensures.adds c.count-count.ensures

pub len-above-requires : goal.len-above-requires
len-above-requires t c =
    let ts = below c.self.inside.branches in
    let ss = c.self.inside.slots.items in
    let f = c.self.invariant.forked in
    let w = branch_within ts ss f c.branch_at-i.result.0 (branch_at_in ts ss c.args.at c.branch_at-i.result.0 c.branch_at-i.result.1 f c.branch_at-i.ensures) in
    omega (arith, halves t c, c.count-count.ensures, ap (λ t. length t.slots) c.self.view_is, c.requires.room)

pub overflow_sub-count : goal.overflow_sub-count
overflow_sub-count t c = omega (arith, halves t c.before.before, c.len-above.ensures)

pub overflow_sub-count-2 : goal.overflow_sub-count-2
overflow_sub-count-2 t c = omega (arith, halves t c.before.before, c.len-above.ensures)

-- the branches with the lower half and its count
made_parted : (t : ℕ) (c : goal.After-add_branch-arg-3-1 t) → AreBranches c.set_count-2.new.self × IsParted (below c.self.inside.branches) (below c.set_count-2.new.self) c.self.inside.slots.items c.branch_at-i.result.0 c.in-Some.middle c.in-Some.upper (insert c.args.self.now.slots c.args.at c.args.slot)
made_parted t c =
    put_parted c.self.inside.branches c.set_count-2.new.self c.self.inside.slots.items c.args.at c.args.slot c.branch_at-i.result.0 c.branch_at-i.result.1 c.count-count.result c.len-above.result (c.count-count.result + 1 - c.len-above.result - 1) c.in-Some.middle c.add.new.self c.unwrap-node.result.now c.in-Some.upper c.args.self.now
    c.self.invariant.branches c.self.invariant.forked c.branch_at-i.ensures (branch t c.before.before.before.before.before.before.before.before.before.before.before) c.in-Some.ensures.adds c.in-Some.ensures.height c.in-Some.ensures.dense
    (c.set_count-2.ensures.cells ∙ changed_nodes c.self.inside.branches c.block_mut.result.now c.block_mut.ensures.block c.branch_at-i.result.0 c.add.new.self)
    (c.set_count-2.ensures.counts ∙ changed_counts c.self.inside.branches c.block_mut.result.now c.block_mut.ensures.block c.branch_at-i.result.0 c.add.new.self (c.count-count.result + 1 - c.len-above.result - 1))
    refl c.count-count.ensures c.len-above.ensures c.self.view_is

pub add_branch-requires-clause-branches : goal.add_branch-requires-clause-branches
add_branch-requires-clause-branches t c = let m = made_parted t c in m.0

pub add_branch-requires-clause-forked : goal.add_branch-requires-clause-forked
add_branch-requires-clause-forked t c = let m = made_parted t c in m.1.forked

pub add_branch-requires-clause-inner : goal.add_branch-requires-clause-inner
add_branch-requires-clause-inner t c =
    let m = made_parted t c in
    let some = c.is_empty.ensures.some c.if-is_empty.false in
    inner_of (below c.set_count-2.new.self) (omega (arith, m.1.height, inner_levels (below c.self.inside.branches) c.self.inside.slots.items c.self.invariant.forked some))

pub add_branch-requires-clause-upper : goal.add_branch-requires-clause-upper
add_branch-requires-clause-upper t c = let m = made_parted t c in m.1.branch

pub add_branch-requires-clause-count : goal.add_branch-requires-clause-count
add_branch-requires-clause-count t c = c.len-above.ensures

pub returns-clause-adds : goal.returns-clause-adds
returns-clause-adds t c =
    let all : List ℕ = insert c.args.self.now.slots c.args.at c.args.slot in
    let new = tree (below c.add_branch.new.branches) c.add_branch.new.slots.items in
    subst (λ n. AddsTo all n new c.add_branch.result) (ap (λ t. t.width) c.self.view_is) (subst (λ l. AddsTo l (length c.self.inside.slots.items) new c.add_branch.result) (made_parted t c.before).1.list c.add_branch.ensures.adds)

pub returns-clause-height : goal.returns-clause-height
returns-clause-height t c = c.add_branch.ensures.levels ∙ ((made_parted t c.before).1.height ∙ ap (λ t. t.height) c.self.view_is)

pub returns-clause-dense : goal.returns-clause-dense
returns-clause-dense t c = dense_of (below c.add_branch.new.branches) c.add_branch.new.slots.items c.add_branch.ensures.forked

pub count-count-requires-clause-in_bounds : goal.count-count-requires-clause-in_bounds
count-count-requires-clause-in_bounds t c = grind (arith, common_steps)

pub set_count-requires : goal.set_count-requires
set_count-requires t c = counted c.self.inside.branches c.block_mut.result.now c.block_mut.ensures.block c.branch_at-i.result.0 c.self.invariant.branches (branch_at_in (below c.self.inside.branches) c.self.inside.slots.items c.args.at c.branch_at-i.result.0 c.branch_at-i.result.1 c.self.invariant.forked c.branch_at-i.ensures) c.add.new.self

pub set_count-requires-2 : goal.set_count-requires-2
set_count-requires-2 t c = counted c.self.inside.branches c.block_mut.result.now c.block_mut.ensures.block c.branch_at-i.result.0 c.self.invariant.branches (branch_at_in (below c.self.inside.branches) c.self.inside.slots.items c.args.at c.branch_at-i.result.0 c.branch_at-i.result.1 c.self.invariant.forked c.branch_at-i.ensures) c.add.new.self

pub add_branch-requires-clause-in_bounds : goal.add_branch-requires-clause-in_bounds
add_branch-requires-clause-in_bounds t c = grind (arith, common_steps)

pub add_branch-requires-clause-enough : goal.add_branch-requires-clause-enough
add_branch-requires-clause-enough t c = grind (arith, common_steps)

pub returns-in_default-clause-left : goal.returns-in_default-clause-left
returns-in_default-clause-left t c = grind (arith, common_steps)

pub returns-clause-left : goal.returns-clause-left
returns-clause-left t c = grind (arith, common_steps)
