use Rattle.std.proofs.Common.{ℕ, ◌≡◌, ◌-◌, ◌<◌, ◌≤◌, length, get_or, ap, sym, ◌∙◌, arith}
use Rattle.std.proofs.lemmas.Grind.{common_steps}
use Rattle.std.specs.List.{remove}
use Rattle.iddqd_ord_index.specs.Nodes.{below, AreBranches}
use Rattle.iddqd_ord_index.specs.Shape.{levels, lists, in_order, unused}
use Rattle.iddqd_ord_index.proofs.BranchAtLemmas.{starts_is, own_read, branch_at_in}
use Rattle.iddqd_ord_index.proofs.CellLemmas.{cell_full}
use Rattle.iddqd_ord_index.proofs.ChildLemmas.{IsCell, cell_of}
use Rattle.iddqd_ord_index.proofs.DenseLemmas.{dense_of}
use Rattle.iddqd_ord_index.proofs.RemoveLemmas.{IsShrunk, gives_back, kept_below, put_shrunk, room_left, some_below}
use Rattle.iddqd_ord_index.proofs.tree.node.Node.+remove.Goals as goal

pub branch_at-i-requires-clause-reached : goal.branch_at-i-requires-clause-reached
branch_at-i-requires-clause-reached t c =
    let s = starts_is (below c.self.inside.branches) c.self.inside.slots.items c.self.invariant.forked (c.is_empty.ensures.some c.if-is_empty.false) in
    omega (arith, ap (λ t. length t.slots) c.self.view_is, c.requires.place)

pub overflow_sub-len : goal.overflow_sub-len
overflow_sub-len t c =
    let s = some_below (below c.self.inside.branches) c.self.inside.slots.items c.args.at c.branch_at-i.result.0 c.branch_at-i.result.1 c.self.invariant.forked c.branch_at-i.ensures in
    omega (arith, c.count-len.ensures)

pub overflow_sub-len-2 : goal.overflow_sub-len-2
overflow_sub-len-2 t c =
    let s = some_below (below c.self.inside.branches) c.self.inside.slots.items c.args.at c.branch_at-i.result.0 c.branch_at-i.result.1 c.self.invariant.forked c.branch_at-i.ensures in
    omega (arith, c.count-len.ensures)

-- the branch in which a slot is removed
branch : (t : ℕ) (c : goal.After-remove-arg-3-1 t) → IsCell c.self.inside.branches c.args.self.now c.block_mut.result.now c.branch_at-i.result.0 c.unwrap-node.result.now
branch t c =
    let ts = below c.self.inside.branches in
    let ss = c.self.inside.slots.items in
    let i = c.branch_at-i.result.0 in
    cell_of c.self.inside.branches ss c.args.self.now c.self.invariant.branches c.self.invariant.forked c.self.view_is c.block_mut.result.now c.block_mut.ensures.block
    i (branch_at_in ts ss c.args.at i c.branch_at-i.result.1 c.self.invariant.forked c.branch_at-i.ensures) _ c.as_mut.ensures.value c.unwrap-node.ensures

pub remove-taken-requires : goal.remove-taken-requires
remove-taken-requires t c =
    let b = branch t c in (
      omega (arith, b.height, c.decreases),
      (omega (arith, c.min.ensures, c.count-len.ensures, ap (λ t. length t.slots) b.is, b.some), (omega (arith, b.within, c.requires.room), λ y. omega (arith, b.wide))),
    )

pub replace_own-slot-requires-clause-own : goal.replace_own-slot-requires-clause-own
replace_own-slot-requires-clause-own t c = λ e. (
    let w : c.args.at < length (in_order (lists (below c.self.inside.branches)) c.self.inside.slots.items) = omega (arith, ap (λ t. length t.slots) c.self.view_is, c.requires.place) in
    let o = own_read (below c.self.inside.branches) c.self.inside.slots.items c.args.at c.branch_at-i.result.0 c.branch_at-i.result.1 c.self.invariant.forked c.branch_at-i.ensures (e ∙ c.count-len.ensures) w in
    o.0)

-- what was known when the branch was called, for what is known when the branches are rebalanced
abbrev call : (t : ℕ) → goal.After-rebalance-arg-3-1 t → goal.After-remove-arg-3-1 t
call t c = c.before.before.before.before.before.before.before.before.before.before.before

-- the branches and slots after the branch was put back
shrunk : (t : ℕ) (c : goal.After-rebalance-arg-3-1 t) → AreBranches c.set_count.new.self
    × IsShrunk (below c.self.inside.branches) (below c.set_count.new.self) c.replace_own-slot.new.slots.items c.branch_at-i.result.0 c.args.self.now.slots (remove c.args.self.now.slots c.args.at) c.replace_own-slot.result c.args.at
    × ((get_or (below c.set_count.new.self) c.branch_at-i.result.0 unused).width ≡ c.remove-taken.new.self.width)
shrunk t c =
    let b = branch t (call t c) in
    let new = c.remove-taken.new.self in
    let e = c.remove-taken.ensures in
    put_shrunk c.self.inside.branches c.set_count.new.self c.self.inside.slots.items c.replace_own-slot.new.slots.items c.args.at c.branch_at-i.result.0 c.branch_at-i.result.1 c.count-len.result c.remove-taken.result c.replace_own-slot.result c.min.result new c.unwrap-node.result.now c.args.self.now
    c.self.invariant.branches c.self.invariant.forked c.branch_at-i.ensures b.is c.count-len.ensures c.requires.some c.requires.place c.min.ensures e.value e.slots e.height e.width e.dense
    c.replace_own-slot.ensures.below c.replace_own-slot.ensures.own c.replace_own-slot.ensures.len
    (c.set_count.ensures.cells ∙ b.nodes new) (c.set_count.ensures.counts ∙ b.counts new (c.count-len.result - 1)) c.self.view_is

pub rebalance-requires : goal.rebalance-requires
rebalance-requires t c =
    let m = shrunk t c in
    record {
      branches = m.0;
      near = m.1.near;
      width = c.width-width.ensures.width ∙ sym m.2;
      room = room_left (below c.set_count.new.self) _ _ _ m.1.near.fork m.1.list c.requires.place c.requires.room;
    }

pub returns-clause-value : goal.returns-clause-value
returns-clause-value t c = (shrunk t c.before).1.value

pub returns-clause-slots : goal.returns-clause-slots
returns-clause-slots t c = c.rebalance.ensures.slots ∙ (shrunk t c.before).1.list

pub returns-clause-height : goal.returns-clause-height
returns-clause-height t c = c.rebalance.ensures.levels ∙ ((shrunk t c.before).1.height ∙ ap (λ t. t.height) c.self.view_is)

pub returns-clause-dense : goal.returns-clause-dense
returns-clause-dense t c = dense_of (below c.rebalance.new.branches) c.rebalance.new.slots.items c.rebalance.ensures.forked

-- the unused blocks
stock : (t : ℕ) (c : goal.After-rebalance t) → (c.args.pool.now.count ≤ c.rebalance.new.pool.count) × ((c.rebalance.new.pool.wanted ≡ c.args.pool.now.wanted) × (c.rebalance.new.pool.room ≡ c.args.pool.now.room))
stock t c = kept_below _ _ _ _ _ _ c.remove-taken.ensures.kept c.remove-taken.ensures.pool c.rebalance.ensures.width.0 c.rebalance.ensures.kept c.rebalance.ensures.gives_back

pub returns-clause-kept : goal.returns-clause-kept
returns-clause-kept t c = (stock t c).0

pub returns-clause-pool : goal.returns-clause-pool
returns-clause-pool t c = (stock t c).1

pub returns-clause-gives_back : goal.returns-clause-gives_back
returns-clause-gives_back t c =
    let b = branch t (call t c.before) in
    let high : levels (below c.set_count.new.self) ≡ c.args.self.now.height = (shrunk t c.before).1.height ∙ ap (λ t. t.height) c.self.view_is in
    gives_back c.args.self.now c.unwrap-node.result.now c.remove-taken.new.self c.args.pool.now c.remove-taken.new.pool c.rebalance.new.pool _ (length c.replace_own-slot.new.slots.items) (length c.rebalance.new.slots.items) c.width-width.result
    b.height b.low b.wide (c.replace_own-slot.ensures.len ∙ ap (λ t. t.width) c.self.view_is) high c.width-width.ensures.width c.remove-taken.ensures.kept c.remove-taken.ensures.pool.0 c.remove-taken.ensures.gives_back c.rebalance.ensures.short c.rebalance.ensures.gives_back

pub count-len-requires-clause-in_bounds : goal.count-len-requires-clause-in_bounds
count-len-requires-clause-in_bounds t c = grind (arith, common_steps)

pub replace_own-slot-requires-clause-within : goal.replace_own-slot-requires-clause-within
replace_own-slot-requires-clause-within t c = grind (arith, common_steps)

pub unwrap-node-requires : goal.unwrap-node-requires
unwrap-node-requires t c =
    cell_full c.self.inside.branches c.block_mut.result.now c.block_mut.ensures.block c.branch_at-i.result.0 c.self.invariant.branches (branch_at_in (below c.self.inside.branches) c.self.inside.slots.items c.args.at c.branch_at-i.result.0 c.branch_at-i.result.1 c.self.invariant.forked c.branch_at-i.ensures) _ c.as_mut.result c.as_mut.ensures.variant

pub set_count-requires : goal.set_count-requires
set_count-requires t c = (branch t c.before.before.before.before.before).counted c.remove-taken.new.self
