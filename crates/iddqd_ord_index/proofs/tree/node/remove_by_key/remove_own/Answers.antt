use Rattle.std.proofs.Common.{ℕ, List, ◌≡◌, ◌-◌, ◌<◌, ◌≤◌, length, get_or, refl, ap, sym, ◌∙◌, arith, length-set}
use Rattle.std.specs.List.{remove}
use Rattle.iddqd_ord_index.specs.NodeRemoval.{own_place}
use Rattle.iddqd_ord_index.specs.Nodes.{below, slots_of, AreBranches}
use Rattle.iddqd_ord_index.specs.Shape.{Subtree, tree, unused, IsForked}
use Rattle.iddqd_ord_index.proofs.CellLemmas.{cell_full}
use Rattle.iddqd_ord_index.proofs.ChildLemmas.{IsCell, cell_of}
use Rattle.iddqd_ord_index.proofs.RemoveByLemmas.{own_branch_at, own_position}
use Rattle.iddqd_ord_index.proofs.RemoveLemmas.{IsShrunk, gives_back, kept_below, put_shrunk, room_left, some_below}
use Rattle.iddqd_ord_index.proofs.tree.node.remove_by_key.remove_own.Goals as goal

own_inside : (ts : List Subtree) (ss : List ℕ) (i : ℕ) → IsForked ts ss → 0 < length ts → i < length ss → i < length ts
own_inside ts ss i f some lt = omega (arith, f.fork some)

pub overflow_sub-len : goal.overflow_sub-len
overflow_sub-len c =
    let b = own_branch_at (below c.args.branches.now) c.args.slots.now.items c.requires.forked c.requires.inner c.args.i c.requires.in_bounds in
    omega (arith, c.count-len.ensures, some_below (below c.args.branches.now) c.args.slots.now.items _ c.args.i _ c.requires.forked b)

-- the branch whose last slot is removed
branch : (c : goal.After-remove-arg-2-1) → IsCell c.args.branches.now (tree (below c.args.branches.now) c.args.slots.now.items) c.block_mut.result.now c.args.i c.unwrap-node.result.now
branch c =
    let inside = own_inside (below c.args.branches.now) c.args.slots.now.items c.args.i c.requires.forked c.requires.inner c.requires.in_bounds in
    cell_of c.args.branches.now c.args.slots.now.items (tree (below c.args.branches.now) c.args.slots.now.items) c.requires.branches c.requires.forked refl c.block_mut.result.now c.block_mut.ensures.block c.args.i inside _ c.as_mut.ensures.value c.unwrap-node.ensures

pub remove-last-requires : goal.remove-last-requires
remove-last-requires c =
    let b = branch c in
    record {
      place = omega (arith, c.count-len.ensures, ap (λ t. length t.slots) b.is, b.some);
      room = omega (arith, b.within, c.requires.room);
      some = λ lt. omega (arith, b.wide);
    }

pub overflow_sub-len-2 : goal.overflow_sub-len-2
overflow_sub-len-2 c =
    let b = branch c.before.before.before.before.before in
    omega (arith, c.count-len.ensures, ap (λ t. length t.slots) b.is, b.some)

pub set_count-requires : goal.set_count-requires
set_count-requires c = (branch c.before.before.before.before.before).counted c.remove-last.new.self

-- what was known when the branch was called, for what is known when the branches are rebalanced
abbrev call : goal.After-rebalance-arg-3-1 → goal.After-remove-arg-2-1
call c = c.before.before.before.before.before.before.before.before.before.before.before

-- the branches and slots after the branch was put back
shrunk : (c : goal.After-rebalance-arg-3-1) → AreBranches c.set_count.new.self
    × IsShrunk (below c.args.branches.now) (below c.set_count.new.self) c.replace-slot.new.self.items c.args.i (slots_of c.args.branches.now c.args.slots.now)
    (remove (slots_of c.args.branches.now c.args.slots.now) (own_place c.args.branches.now c.args.i)) c.replace-slot.result (own_place c.args.branches.now c.args.i)
    × ((get_or (below c.set_count.new.self) c.args.i unused).width ≡ c.remove-last.new.self.width)
shrunk c =
    let bs = c.args.branches.now in
    let ss = c.args.slots.now.items in
    let f = c.requires.forked in
    let b = branch (call c) in
    let at = own_branch_at (below bs) ss f c.requires.inner c.args.i c.requires.in_bounds in
    let within = own_position (below bs) ss f c.requires.inner c.args.i c.requires.in_bounds in
    let len = c.count-len.result in
    let new = c.remove-last.new.self in
    let e = c.remove-last.ensures in
    put_shrunk bs c.set_count.new.self ss c.replace-slot.new.self.items (own_place bs c.args.i) c.args.i (length (get_or (below bs) c.args.i unused).slots) len c.remove-last.result c.replace-slot.result (len - 1) new c.unwrap-node.result.now (tree (below bs) ss)
    c.requires.branches f at b.is c.count-len.ensures (λ lt. omega arith) within (omega (arith, c.count-len.ensures)) e.value e.slots e.height e.width e.dense
    (λ lt. absurd (omega arith)) (λ e. (c.replace-slot.ensures.value, c.replace-slot.ensures.items)) (ap length c.replace-slot.ensures.items ∙ length-set ss c.args.i c.remove-last.result)
    (c.set_count.ensures.cells ∙ b.nodes new) (c.set_count.ensures.counts ∙ b.counts new (len - 1)) refl

pub rebalance-requires : goal.rebalance-requires
rebalance-requires c =
    let m = shrunk c in
    record {
      branches = m.0;
      near = m.1.near;
      width = c.width-width.ensures.width ∙ sym m.2;
      room = room_left (below c.set_count.new.self) _ _ _ m.1.near.fork m.1.list (own_position (below c.args.branches.now) c.args.slots.now.items c.requires.forked c.requires.inner c.args.i c.requires.in_bounds) c.requires.room;
    }

pub returns-clause-levels : goal.returns-clause-levels
returns-clause-levels c = c.rebalance.ensures.levels ∙ (shrunk c.before).1.height

pub returns-clause-slots : goal.returns-clause-slots
returns-clause-slots c = c.rebalance.ensures.slots ∙ (shrunk c.before).1.list

pub unwrap-node-requires : goal.unwrap-node-requires
unwrap-node-requires c =
    let inside = own_inside (below c.args.branches.now) c.args.slots.now.items c.args.i c.requires.forked c.requires.inner c.requires.in_bounds in
    cell_full c.args.branches.now c.block_mut.result.now c.block_mut.ensures.block c.args.i c.requires.branches inside _ c.as_mut.result c.as_mut.ensures.variant

-- the unused blocks
stock : (c : goal.After-rebalance) → (c.args.pool.now.count ≤ c.rebalance.new.pool.count) × ((c.rebalance.new.pool.wanted ≡ c.args.pool.now.wanted) × (c.rebalance.new.pool.room ≡ c.args.pool.now.room))
stock c = kept_below _ _ _ _ _ _ c.remove-last.ensures.kept c.remove-last.ensures.pool c.rebalance.ensures.width.0 c.rebalance.ensures.kept c.rebalance.ensures.gives_back

pub returns-clause-kept : goal.returns-clause-kept
returns-clause-kept c = (stock c).0

pub returns-clause-pool : goal.returns-clause-pool
returns-clause-pool c = (stock c).1

pub returns-clause-given : goal.returns-clause-given
returns-clause-given c =
    let b = branch (call c.before) in
    gives_back (tree (below c.args.branches.now) c.args.slots.now.items) c.unwrap-node.result.now c.remove-last.new.self c.args.pool.now c.remove-last.new.pool c.rebalance.new.pool _ (length c.replace-slot.new.self.items) (length c.rebalance.new.slots.items) c.width-width.result
    b.height b.low b.wide (ap length c.replace-slot.ensures.items ∙ length-set c.args.slots.now.items c.args.i c.remove-last.result) (shrunk c.before).1.height c.width-width.ensures.width c.remove-last.ensures.kept c.remove-last.ensures.pool.0 c.remove-last.ensures.gives_back c.rebalance.ensures.short c.rebalance.ensures.gives_back
