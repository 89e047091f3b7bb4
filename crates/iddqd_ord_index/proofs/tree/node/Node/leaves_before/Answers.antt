use Rattle.std.proofs.Common.{◌≡◌, ◌+◌, ◌-◌, ◌<◌, ◌≤◌, length, take, drop, subst, ap, sym, ◌∙◌, arith}
use Rattle.std.proofs.lemmas.Grind.{common_steps}
use Rattle.std.proofs.lemmas.List.{length-take-le}
use Rattle.std.specs.List.{All}
use Rattle.iddqd_ord_index.specs.Nodes.{below, subtrees}
use Rattle.iddqd_ord_index.specs.Runs.{EndsWith}
use Rattle.iddqd_ord_index.specs.Shape.{lists, in_order}
use Rattle.iddqd_ord_index.proofs.BackLemmas.{ahead_branch_at, ends_of, heights_ahead, own_ends, run_ends, run_within}
use Rattle.iddqd_ord_index.proofs.BelowLemmas.{length-lists}
use Rattle.iddqd_ord_index.proofs.BranchAtLemmas.{starts_is, leaf_list, own_read, branch_at_fork, branch_is, rest_within, branch_at_in}
use Rattle.iddqd_ord_index.proofs.tree.node.Node.leaves_before.Goals as goal

pub branch_at-i-requires-clause-reached : goal.branch_at-i-requires-clause-reached
branch_at-i-requires-clause-reached c =
    let s = starts_is (below c.node.inside.branches) c.node.inside.slots.items c.node.invariant.forked (c.is_empty.ensures.some c.down-test.true) in
    omega (arith, ap (λ t. length t.slots) c.node.view_is, c.down.invariant.within)

pub slice_bounds-along-end : goal.slice_bounds-along-end
slice_bounds-along-end c =
    let n = c.node.view_is in
    let ts = below c.node.inside.branches in
    let ss = c.node.inside.slots.items in
    let f = c.node.invariant.forked in
    let w : c.down.place < length (in_order (lists ts) ss) = omega (arith, ap (λ t. length t.slots) n, c.down.invariant.within) in
    let o = own_read ts ss c.down.place c.branch_at-i.result.0 c.branch_at-i.result.1 f c.branch_at-i.ensures (c.if-rest-count.true ∙ c.count.ensures) w in
    omega (arith, o.0, ap length c.as_slice.ensures.value)

pub returns-then-rest-count-clause-walk : goal.returns-then-rest-count-clause-walk
returns-then-rest-count-clause-walk c =
    let n = c.node.view_is in
    let ts = below c.node.inside.branches in
    let ss = c.node.inside.slots.items in
    let f = c.node.invariant.forked in
    let i = c.branch_at-i.result.0 in
    let place = c.down.place in
    let node = c.down.node.now.slots in
    let all = take (c.args.at + 1) c.args.self.now.slots in
    let w : place < length (in_order (lists ts) ss) = omega (arith, ap (λ t. length t.slots) n, c.down.invariant.within) in
    let o = own_read ts ss place i c.branch_at-i.result.1 f c.branch_at-i.ensures (c.if-rest-count.true ∙ c.count.ensures) w in
    let here = run_ends (lists (subtrees c.down.leaves.now)) (take (place + 1) node) c.down.slots.now all (length-lists (subtrees c.down.leaves.now) ∙ (c.down.invariant.present ∙ c.down.invariant.cells)) c.down.invariant.walk in
    let own : EndsWith (take (i + 1 - i) (drop i c.as_slice.result.now)) (take (place + 1) node) =
    subst (λ l. EndsWith (take (i + 1 - i) (drop i l)) (take (place + 1) node)) (sym c.as_slice.ensures.value)
    (subst (λ t. EndsWith (take (i + 1 - i) (drop i ss)) (take (place + 1) t.slots)) n (own_ends (in_order (lists ts) ss) ss place i w o.0 o.1)) in
    subst (λ l. EndsWith l all) (sym c.along.ensures) (ends_of _ (take (place + 1) node) all own here)

pub down-preserved : goal.down-preserved
down-preserved c =
    let n = c.node.view_is in
    let ts = below c.node.inside.branches in
    let ss = c.node.inside.slots.items in
    let f = c.node.invariant.forked in
    let i = c.branch_at-i.result.0 in
    let rest = c.branch_at-i.result.1 in
    let branch_at = c.branch_at-i.ensures in
    let place = c.down.place in
    let node = c.down.node.now.slots in
    let child = c.get-node.result.now in
    let all = take (c.args.at + 1) c.args.self.now.slots in
    let v = ap (λ t. length t.slots) c.get-node.ensures in
    let within = rest_within ts ss place i rest f branch_at in
    let lt = branch_at_in ts ss place i rest f branch_at in
    let more : rest < length child.slots = omega (arith, c.count.ensures, c.if-rest-count.false) in
    let us = subtrees c.branches_before-leaves.result.now in
    let os = take i c.as_slice-in-down.result.now in
    let u : us ≡ take i ts = c.branches_before-leaves.ensures.branches in
    let o : os ≡ take i ss = ap (take i) c.as_slice-in-down.ensures.value in
    let fork = branch_at_fork ts ss place i rest f branch_at in
    let e = ap (λ t. take (place + 1) t.slots) (sym n) ∙ ahead_branch_at ts us ss os child.slots place i rest f branch_at (ap (λ t. t.slots) c.get-node.ensures) more u o in
    let here = run_ends (lists (subtrees c.down.leaves.now)) (take (place + 1) node) c.down.slots.now all (length-lists (subtrees c.down.leaves.now) ∙ (c.down.invariant.present ∙ c.down.invariant.cells)) c.down.invariant.walk in
    record {
      within = more;
      walk = subst (λ l. EndsWith l all) e here;
      cells = sym c.branches_before-leaves.ensures.present ∙ (ap length u ∙ (length-take-le i ts (omega (arith, lt)) ∙ sym (ap length o ∙ length-take-le i ss (omega (arith, lt, fork, length-lists ts)))));
      present = c.branches_before-leaves.ensures.present;
      heights = subst (λ l. All (λ t. t.height ≡ child.height) l) (sym u) (heights_ahead ts ss f i lt child c.get-node.ensures);
    }

pub returns-clause-some : goal.returns-clause-some
returns-clause-some c =
    let e = leaf_list (below c.node.inside.branches) c.node.inside.slots.items (c.is_empty.ensures.none c.down-test.false) in
    let ls = lists (subtrees c.down.leaves.now) in
    let own = c.as_slice-2.result.now in
    let some : c.down.place + 1 ≤ length own =
    omega (arith, ap length c.as_slice-2.ensures.value, ap length e, ap (λ t. length t.slots) c.node.view_is, c.down.invariant.within) in
    let n : length ls ≡ length c.down.slots.now = length-lists (subtrees c.down.leaves.now) ∙ (c.down.invariant.present ∙ c.down.invariant.cells) in
    omega (arith, run_within ls (take (c.down.place + 1) own) c.down.slots.now n, length-take-le (c.down.place + 1) own some)

pub down-smaller : goal.down-smaller
down-smaller c =
    let ts = below c.node.inside.branches in
    let b = branch_is ts c.node.inside.slots.items c.node.invariant.forked c.branch_at-i.result.0 (branch_at_in ts c.node.inside.slots.items c.down.place c.branch_at-i.result.0 c.branch_at-i.result.1 c.node.invariant.forked c.branch_at-i.ensures) in
    omega (arith, b.height, ap (λ t. t.height) c.get-node.ensures, ap (λ t. t.height) c.node.view_is)

pub count-requires-clause-in_bounds : goal.count-requires-clause-in_bounds
count-requires-clause-in_bounds c = grind (arith, common_steps)

pub overflow_add-i : goal.overflow_add-i
overflow_add-i c = grind (arith, common_steps)

pub offset_bounds-as_slice-i : goal.offset_bounds-as_slice-i
offset_bounds-as_slice-i c = grind (arith, common_steps)

pub slice_bounds-slots-end-in-down : goal.slice_bounds-slots-end-in-down
slice_bounds-slots-end-in-down c = grind (arith, common_steps)

pub branches_before-leaves-requires-clause-in_bounds : goal.branches_before-leaves-requires-clause-in_bounds
branches_before-leaves-requires-clause-in_bounds c = grind (arith, common_steps)

pub get-node-requires-clause-in_bounds : goal.get-node-requires-clause-in_bounds
get-node-requires-clause-in_bounds c = grind (arith, common_steps)
