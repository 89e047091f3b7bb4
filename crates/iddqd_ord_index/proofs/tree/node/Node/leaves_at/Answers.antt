use Rattle.std.proofs.Common.{◌≡◌, ◌+◌, ◌-◌, ◌<◌, [], length, take, drop, get_or, subst, ap, sym, ◌∙◌, arith, length-drop}
use Rattle.std.proofs.lemmas.Grind.{common_steps}
use Rattle.std.proofs.lemmas.List.{take_rest}
use Rattle.std.specs.List.{All}
use Rattle.iddqd_ord_index.specs.Nodes.{below, subtrees}
use Rattle.iddqd_ord_index.specs.Runs.{BeginsWith}
use Rattle.iddqd_ord_index.specs.Shape.{lists, in_order}
use Rattle.iddqd_ord_index.proofs.BranchAtLemmas.{starts_is, own_read, branch_at_list, branch_at_fork, branch_is, rest_within, branch_at_in}
use Rattle.iddqd_ord_index.proofs.LeafLemmas.{below_branch_at, heights_behind}
use Rattle.iddqd_ord_index.proofs.RunLemmas.{front_of, run_of, run_own}
use Rattle.iddqd_ord_index.proofs.tree.node.Node.leaves_at.Goals as goal

pub branch_at-i-requires-clause-reached : goal.branch_at-i-requires-clause-reached
branch_at-i-requires-clause-reached c =
    let s = starts_is (below c.node.inside.branches) c.node.inside.slots.items c.node.invariant.forked (c.is_empty.ensures.some c.down-test.true) in
    omega (arith, ap (λ t. length t.slots) c.node.view_is, c.down.invariant.within)

pub slice_bounds-along-end : goal.slice_bounds-along-end
slice_bounds-along-end c =
    let n = c.node.view_is in
    let ts = below c.node.inside.branches in
    let ss = c.node.inside.slots.items in
    let f = c.node.invariant.forked in
    let w : c.down.place < length (in_order (lists ts) ss) = omega (arith, ap (λ t. length t.slots) n, c.down.invariant.within) in
    let o = own_read ts ss c.down.place c.branch_at-i.result.0 c.branch_at-i.result.1 f c.branch_at-i.ensures (c.if-rest-count.true ∙ c.count.ensures) w in
    omega (arith, o.0, ap length c.as_slice.ensures.value)

pub returns-then-rest-count-clause-walk : goal.returns-then-rest-count-clause-walk
returns-then-rest-count-clause-walk c =
    let n = c.node.view_is in
    let ts = below c.node.inside.branches in
    let ss = c.node.inside.slots.items in
    let f = c.node.invariant.forked in
    let i = c.branch_at-i.result.0 in
    let place = c.down.place in
    let node = c.down.node.now.slots in
    let all = drop c.args.at c.args.self.now.slots in
    let w : place < length (in_order (lists ts) ss) = omega (arith, ap (λ t. length t.slots) n, c.down.invariant.within) in
    let o = own_read ts ss place i c.branch_at-i.result.1 f c.branch_at-i.ensures (c.if-rest-count.true ∙ c.count.ensures) w in
    let r : c.branch_at-i.result.1 ≡ length (get_or (lists ts) i []) = c.if-rest-count.true ∙ (c.count.ensures ∙ sym (ap length (branch_at_list ts ss place i c.branch_at-i.result.1 f c.branch_at-i.ensures))) in
    let b = run_own (lists ts) ss place i c.branch_at-i.result.1 c.branch_at-i.ensures (branch_at_fork ts ss place i c.branch_at-i.result.1 f c.branch_at-i.ensures) r o.0 in
    let here = front_of (drop place node) _ all c.down.invariant.walk in
    let own : BeginsWith (take (i + 1 - i) (drop i c.as_slice.result.now)) (drop place node) =
    subst (λ l. BeginsWith (take (i + 1 - i) (drop i l)) (drop place node)) (sym c.as_slice.ensures.value) (subst (λ t. BeginsWith (take (i + 1 - i) (drop i ss)) (drop place t.slots)) n b) in
    subst (λ l. BeginsWith l all) (sym c.along.ensures) (run_of _ (drop place node) all own here)

pub down-preserved : goal.down-preserved
down-preserved c =
    let n = c.node.view_is in
    let ts = below c.node.inside.branches in
    let ss = c.node.inside.slots.items in
    let f = c.node.invariant.forked in
    let i = c.branch_at-i.result.0 in
    let rest = c.branch_at-i.result.1 in
    let branch_at = c.branch_at-i.ensures in
    let place = c.down.place in
    let child = c.get-node.result.now in
    let all = drop c.args.at c.args.self.now.slots in
    let v = ap (λ t. length t.slots) c.get-node.ensures in
    let within = rest_within ts ss place i rest f branch_at in
    let lt = branch_at_in ts ss place i rest f branch_at in
    let us = subtrees c.branches_after-leaves.result.now in
    let os = take (length c.as_slice-in-down.result.now - i) (drop i c.as_slice-in-down.result.now) in
    let u : us ≡ drop (i + 1) ts = c.branches_after-leaves.ensures.branches in
    let o : os ≡ drop i ss = take_rest c.as_slice-in-down.result.now i ∙ ap (λ l. drop i l) c.as_slice-in-down.ensures.value in
    let e = ap (λ t. drop place t.slots) (sym n) ∙ below_branch_at ts us ss os child.slots place i rest f branch_at (ap (λ t. t.slots) c.get-node.ensures) u o in
    record {
      within = omega (arith, c.count.ensures, c.if-rest-count.false);
      walk = subst (λ l. BeginsWith l all) e (front_of (drop place c.down.node.now.slots) _ all c.down.invariant.walk);
      cells = omega (arith, c.branches_after-leaves.ensures.present, ap length u, ap length o, length-drop (i + 1) ts, length-drop i ss, f.fork (omega arith));
      present = c.branches_after-leaves.ensures.present;
      heights = subst (λ l. All (λ t. t.height ≡ child.height) l) (sym u) (heights_behind ts ss f i lt child c.get-node.ensures);
    }

pub returns-clause-walk : goal.returns-clause-walk
returns-clause-walk c = grind (arith, common_steps)

pub down-smaller : goal.down-smaller
down-smaller c =
    let ts = below c.node.inside.branches in
    let b = branch_is ts c.node.inside.slots.items c.node.invariant.forked c.branch_at-i.result.0 (branch_at_in ts c.node.inside.slots.items c.down.place c.branch_at-i.result.0 c.branch_at-i.result.1 c.node.invariant.forked c.branch_at-i.ensures) in
    omega (arith, b.height, ap (λ t. t.height) c.get-node.ensures, ap (λ t. t.height) c.node.view_is)

pub count-requires-clause-in_bounds : goal.count-requires-clause-in_bounds
count-requires-clause-in_bounds c = grind (arith, common_steps)

pub overflow_add-i : goal.overflow_add-i
overflow_add-i c = grind (arith, common_steps)

pub offset_bounds-as_slice-i : goal.offset_bounds-as_slice-i
offset_bounds-as_slice-i c = grind (arith, common_steps)

pub offset_bounds-as_slice-i-in-down : goal.offset_bounds-as_slice-i-in-down
offset_bounds-as_slice-i-in-down c = grind (arith, common_steps)

pub slice_bounds-slots-count : goal.slice_bounds-slots-count
slice_bounds-slots-count c = grind (arith, common_steps)

pub slice_bounds-slots-start : goal.slice_bounds-slots-start
slice_bounds-slots-start c = grind (arith, common_steps)

pub branches_after-leaves-requires-clause-in_bounds : goal.branches_after-leaves-requires-clause-in_bounds
branches_after-leaves-requires-clause-in_bounds c = grind (arith, common_steps)

pub get-node-requires-clause-in_bounds : goal.get-node-requires-clause-in_bounds
get-node-requires-clause-in_bounds c = grind (arith, common_steps)
