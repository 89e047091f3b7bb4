use Rattle.std.proofs.Common.{◌≡◌, ◌<◌, length, get_or, ap, sym, ◌∙◌, arith, rules}
use Rattle.std.proofs.lemmas.Grind.{common_steps}
use Rattle.iddqd_ord_index.specs.Nodes.{below}
use Rattle.iddqd_ord_index.specs.Shape.{lists, in_order, unused}
use Rattle.iddqd_ord_index.proofs.BranchAtLemmas.{starts_is, own_read, branch_read, branch_is, rest_within, branch_at_in}
use Rattle.iddqd_ord_index.proofs.tree.node.Node.slot_at.Goals as goal

pub branch_at-i-requires-clause-reached : goal.branch_at-i-requires-clause-reached
branch_at-i-requires-clause-reached c =
    let s = starts_is (below c.node.inside.branches) c.node.inside.slots.items c.node.invariant.forked (c.is_empty.ensures.some c.down-test.true) in
    omega (arith, ap (λ t. length t.slots) c.node.view_is, c.down.invariant.within)

pub bounds-as_slice-i : goal.bounds-as_slice-i
bounds-as_slice-i c =
    let n = c.node.view_is in
    let w : c.down.place < length (in_order (lists (below c.node.inside.branches)) c.node.inside.slots.items) = omega (arith, ap (λ t. length t.slots) n, c.down.invariant.within) in
    let o = own_read (below c.node.inside.branches) c.node.inside.slots.items c.down.place c.branch_at-i.result.0 c.branch_at-i.result.1 c.node.invariant.forked c.branch_at-i.ensures (c.if-rest-count.true ∙ c.count.ensures) w in
    omega (arith, o.0, ap length c.as_slice.ensures.value)

pub returns-then-rest-count : goal.returns-then-rest-count
returns-then-rest-count c =
    let n = c.node.view_is in
    let w : c.down.place < length (in_order (lists (below c.node.inside.branches)) c.node.inside.slots.items) = omega (arith, ap (λ t. length t.slots) n, c.down.invariant.within) in
    let o = own_read (below c.node.inside.branches) c.node.inside.slots.items c.down.place c.branch_at-i.result.0 c.branch_at-i.result.1 c.node.invariant.forked c.branch_at-i.ensures (c.if-rest-count.true ∙ c.count.ensures) w in
    ap (λ l. get_or l c.branch_at-i.result.0 0) c.as_slice.ensures.value ∙ (sym o.1 ∙ (ap (λ t. get_or t.slots c.down.place 0) n ∙ c.down.invariant.same))

pub down-preserved : goal.down-preserved
down-preserved c =
    let ts = below c.node.inside.branches in
    let ss = c.node.inside.slots.items in
    let f = c.node.invariant.forked in
    let n : length c.get-node.result.now.slots ≡ length (get_or ts c.branch_at-i.result.0 unused).slots = ap (λ t. length t.slots) c.get-node.ensures in
    let w = rest_within ts ss c.down.place c.branch_at-i.result.0 c.branch_at-i.result.1 f c.branch_at-i.ensures in
    let lt : c.branch_at-i.result.1 < length (get_or ts c.branch_at-i.result.0 unused).slots = omega (arith, c.count.ensures, c.if-rest-count.false) in
    let r = branch_read ts ss c.down.place c.branch_at-i.result.0 c.branch_at-i.result.1 f c.branch_at-i.ensures lt in
    record {
      within = omega arith;
      same = ap (λ t. get_or t.slots c.branch_at-i.result.1 0) c.get-node.ensures ∙ (sym r ∙ (ap (λ t. get_or t.slots c.down.place 0) c.node.view_is ∙ c.down.invariant.same));
    }

pub down-smaller : goal.down-smaller
down-smaller c =
    let ts = below c.node.inside.branches in
    let b = branch_is ts c.node.inside.slots.items c.node.invariant.forked c.branch_at-i.result.0 (branch_at_in ts c.node.inside.slots.items c.down.place c.branch_at-i.result.0 c.branch_at-i.result.1 c.node.invariant.forked c.branch_at-i.ensures) in
    omega (arith, b.height, ap (λ t. t.height) c.get-node.ensures, ap (λ t. t.height) c.node.view_is)

pub count-requires-clause-in_bounds : goal.count-requires-clause-in_bounds
count-requires-clause-in_bounds c = grind (arith, common_steps)

pub get-node-requires-clause-in_bounds : goal.get-node-requires-clause-in_bounds
get-node-requires-clause-in_bounds c = grind (arith, common_steps)

pub overflow_cast-result : goal.overflow_cast-result
overflow_cast-result c = search rules

pub offset_bounds-as_slice-i : goal.offset_bounds-as_slice-i
offset_bounds-as_slice-i c = grind (arith, common_steps)
