use Rattle.std.proofs.Common.{◌≡◌, ◌+◌, length, take, get_or, ap, arith}
use Rattle.std.proofs.lemmas.List.{drop_all}
use Rattle.iddqd_ord_index.specs.Nodes.{below}
use Rattle.iddqd_ord_index.specs.Shape.{lists, starts, unused}
use Rattle.iddqd_ord_index.proofs.BranchAtLemmas.{fork_is, starts_is}
use Rattle.iddqd_ord_index.proofs.BelowLemmas.{list_at, length-lists}
use Rattle.iddqd_ord_index.proofs.InOrderLemmas.{starts_split, starts_drop}
use Rattle.iddqd_ord_index.proofs.tree.node.Node.len.Goals as goal

whole : (c : goal.After-count) → c.start.result + c.count.result ≡ length c.args.self.now.slots
whole c =
    let ts = below c.self.inside.branches in
    let ss = c.self.inside.slots.items in
    let own = length ss in
    let some = c.is_empty.ensures.some c.if-is_empty.false in
    let e = fork_is ts ss c.self.invariant.forked some in
    let s = starts_is ts ss c.self.invariant.forked some in
    let z = ap starts (drop_all (own + 1) (lists ts) (omega arith)) in
    let d = starts_drop (lists ts) own (omega arith) in
    let l = ap length (list_at ts own (omega (arith, length-lists ts))) in
    let n : c.len-own.result ≡ own = c.len-own.ensures.value in
    let a = c.start.ensures in
    let b = c.count.ensures in
    let a' = ap (λ j. starts (take j (lists ts))) n in
    let b' = ap (λ j. length (get_or ts j unused).slots) n in
    omega (arith, starts_split (lists ts) own, ap (λ t. length t.slots) c.self.view_is)

pub start-requires-clause-room : goal.start-requires-clause-room
start-requires-clause-room c =
    let ts = below c.self.inside.branches in
    let s = starts_is ts c.self.inside.slots.items c.self.invariant.forked (c.is_empty.ensures.some c.if-is_empty.false) in
    omega (arith, ap (λ t. length t.slots) c.self.view_is, c.requires)

pub overflow_add-result : goal.overflow_add-result
overflow_add-result c = omega (arith, whole c, c.requires)

pub returns : goal.returns
returns c = whole c
