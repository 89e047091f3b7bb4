use Rattle.std.proofs.Common.{◌≡◌, ◌+◌, ◌<◌, ◌-◌, ◌++◌, [], ℕ, length, get_or, set, subst, ap, sym, ◌∙◌, arith, length-append}
use Rattle.std.proofs.lemmas.List.{map-set}
use Rattle.std.specs.List.{remove}
use Rattle.iddqd_ord_index.specs.NodeRemoval.{LosesPart}
use Rattle.iddqd_ord_index.specs.Nodes.{below, AreBranches}
use Rattle.iddqd_ord_index.specs.Shape.{in_order, levels, lists, unused, IsBranch, IsForked}
use Rattle.iddqd_ord_index.proofs.BelowLemmas.{branches_put, list_at}
use Rattle.iddqd_ord_index.proofs.BranchAtLemmas.{starts_is, branch_is, branch_at_in, branch_at_fork, branch_at_list, leaf_list}
use Rattle.iddqd_ord_index.proofs.CellLemmas.{branch_in, cell_full, changed_counts, changed_nodes, counted}
use Rattle.iddqd_ord_index.proofs.DenseLemmas.{dense_of}
use Rattle.iddqd_ord_index.proofs.EditLemmas.{set_forked, set_levels}
use Rattle.iddqd_ord_index.proofs.PartLemmas.{branch_part, forked_without, leaf_part, levels_without, lists_without, next_part, still_wide}
use Rattle.iddqd_ord_index.proofs.tree.node.Node.+cut.Goals.{After-remove-count}
use Rattle.iddqd_ord_index.proofs.tree.node.Node.+cut.Goals as goal

pub returns-then-is_empty-clause-part : goal.returns-then-is_empty-clause-part
returns-then-is_empty-clause-part t c =
    let none = c.is_empty.ensures.none c.if-is_empty.true in
    let ss = c.self.inside.slots.items in
    let own = ap (λ t. t.slots) (sym c.self.view_is) ∙ leaf_list (below c.self.inside.branches) ss none in
    leaf_part c.args.at c.args.most c.min-count.result ss c.args.self.now.slots _ own (leaf_list (below c.self.inside.branches) c.remove_part.new.self.items none ∙ c.remove_part.ensures)
    (omega (arith, c.min-count.ensures, c.min.ensures)) (omega (arith, c.min-count.ensures, c.min.ensures, c.requires, c.len-width.ensures.value, ap length own))

pub branch_at-i-requires-clause-reached : goal.branch_at-i-requires-clause-reached
branch_at-i-requires-clause-reached t c =
    let s = starts_is (below c.self.inside.branches) c.self.inside.slots.items c.self.invariant.forked (c.is_empty.ensures.some c.if-is_empty.false) in
    omega (arith, ap (λ t. length t.slots) c.self.view_is, c.requires)

-- the node without the next branch
without : (t : ℕ) (c : After-remove-count t) → IsForked (below c.remove-count.new.self) c.remove.new.self.items × (levels (below c.remove-count.new.self) ≡ levels (below c.self.inside.branches))
    × LosesPart c.args.at c.args.most (c.remove-count.result.1 + 1) c.args.self.now.slots (in_order (lists (below c.remove-count.new.self)) c.remove.new.self.items)
without t c =
    let ts = below c.self.inside.branches in
    let ss = c.self.inside.slots.items in
    let i = c.branch_at-i.result.0 in
    let f = c.self.invariant.forked in
    let at = c.branch_at-i.ensures in
    let lt : i < length ss = omega (arith, c.may_lose_next.ensures.in_bounds c.if-may_lose_next.true, c.len-width.ensures.value) in
    let fork = branch_at_fork ts ss c.args.at i c.branch_at-i.result.1 f at in
    let two = f.fork (omega (arith, branch_at_in ts ss c.args.at i c.branch_at-i.result.1 f at)) in
    let next = list_at ts (i + 1) (omega arith) in
    let own = branch_at_list ts ss c.args.at i c.branch_at-i.result.1 f at in
    let fits = c.may_lose_next.ensures.fits c.if-may_lose_next.true in
    let part = next_part (lists ts) ss c.args.at c.args.most i c.branch_at-i.result.1 at fork c.count-len.result (c.count-len.ensures ∙ ap length (sym own)) lt (omega (arith, fits, c.saturating_sub.ensures, ap length next)) in
    let below_is = c.remove-count.ensures.below in
    let slots_are = c.remove.ensures.items in
    let count : c.remove-count.result.1 + 1 ≡ length (get_or (lists ts) (i + 1) []) + 1 = omega (arith, c.remove-count.ensures.count, ap (λ t. length t.slots) c.remove-count.ensures.node, ap length next) in
    let list : in_order (lists (below c.remove-count.new.self)) c.remove.new.self.items ≡ in_order (remove (lists ts) (i + 1)) (remove ss i) =
    ap (λ us. in_order (lists us) c.remove.new.self.items) below_is ∙ (ap (λ l. in_order (lists (remove ts (i + 1))) l) slots_are ∙ ap (λ ls. in_order ls (remove ss i)) (lists_without ts ss i f two lt)) in (
      subst (λ us. IsForked us c.remove.new.self.items) (sym below_is) (subst (λ l. IsForked (remove ts (i + 1)) l) (sym slots_are) (forked_without ts ss i f two lt)),
      ap levels below_is ∙ levels_without ts ss i f two lt,
      subst (λ n. LosesPart c.args.at c.args.most n c.args.self.now.slots (in_order (lists (below c.remove-count.new.self)) c.remove.new.self.items)) (sym count)
          (subst (λ l. LosesPart c.args.at c.args.most (length (get_or (lists ts) (i + 1) []) + 1) c.args.self.now.slots l) (sym list)
          (subst (λ s. LosesPart c.args.at c.args.most (length (get_or (lists ts) (i + 1) []) + 1) s.slots (in_order (remove (lists ts) (i + 1)) (remove ss i))) c.self.view_is part)),
    )

pub invariant_of-self-then-may_lose_next : goal.invariant_of-self-then-may_lose_next
invariant_of-self-then-may_lose_next t c = record { branches = c.remove-count.ensures.branches; forked = (without t c.before.before).0 }

pub returns-then-may_lose_next-clause-part : goal.returns-then-may_lose_next-clause-part
returns-then-may_lose_next-clause-part t c = (without t c.before.before).2

pub returns-then-may_lose_next-clause-dense : goal.returns-then-may_lose_next-clause-dense
returns-then-may_lose_next-clause-dense t c = dense_of (below c.remove-count.new.self) c.remove.new.self.items (without t c.before.before).0

pub unwrap-node-requires : goal.unwrap-node-requires
unwrap-node-requires t c =
    cell_full c.self.inside.branches c.block_mut.result.now c.block_mut.ensures.block c.branch_at-i.result.0 c.self.invariant.branches (branch_at_in (below c.self.inside.branches) c.self.inside.slots.items c.args.at c.branch_at-i.result.0 c.branch_at-i.result.1 c.self.invariant.forked c.branch_at-i.ensures) _ c.as_mut.result c.as_mut.ensures.variant

pub set_count-requires : goal.set_count-requires
set_count-requires t c = counted c.self.inside.branches c.block_mut.result.now c.block_mut.ensures.block c.branch_at-i.result.0 c.self.invariant.branches (branch_at_in (below c.self.inside.branches) c.self.inside.slots.items c.args.at c.branch_at-i.result.0 c.branch_at-i.result.1 c.self.invariant.forked c.branch_at-i.ensures) c.cut-count.new.self

-- the node with the other branch
made : (t : ℕ) (c : goal.After-set_count t) → AreBranches c.set_count.new.self × IsForked (below c.set_count.new.self) c.self.inside.slots.items
    × (levels (below c.set_count.new.self) ≡ levels (below c.self.inside.branches))
    × LosesPart c.args.at c.args.most c.cut-count.result c.args.self.now.slots (in_order (lists (below c.set_count.new.self)) c.self.inside.slots.items)
made t c =
    let old = c.self.inside.branches in
    let ts = below old in
    let ss = c.self.inside.slots.items in
    let i = c.branch_at-i.result.0 in
    let rest = c.branch_at-i.result.1 in
    let f = c.self.invariant.forked in
    let at = c.branch_at-i.ensures in
    let place = branch_at_in ts ss c.args.at i rest f at in
    let new = c.cut-count.new.self in
    let v = branch_in old c.block_mut.result.now c.block_mut.ensures.block i c.self.invariant.branches place _ c.as_mut.ensures.value c.unwrap-node.ensures in
    let k = branch_is ts ss f i place in
    let branch : IsBranch (levels ts) new = record { height = omega (arith, k.height, c.cut-count.ensures.height, ap (λ t. t.height) v); wide = still_wide (get_or ts i unused).width new.width (λ lt. c.cut-count.ensures.width (omega (arith, ap (λ t. t.width) v))) k.wide; dense = c.cut-count.ensures.dense } in
    let p = c.cut-count.ensures.part in
    let len : c.count-len.result - c.cut-count.result ≡ length new.slots =
    omega (arith, c.count-len.ensures, ap (λ t. length t.slots) v, ap length p.old_is, ap length p.new_is, length-append p.front (p.part ++ p.back), length-append p.part p.back, length-append p.front p.back, p.number) in
    let b = branches_put old c.set_count.new.self i (c.count-len.result - c.cut-count.result) new c.self.invariant.branches place
    (c.set_count.ensures.cells ∙ changed_nodes c.self.inside.branches c.block_mut.result.now c.block_mut.ensures.block c.branch_at-i.result.0 new)
    (c.set_count.ensures.counts ∙ changed_counts c.self.inside.branches c.block_mut.result.now c.block_mut.ensures.block c.branch_at-i.result.0 new (c.count-len.result - c.cut-count.result)) len in
    let part = branch_part (lists ts) ss c.args.at c.args.most i rest at (branch_at_fork ts ss c.args.at i rest f at) c.min-2.result c.cut-count.result new.slots (omega (arith, c.min-2.ensures))
    (subst (λ l. LosesPart rest c.min-2.result c.cut-count.result l new.slots) (ap (λ t. t.slots) v ∙ sym (branch_at_list ts ss c.args.at i rest f at)) p) in
    let list : in_order (lists (below c.set_count.new.self)) ss ≡ in_order (set (lists ts) i new.slots) ss =
    ap (λ us. in_order (lists us) ss) b.1 ∙ ap (λ l. in_order l ss) (map-set (λ t. t.slots) ts i new) in (
      b.0,
      subst (λ us. IsForked us ss) (sym b.1) (set_forked ts ss i new f branch),
      ap levels b.1 ∙ set_levels ts ss i new branch,
      subst (λ l. LosesPart c.args.at c.args.most c.cut-count.result c.args.self.now.slots l) (sym list)
          (subst (λ s. LosesPart c.args.at c.args.most c.cut-count.result s.slots (in_order (set (lists ts) i new.slots) ss)) c.self.view_is part),
    )

pub invariant_of-self-2 : goal.invariant_of-self-2
invariant_of-self-2 t c = let m = made t c in record { branches = m.0; forked = m.1 }

pub returns-clause-part : goal.returns-clause-part
returns-clause-part t c = (made t c).3

pub returns-clause-dense : goal.returns-clause-dense
returns-clause-dense t c = dense_of (below c.set_count.new.self) c.self.inside.slots.items (made t c).1
