use Rattle.std.proofs.Common.{◌≡◌, ◌+◌, ◌<◌, ◌≤◌, ◌∷◌, ℕ, [], List, length, take, get_or, set, refl, subst, ap, sym, ◌∙◌, arith, length-set}
use Rattle.std.proofs.lemmas.List.{length-take-le, map-set}
use Rattle.iddqd_ord_index.specs.NodeRemoval.{Writes}
use Rattle.iddqd_ord_index.specs.Nodes.{below, AreBranches}
use Rattle.iddqd_ord_index.specs.Shape.{Subtree, in_order, levels, lists, tree, unused, IsBranch, IsBranchAt, IsForked}
use Rattle.iddqd_ord_index.proofs.BranchAtLemmas.{starts_is, own_read, branch_is, branch_at_in, branch_at_fork, branch_at_list, leaf_list}
use Rattle.iddqd_ord_index.proofs.CellLemmas.{branch_in, branches_with, cell_full, kept}
use Rattle.iddqd_ord_index.proofs.DenseLemmas.{dense_of}
use Rattle.iddqd_ord_index.proofs.EditLemmas.{own_renamed, set_forked, set_levels}
use Rattle.iddqd_ord_index.proofs.PartLemmas.{branch_written, leaf_written, one_written, written_length}
use Rattle.iddqd_ord_index.proofs.tree.node.Node.+write.Goals as goal

pub returns-then-is_empty-clause-slots : goal.returns-then-is_empty-clause-slots
returns-then-is_empty-clause-slots t c =
    let none = c.is_empty.ensures.none c.if-is_empty.true in
    let ts = below c.self.inside.branches in
    let ss = c.self.inside.slots.items in
    let own = ap (λ t. t.slots) (sym c.self.view_is) ∙ leaf_list ts ss none in
    leaf_written c.args.at c.write.result c.args.more.now ss c.args.self.now.slots _ own (leaf_list ts c.write.new.self.items none ∙ c.write.ensures.items)
    (omega (arith, c.write.ensures.number, c.requires.in_list, ap length own))

pub branch_at-i-requires-clause-reached : goal.branch_at-i-requires-clause-reached
branch_at-i-requires-clause-reached t c =
    let s = starts_is (below c.self.inside.branches) c.self.inside.slots.items c.self.invariant.forked (c.is_empty.ensures.some c.if-is_empty.false) in
    omega (arith, ap (λ t. length t.slots) c.self.view_is, c.requires.in_list, c.requires.some)

-- the own slot behind the branch
own : (ts : List Subtree) (ss : List ℕ) (at i rest slot count : ℕ) (old : Subtree) → IsForked ts ss → IsBranchAt (lists ts) at i rest → rest ≡ count → count ≡ length (get_or ts i unused).slots → tree ts ss ≡ old → at < length old.slots
    → (i < length ss) × (in_order (lists ts) (set ss i slot) ≡ set old.slots at slot)
own ts ss at i rest slot count old f branch_at r n v lt =
    let q : rest ≡ length (get_or ts i unused).slots = r ∙ n in
    let o = own_read ts ss at i rest f branch_at q (omega (arith, ap (λ t. length t.slots) v)) in
    (o.0, own_renamed (lists ts) ss at i rest branch_at (branch_at_fork ts ss at i rest f branch_at) slot (q ∙ sym (ap length (branch_at_list ts ss at i rest f branch_at))) o.0 ∙ ap (λ t. set t.slots at slot) v)

pub replace-requires : goal.replace-requires
replace-requires t c =
    (own (below c.self.inside.branches) c.self.inside.slots.items c.args.at c.branch_at-i.result.0 c.branch_at-i.result.1 0 c.count-count.result c.args.self.now c.self.invariant.forked c.branch_at-i.ensures c.if-rest-count.true c.count-count.ensures c.self.view_is (omega (arith, c.requires.in_list, c.requires.some))).0

-- the first of the slots
first_of : (more : List ℕ) → 0 < length more → take 1 more ≡ get_or more 0 0 ∷ []
first_of [] some = absurd (omega arith)
first_of (slot ∷ more) some = refl

pub returns-then-rest-count-clause-slots : goal.returns-then-rest-count-clause-slots
returns-then-rest-count-clause-slots t c =
    let ts = below c.self.inside.branches in
    let at = c.args.at in
    let more = c.args.more.now in
    let lt : at < length c.args.self.now.slots = omega (arith, c.requires.in_list, c.requires.some) in
    let o = own ts c.self.inside.slots.items at c.branch_at-i.result.0 c.branch_at-i.result.1 (get_or more 0 0) c.count-count.result c.args.self.now c.self.invariant.forked c.branch_at-i.ensures c.if-rest-count.true c.count-count.ensures c.self.view_is lt in
    one_written at (get_or more 0 0) more c.args.self.now.slots _ (ap (λ l. in_order (lists ts) l) c.replace.ensures.items ∙ o.1) (first_of more c.requires.some) lt

same_forked : (ts : List Subtree) (ss ss' : List ℕ) → length ss' ≡ length ss → IsForked ts ss → IsForked ts ss'
same_forked ts ss ss' e f = record { branches = f.branches; fork = λ lt. f.fork lt ∙ ap (λ n. n + 1) (sym e) }

pub returns-then-rest-count-clause-dense : goal.returns-then-rest-count-clause-dense
returns-then-rest-count-clause-dense t c =
    let ss = c.self.inside.slots.items in
    dense_of (below c.self.inside.branches) c.replace.new.self.items (same_forked (below c.self.inside.branches) ss c.replace.new.self.items (ap length c.replace.ensures.items ∙ length-set ss c.branch_at-i.result.0 _) c.self.invariant.forked)

pub unwrap-node-requires : goal.unwrap-node-requires
unwrap-node-requires t c =
    cell_full c.self.inside.branches c.block_mut.result.now c.block_mut.ensures.block c.branch_at-i.result.0 c.self.invariant.branches (branch_at_in (below c.self.inside.branches) c.self.inside.slots.items c.args.at c.branch_at-i.result.0 c.branch_at-i.result.1 c.self.invariant.forked c.branch_at-i.ensures) _ c.as_mut.result c.as_mut.ensures.variant

-- the node with the other branch
made : (t : ℕ) (c : goal.After-self-1 t) → AreBranches (branches_with c.self.inside.branches c.block_mut.result.now c.branch_at-i.result.0 c.write-2.new.self) × IsForked (below (branches_with c.self.inside.branches c.block_mut.result.now c.branch_at-i.result.0 c.write-2.new.self)) c.self.inside.slots.items
    × (levels (below (branches_with c.self.inside.branches c.block_mut.result.now c.branch_at-i.result.0 c.write-2.new.self)) ≡ levels (below c.self.inside.branches))
    × Writes c.args.at c.write-2.result c.args.more.now c.args.self.now.slots (in_order (lists (below (branches_with c.self.inside.branches c.block_mut.result.now c.branch_at-i.result.0 c.write-2.new.self))) c.self.inside.slots.items)
made t c =
    let old = c.self.inside.branches in
    let ts = below old in
    let ss = c.self.inside.slots.items in
    let i = c.branch_at-i.result.0 in
    let rest = c.branch_at-i.result.1 in
    let f = c.self.invariant.forked in
    let at = c.branch_at-i.ensures in
    let place = branch_at_in ts ss c.args.at i rest f at in
    let new = c.write-2.new.self in
    let count = c.write-2.result in
    let fits = c.min-fits.result in
    let more = c.args.more.now in
    let v = branch_in old c.block_mut.result.now c.block_mut.ensures.block i c.self.invariant.branches place _ c.as_mut.ensures.value c.unwrap-node.ensures in
    let k = branch_is ts ss f i place in
    let e = c.write-2.ensures in
    let branch : IsBranch (levels ts) new = record { height = omega (arith, k.height, e.height, ap (λ t. t.height) v); wide = omega (arith, k.wide, e.width, ap (λ t. t.width) v); dense = e.dense } in
    let long = length-take-le fits more (omega (arith, c.min-fits.ensures)) in
    let le : count ≤ fits = omega (arith, e.most, long) in
    let same = written_length rest count (take fits more) c.unwrap-node.result.now.slots new.slots e.slots (omega (arith, le, long)) in
    let b = kept c.self.inside.branches c.block_mut.result.now c.block_mut.ensures.block c.branch_at-i.result.0 c.self.invariant.branches place new (omega (arith, same, ap (λ t. length t.slots) v)) in
    let part = branch_written (lists ts) ss c.args.at count i rest at (branch_at_fork ts ss c.args.at i rest f at) fits count more new.slots le
    (subst (λ l. Writes rest count (take fits more) l new.slots) (ap (λ t. t.slots) v ∙ sym (branch_at_list ts ss c.args.at i rest f at)) e.slots) in
    let list : in_order (lists (below (branches_with c.self.inside.branches c.block_mut.result.now c.branch_at-i.result.0 c.write-2.new.self))) ss ≡ in_order (set (lists ts) i new.slots) ss =
    ap (λ us. in_order (lists us) ss) b.1 ∙ ap (λ l. in_order l ss) (map-set (λ t. t.slots) ts i new) in (
      b.0,
      subst (λ us. IsForked us ss) (sym b.1) (set_forked ts ss i new f branch),
      ap levels b.1 ∙ set_levels ts ss i new branch,
      subst (λ l. Writes c.args.at count more c.args.self.now.slots l) (sym list)
          (subst (λ s. Writes c.args.at count more s.slots (in_order (set (lists ts) i new.slots) ss)) c.self.view_is part),
    )

pub invariant_of-self-2 : goal.invariant_of-self-2
invariant_of-self-2 t c = let m = made t c in record { branches = m.0; forked = m.1 }

pub returns-clause-slots : goal.returns-clause-slots
returns-clause-slots t c = (made t c).3

pub returns-clause-dense : goal.returns-clause-dense
returns-clause-dense t c = dense_of (below (branches_with c.self.inside.branches c.block_mut.result.now c.branch_at-i.result.0 c.write-2.new.self)) c.self.inside.slots.items (made t c).1
