use Rattle.std.proofs.Common.{◌≡◌, ◌<◌, ℕ, List, length, get_or, ap, sym, ◌∙◌, subst, arith}
use Rattle.std.proofs.lemmas.List.{get_or_default}
use Rattle.iddqd_ord_index.specs.Nodes.{below, slots_of}
use Rattle.iddqd_ord_index.proofs.EditLemmas.{IsMade}
use Rattle.iddqd_ord_index.proofs.RebalanceLemmas.{merged_node, shifted_node}
use Rattle.iddqd_ord_index.proofs.tree.node.remove.rebalance_at.Goals as goal
use Rattle.iddqd_ord_index.proofs.tree.node.remove.rebalance_at.Goals.{After-give_back, After-replace}

own_slot : (slots read : List ℕ) (j : ℕ) → read ≡ slots → j < length slots → get_or read j 0 ≡ get_or slots j (get_or read j 0)
own_slot slots read j e lt = ap (λ l. get_or l j 0) e ∙ get_or_default slots j 0 (get_or read j 0) lt

merged : (c : After-give_back) → IsMade (below c.args.branches.now) (below c.merge_at-block.new.self) c.remove.new.self.items (slots_of c.args.branches.now c.args.slots.now)
merged c =
    subst (λ x. IsMade (below c.args.branches.now) (below c.merge_at-block.new.self) x (slots_of c.args.branches.now c.args.slots.now)) (sym c.remove.ensures.items)
    (merged_node (below c.args.branches.now) c.args.slots.now.items c.args.j (get_or c.as_slice.result.now c.args.j 0) c.requires.pair
    (own_slot c.args.slots.now.items c.as_slice.result.now c.args.j c.as_slice.ensures.value (omega (arith, c.requires.pair.two.within, c.requires.pair.fork))) (below c.merge_at-block.new.self) c.merge_at-block.ensures.merged)

shifted : (c : After-replace) → IsMade (below c.args.branches.now) (below c.shift_at-top.new.self) c.replace.new.self.items (slots_of c.args.branches.now c.args.slots.now)
shifted c =
    subst (λ x. IsMade (below c.args.branches.now) (below c.shift_at-top.new.self) x (slots_of c.args.branches.now c.args.slots.now)) (sym c.replace.ensures.items)
    (shifted_node (below c.args.branches.now) c.args.slots.now.items c.args.j (get_or c.as_slice.result.now c.args.j 0) c.requires.pair
    (own_slot c.args.slots.now.items c.as_slice.result.now c.args.j c.as_slice.ensures.value (omega (arith, c.requires.pair.two.within, c.requires.pair.fork))) (below c.shift_at-top.new.self) c.shift_at-top.result c.shift_at-top.ensures.shifted)

pub returns-then-width-lt-MOST_SLOTS-clause-forked : goal.returns-then-width-lt-MOST_SLOTS-clause-forked
returns-then-width-lt-MOST_SLOTS-clause-forked c = (merged c).forked

pub returns-then-width-lt-MOST_SLOTS-clause-slots : goal.returns-then-width-lt-MOST_SLOTS-clause-slots
returns-then-width-lt-MOST_SLOTS-clause-slots c = (merged c).list

pub returns-clause-forked : goal.returns-clause-forked
returns-clause-forked c = (shifted c).forked

pub returns-clause-slots : goal.returns-clause-slots
returns-clause-slots c = (shifted c).list
