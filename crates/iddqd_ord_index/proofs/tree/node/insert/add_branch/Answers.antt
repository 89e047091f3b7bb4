use Rattle.std.proofs.Common.{◌+◌, ap, sym, subst, ◌∙◌, arith, rules}
use Rattle.std.specs.List.{insert}
use Rattle.iddqd_ord_index.specs.Nodes.{below}
use Rattle.iddqd_ord_index.specs.Shape.{lists, in_order, IsForked}
use Rattle.iddqd_ord_index.proofs.HalfLemmas.{more_forked, more_lists}
use Rattle.iddqd_ord_index.proofs.tree.node.insert.add_branch.Goals as goal

pub returns-then-len-lt-MOST_SLOTS-clause-adds : goal.returns-then-len-lt-MOST_SLOTS-clause-adds
returns-then-len-lt-MOST_SLOTS-clause-adds c =
    let ts = below c.args.branches.now in
    let l = more_lists ts (below c.insert-then-len-lt-MOST_SLOTS.new.self) c.args.slots.now.items c.args.i c.args.middle c.args.upper c.requires.forked c.requires.inner c.requires.in_bounds c.insert-then-len-lt-MOST_SLOTS.ensures.below c.requires.upper in
    record {
      slots = ap (λ l. in_order l c.insert.new.self.items) l ∙ ap (λ ss. in_order (insert (lists ts) (c.args.i + 1) c.args.upper.slots) ss) c.insert.ensures.items;
      wider = omega (arith, c.insert.ensures.len);
    }

pub overflow_add-i : goal.overflow_add-i
overflow_add-i c = search rules

pub returns-then-len-lt-MOST_SLOTS-clause-forked : goal.returns-then-len-lt-MOST_SLOTS-clause-forked
returns-then-len-lt-MOST_SLOTS-clause-forked c =
    let us = below c.insert-then-len-lt-MOST_SLOTS.new.self in
    subst (λ ss. IsForked us ss) (sym c.insert.ensures.items) (more_forked (below c.args.branches.now) us c.args.slots.now.items c.args.i c.args.middle c.args.upper c.requires.forked c.requires.inner c.requires.in_bounds c.insert-then-len-lt-MOST_SLOTS.ensures.below c.requires.upper)
