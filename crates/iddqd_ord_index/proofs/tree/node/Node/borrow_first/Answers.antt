use Rattle.std.proofs.Common.{◌∷◌, ◌++◌, ap, sym, ◌∙◌, arith, refl}
use Rattle.iddqd_ord_index.specs.Nodes.{below}
use Rattle.iddqd_ord_index.specs.Shape.{lists, in_order, levels}
use Rattle.iddqd_ord_index.proofs.PairLemmas.{IsMoved, moved_first, first_cut}
use Rattle.iddqd_ord_index.proofs.tree.node.Node.borrow_first.Goals as goal

moved : (c : goal.After-remove) → IsMoved (levels (below c.self.inside.branches)) (in_order (lists (below c.self.inside.branches)) c.self.inside.slots.items ++ c.args.middle ∷ in_order (lists (below c.upper.inside.branches)) c.upper.inside.slots.items)
    (below c.move_first.new.lower) c.push.new.self.items c.remove.result (below c.move_first.new.upper) c.remove.new.self.items
moved c =
    moved_first (levels (below c.self.inside.branches)) (below c.self.inside.branches) (below c.upper.inside.branches) c.self.inside.slots.items c.upper.inside.slots.items c.args.middle
    c.self.invariant.forked c.upper.invariant.forked refl (ap (λ t. t.height) c.upper.view_is ∙ (sym c.requires.height ∙ sym (ap (λ t. t.height) c.self.view_is)))
    (below c.move_first.new.lower) (below c.move_first.new.upper) c.push.new.self.items c.remove.new.self.items c.remove.result c.move_first.ensures.below c.move_first.ensures.upper_below c.push.ensures.items (first_cut c.upper.inside.slots.items c.remove.new.self.items c.remove.result (omega (arith, ap (λ t. t.width) c.upper.view_is, c.requires.more)) c.remove.ensures.value c.remove.ensures.items)

pub invariant_of-self : goal.invariant_of-self
invariant_of-self c = let i = moved c in record { branches = c.move_first.ensures.branches; forked = i.lower }

pub invariant_of-upper : goal.invariant_of-upper
invariant_of-upper c = let i = moved c in record { branches = c.move_first.ensures.upper_branches; forked = i.upper }

pub returns-clause-slots : goal.returns-clause-slots
returns-clause-slots c =
    let i = moved c in
    sym (ap (λ t. t.slots ++ c.args.middle ∷ in_order (lists (below c.upper.inside.branches)) c.upper.inside.slots.items) c.self.view_is ∙ ap (λ t. c.args.self.now.slots ++ c.args.middle ∷ t.slots) c.upper.view_is) ∙ i.list

pub returns-clause-height : goal.returns-clause-height
returns-clause-height c =
    let i = moved c in
    let h = ap (λ t. t.height) c.self.view_is in
    (i.height.0 ∙ h, i.height.1 ∙ (h ∙ c.requires.height))

pub returns-clause-dense : goal.returns-clause-dense
returns-clause-dense c = let i = moved c in i.dense
