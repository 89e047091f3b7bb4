use Rattle.std.proofs.Common.{◌∷◌, ◌++◌, ap, sym, ◌∙◌, refl}
use Rattle.iddqd_ord_index.specs.Nodes.{below}
use Rattle.iddqd_ord_index.specs.Shape.{lists, in_order, levels}
use Rattle.iddqd_ord_index.proofs.PairLemmas.{IsMoved, moved_last}
use Rattle.iddqd_ord_index.proofs.tree.node.Node.lend_last.Goals as goal

moved : (c : goal.After-insert) → IsMoved (levels (below c.self.inside.branches)) (in_order (lists (below c.self.inside.branches)) c.self.inside.slots.items ++ c.args.middle ∷ in_order (lists (below c.upper.inside.branches)) c.upper.inside.slots.items)
    (below c.move_last.new.lower) c.pop.new.self.items c.in-Some.last (below c.move_last.new.upper) c.insert.new.self.items
moved c =
    moved_last (levels (below c.self.inside.branches)) (below c.self.inside.branches) (below c.upper.inside.branches) c.self.inside.slots.items c.upper.inside.slots.items c.args.middle
    c.self.invariant.forked c.upper.invariant.forked refl (ap (λ t. t.height) c.upper.view_is ∙ (sym c.requires.height ∙ sym (ap (λ t. t.height) c.self.view_is)))
    (below c.move_last.new.lower) (below c.move_last.new.upper) c.pop.new.self.items c.insert.new.self.items c.in-Some.last c.len.result c.move_last.ensures.below c.move_last.ensures.upper_below c.len.ensures.value c.in-Some.ensures.items c.insert.ensures.items

pub invariant_of-self : goal.invariant_of-self
invariant_of-self c = let i = moved c in record { branches = c.move_last.ensures.branches; forked = i.lower }

pub invariant_of-upper : goal.invariant_of-upper
invariant_of-upper c = let i = moved c in record { branches = c.move_last.ensures.upper_branches; forked = i.upper }

pub returns-clause-slots : goal.returns-clause-slots
returns-clause-slots c =
    let i = moved c in
    sym (ap (λ t. t.slots ++ c.args.middle ∷ in_order (lists (below c.upper.inside.branches)) c.upper.inside.slots.items) c.self.view_is ∙ ap (λ t. c.args.self.now.slots ++ c.args.middle ∷ t.slots) c.upper.view_is) ∙ i.list

pub returns-clause-height : goal.returns-clause-height
returns-clause-height c =
    let i = moved c in
    let h = ap (λ t. t.height) c.self.view_is in
    (i.height.0 ∙ h, i.height.1 ∙ (h ∙ c.requires.height))

pub returns-clause-dense : goal.returns-clause-dense
returns-clause-dense c = let i = moved c in i.dense
