use Rattle.std.proofs.Common.{◌∷◌, ◌++◌, ◌∙◌, length, take, drop, ap, sym, ◌-◌}
use Rattle.iddqd_ord_index.specs.Nodes.{subtrees}
use Rattle.iddqd_ord_index.specs.Shape.{behind, lists}
use Rattle.iddqd_ord_index.proofs.BranchAtLemmas.{none_of}
use Rattle.iddqd_ord_index.proofs.LeafLemmas.{next_leaf, rest_leaves}
use Rattle.iddqd_ord_index.proofs.tree.node.walk.LeafWalk.next.Goals as goal

pub invariant_of-self-in-None : goal.invariant_of-self-in-None
invariant_of-self-in-None c =
    rest_leaves c.self.inside.leaves.now (length c.self.inside.slots.now) (length c.in_ok-slot-in-None.slots.now) c.self.invariant c.in_ok-slot-in-None.ensures.cases.1

pub returns-in_ok-slot-in-None-clause-some : goal.returns-in_ok-slot-in-None-clause-some
returns-in_ok-slot-in-None-clause-some c =
    let w = c.self.inside in
    let slot = c.in_ok-slot-in-None.slot.now in
    let slots = c.in_ok-slot-in-None.slots.now in
    let leaves = take (length w.leaves.now - 1) (drop 1 w.leaves.now) in
    let e = none_of w.run.now c.in-None.ensures.cases in
    sym c.self.view_is
    ∙ (ap (λ l. l ++ behind (lists (subtrees w.leaves.now)) w.slots.now) e
    ∙ (next_leaf w.leaves.now slot w.slots.now slots c.self.invariant c.in_ok-slot-in-None.ensures.cases.0
    ∙ ap (λ l. slot ∷ (l ++ behind (lists (subtrees leaves)) slots)) (sym c.leaf_at-self-inside.ensures)))
