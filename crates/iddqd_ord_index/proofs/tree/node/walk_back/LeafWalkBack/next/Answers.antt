use Rattle.std.proofs.Common.{[], ◌∷◌, ◌++◌, ◌∙◌, length, take, ap, sym}
use Rattle.iddqd_ord_index.specs.Nodes.{subtrees}
use Rattle.iddqd_ord_index.specs.Shape.{in_order, lists}
use Rattle.iddqd_ord_index.proofs.BackLemmas.{leaf_back, leaves_ahead, one_back}
use Rattle.iddqd_ord_index.proofs.BranchAtLemmas.{none_of}
use Rattle.iddqd_ord_index.proofs.tree.node.walk_back.LeafWalkBack.next.Goals as goal

pub invariant_of-self-in-None : goal.invariant_of-self-in-None
invariant_of-self-in-None c =
    leaves_ahead c.self.inside.leaves.now (length c.self.inside.slots.now) (length c.in_ok-slot-in-None.slots.now) c.self.invariant c.in_ok-slot-in-None.ensures.cases.1

pub returns-in-Some-clause-some : goal.returns-in-Some-clause-some
returns-in-Some-clause-some c =
    let w = c.self.inside in
    sym c.self.view_is ∙ one_back w.leaves.now w.run.now c.in-Some.run'.now w.slots.now c.in-Some.slot.now c.self.invariant c.in-Some.ensures.cases.0

pub returns-in_ok-slot-in-None-clause-some : goal.returns-in_ok-slot-in-None-clause-some
returns-in_ok-slot-in-None-clause-some c =
    let w = c.self.inside in
    let slot = c.in_ok-slot-in-None.slot.now in
    let slots = c.in_ok-slot-in-None.slots.now in
    let leaves = take (length slots) w.leaves.now in
    sym c.self.view_is
    ∙ (leaf_back w.leaves.now w.run.now w.slots.now slots slot c.self.invariant (none_of w.run.now c.in-None.ensures.cases) c.in_ok-slot-in-None.ensures.cases.0
    ∙ ap (λ l. in_order (lists (subtrees leaves) ++ l ∷ []) slots ++ slot ∷ []) (sym c.leaf_at-self-inside.ensures))
