use Rattle.std.proofs.Common.{◌+◌, ◌∷◌, ◌∙◌, take, drop, sym, ap, arith}
use Rattle.iddqd_ord_index.proofs.RunLemmas.{window_front}
use Rattle.iddqd_ord_index.proofs.ord_index.walk.WalkIterator.next.Goals as goal

pub invariant_of-self : goal.invariant_of-self
invariant_of-self c =
    (omega (arith, c.self.invariant.0, c.if-self.false), c.self.invariant.1, c.step-slot.ensures.there, c.self.invariant.3)

pub returns-clause-steps : goal.returns-clause-steps
returns-clause-steps c =
    let w = c.self.inside in
    sym c.self.view_is
    ∙ (window_front w.root.now.slots w.next w.end (omega (arith, c.self.invariant.0, c.if-self.false)) c.self.invariant.1
    ∙ ap (λ s. s ∷ drop (w.next + 1) (take w.end w.root.now.slots)) (sym c.step-slot.ensures.slot))
