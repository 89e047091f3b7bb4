use Rattle.std.proofs.Common.{length, ap, ◌∙◌, arith}
use Rattle.std.proofs.lemmas.List.{length-take-le}
use Rattle.std.specs.List.{remove}
use Rattle.iddqd_ord_index.proofs.SlotLemmas.{front_without}
use Rattle.iddqd_ord_index.proofs.tree.slots.Slots.remove.Goals as goal

pub returns-clause-items : goal.returns-clause-items
returns-clause-items c =
    let n = length-take-le c.self.inside.len c.self.inside.cells (omega (arith, c.self.invariant)) in
    front_without _ _ _ c.args.i c.self.inside.len _ (c.rotate_out.ensures 0) n (omega (arith, c.requires, ap (λ s. length s.items) c.self.view_is)) ∙ ap (λ s. remove s.items c.args.i) c.self.view_is
