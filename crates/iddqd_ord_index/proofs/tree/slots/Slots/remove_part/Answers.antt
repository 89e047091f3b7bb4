use Rattle.std.proofs.Common.{◌+◌, ◌-◌, ◌++◌, length, take, drop, ap, ◌∙◌, arith}
use Rattle.std.proofs.lemmas.List.{length-take-le}
use Rattle.iddqd_ord_index.proofs.PartLemmas.{front_without_part}
use Rattle.iddqd_ord_index.proofs.tree.slots.Slots.remove_part.Goals as goal

pub returns : goal.returns
returns c =
    let n = length-take-le c.self.inside.len c.self.inside.cells (omega (arith, c.self.invariant)) in
    ap (λ l. take (c.self.inside.len - c.args.count) l) c.copy_within.ensures.after
    ∙ (front_without_part c.self.inside.cells c.args.i c.args.count c.self.inside.len (omega (arith, c.requires, n, ap (λ s. length s.items) c.self.view_is)) (omega (arith, c.self.invariant))
    ∙ ap (λ s. take c.args.i s.items ++ drop (c.args.i + c.args.count) s.items) c.self.view_is)
