use Rattle.std.proofs.Common.{◌+◌, ◌-◌, ◌≤◌, ◌++◌, length, take, drop, ap, ◌∙◌, arith}
use Rattle.std.proofs.lemmas.List.{length-take-le}
use Rattle.iddqd_ord_index.proofs.PartLemmas.{front_written}
use Rattle.iddqd_ord_index.proofs.tree.slots.Slots.write.Goals as goal

pub returns-clause-items : goal.returns-clause-items
returns-clause-items c =
    let i = c.args.i in
    let count = c.min-count.result in
    let len = c.self.inside.len in
    let cells = c.self.inside.cells in
    let fits = length-take-le len cells (omega (arith, c.self.invariant)) in
    let within : i + count ≤ len = omega (arith, c.min-count.ensures, c.requires, fits, ap (λ s. length s.items) c.self.view_is) in
    let more = c.copy_from_slice.ensures.after in
    front_written cells c.copy_from_slice.new.self i (i + count - i) count len (omega arith) (ap length more ∙ length-take-le count c.args.more.now (omega (arith, c.min-count.ensures))) within (omega (arith, c.self.invariant))
    ∙ (ap (λ l. take i (take len cells) ++ (l ++ drop (i + count) (take len cells))) more ∙ ap (λ s. take i s.items ++ (take count c.args.more.now ++ drop (i + count) s.items)) c.self.view_is)
