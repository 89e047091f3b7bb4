use Rattle.std.proofs.Common.{◌+◌, ◌≤◌, ◌∙◌, drop, take, length, ap, sym, arith, take_all}
use Rattle.std.proofs.lemmas.List.{drop-take, take-take}
use Rattle.iddqd_ord_index.proofs.BackLemmas.{none_ends}
use Rattle.iddqd_ord_index.proofs.RunLemmas.{length-window}
use Rattle.iddqd_ord_index.proofs.ord_index.walk.Walk.truncate.Goals as goal

pub invariant_of-self : goal.invariant_of-self
invariant_of-self c =
    let w = c.self.inside in
    let fits : w.next + c.args.len ≤ length w.root.now.slots = omega (arith, c.if-len-left.true, c.self.invariant.1) in
    (omega arith, fits, c.self.invariant.2, none_ends c.along-self-inside.result (take (w.next + c.args.len) w.root.now.slots) c.along-self-inside.ensures)

pub returns-then-len-left : goal.returns-then-len-left
returns-then-len-left c =
    let w = c.self.inside in
    let all = w.root.now.slots in
    let shorter : w.next + c.args.len ≤ w.end = omega (arith, c.if-len-left.true) in
    ap (drop w.next) (sym (take-take (w.next + c.args.len) w.end all shorter))
    ∙ (drop-take w.next c.args.len (take w.end all) ∙ ap (take c.args.len) c.self.view_is)

pub returns-else-len-left : goal.returns-else-len-left
returns-else-len-left c =
    let w = c.self.inside in
    sym (take_all c.args.len c.args.self.now (omega (arith, c.if-len-left.false, ap length c.self.view_is, length-window w.root.now.slots w.next w.end c.self.invariant.1)))
