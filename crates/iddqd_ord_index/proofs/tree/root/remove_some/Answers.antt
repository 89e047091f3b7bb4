use Rattle.std.proofs.Common.{◌≡◌, arith, ap, subst, ◌∙◌}
use Rattle.std.specs.List.{remove}
use Rattle.iddqd_ord_index.specs.NodeRemoval.{LosesPart}
use Rattle.iddqd_ord_index.proofs.PartLemmas.{none_gone, one_part}
use Rattle.iddqd_ord_index.proofs.tree.root.remove_some.Goals as goal

pub returns-clause-part : goal.returns-clause-part
returns-clause-part c =
    let old = c.args.root.now.slots in
    let none : c.cut-removed.result ≡ 0 = omega (arith, c.if-removed-gt0.false) in
    let same = none_gone c.args.at c.args.most old c.cut-removed.new.self.slots (subst (λ n. LosesPart c.args.at c.args.most n old c.cut-removed.new.self.slots) none c.cut-removed.ensures.part) in
    one_part c.args.at c.args.most old c.remove-levels.new.root.slots c.requires.some (omega (arith, c.requires.in_list, c.requires.some)) (c.remove-levels.ensures.slots ∙ ap (λ l. remove l c.args.at) same)
