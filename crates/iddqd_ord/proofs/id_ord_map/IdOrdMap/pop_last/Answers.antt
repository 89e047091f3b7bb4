use Rattle.std.proofs.Common.{◌≡◌, ◌-◌, ◌∙◌, length, take, ap, arith}
use Rattle.std.proofs.lemmas.Grind.{common_steps}
use Rattle.iddqd_ord.proofs.EndLemmas.{remove_end}
use Rattle.iddqd_ord.proofs.id_ord_map.IdOrdMap.pop_last.Goals as goal

pub returns-clause-value : goal.returns-clause-value
returns-clause-value g c = grind (arith, common_steps)

pub returns-clause-items : goal.returns-clause-items
returns-clause-items g c = grind (arith, common_steps)

pub returns-clause-slots : goal.returns-clause-slots
returns-clause-slots g c =
    let slots = c.args.self.now.slots in
    let at = c.saturating_sub-last.result in
    let last : at ≡ length slots - 1 = omega (arith, c.saturating_sub-last.ensures, c.len.ensures.len, c.len.ensures.slots.as_many) in
    c.remove_index.ensures.slots ∙ (remove_end slots at (omega (arith, last)) ∙ ap (λ n. take n slots) last)
