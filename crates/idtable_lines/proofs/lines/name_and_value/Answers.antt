use Rattle.std.proofs.Common.{rules}
use Rattle.idtable_lines.proofs.FormLemmas.{by_named_rest}
use Rattle.idtable_lines.proofs.lines.name_and_value.Goals as goal

pub returns : goal.returns
returns c ask =
    let whole = by_named_rest ask c.first_word.result.0.now c.in_ok-value.field-0.now (search rules) in
    search (rules, whole)

pub returns-in_err-value-2 : goal.returns-in_err-value-2
returns-in_err-value-2 c ask =
    let whole = by_named_rest ask c.first_word.result.0.now c.in_ok-value.field-0.now (search rules) in
    search (rules, whole)
