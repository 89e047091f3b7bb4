use Rattle.std.proofs.Common.{rules}
use Rattle.idtable_lines.proofs.FormLemmas.{by_value_whole}
use Rattle.idtable_lines.proofs.lines.value_alone.Goals as goal

pub returns : goal.returns
returns c ask =
    let whole = by_value_whole ask c.in_ok-fields.field-0.now in
    search (rules, whole, c.value_in.ensures)
