use Rattle.std.proofs.Common.{rules}
use Rattle.idtable_lines.proofs.FormLemmas.{by_pairs_whole}
use Rattle.idtable_lines.proofs.lines.by_word.Goals as goal

pub returns-in_ok-fields-in-addall : goal.returns-in_ok-fields-in-addall
returns-in_ok-fields-in-addall c =
    let whole = by_pairs_whole c.in_ok-fields-in-addall.field-0.now in
    search (rules, whole)

pub returns-in_ok-name_and_value-in-set : goal.returns-in_ok-name_and_value-in-set
returns-in_ok-name_and_value-in-set c = search rules
