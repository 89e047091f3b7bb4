use Rattle.std.proofs.Common.{◌∙◌, sym, ap}
use Rattle.idtable_lines.specs.Parsed.{words_behind}
use Rattle.idtable_lines.specs.Lines.{request_of_words}
use Rattle.idtable_lines.proofs.FormLemmas.{unknown_word}
use Rattle.idtable_lines.proofs.lines.parse.Goals as goal

pub returns-in_default : goal.returns-in_default
returns-in_default c = sym (ap request_of_words c.first_word.ensures.words ∙ unknown_word c.first_word.result.0.now (words_behind c.first_word.result.1) c.in_default.ensures)
