use Rattle.std.proofs.Common.{◌∙◌, subst}
use Rattle.std.specs.Str.Parse.{ParsesUnsigned}
use Rattle.idtable_lines.proofs.ValueLemmas.{no_value, one_form, spelled_utf8, value_read}
use Rattle.idtable_lines.proofs.lines.value_in.Goals as goal

pub returns-then-not-has_one_form : goal.returns-then-not-has_one_form
returns-then-not-has_one_form c = no_value c.args.word.now (λ n s. let yes = c.has_one_form.ensures.1 (one_form c.args.word.now n s) in cc)

pub returns-in_default : goal.returns-in_default
returns-in_default c = no_value c.args.word.now (λ n s. c.in_default.ensures.cases.0 (spelled_utf8 c.args.word.now n s))

pub returns : goal.returns
returns c = c.ok.ensures.value ∙ value_read c.args.word.now c.parse.result (c.has_one_form.ensures.0 c.if-not-has_one_form.false) (subst (λ bs. ParsesUnsigned 64 10 bs c.parse.result) c.in-Ok.ensures.cases.0 c.parse.ensures.value.0)
