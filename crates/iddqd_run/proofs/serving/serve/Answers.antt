use Rattle.std.proofs.Common.{rules, string_bytes}
use Rattle.std.proofs.Math.Seq.{take-length}
use Rattle.iddqd_run.proofs.serving.serve.Goals as goal

-- the whole text is out
pub returns-then-is_err-clause-begun : goal.returns-then-is_err-clause-begun
returns-then-is_err-clause-begun g c = λ _. let text = string_bytes c.in-Ok.text in (c.in-Ok.refusals, text, search rules, (text, take-length text, search rules))

pub returns-in_err-write_whole-clause-begun : goal.returns-in_err-write_whole-clause-begun
returns-in_err-write_whole-clause-begun g c = search rules

pub returns-clause-answered : goal.returns-clause-answered
returns-clause-answered g c = search rules
