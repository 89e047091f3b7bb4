use Rattle.std.proofs.Common.{sym}
use Rattle.idtable_lines.specs.Parsed.{request_in}
use Rattle.idtable_lines.proofs.FormLemmas.{alone_unless}
use Rattle.idtable_lines.proofs.lines.alone.Goals as goal

pub returns-in-Some : goal.returns-in-Some
returns-in-Some c = rw c.in-Some.is (sym (alone_unless (request_in c.args.line) c.in-Some.field-0.now))
