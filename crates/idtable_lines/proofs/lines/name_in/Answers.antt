use Rattle.std.proofs.Common.{sym}
use Rattle.idtable_lines.proofs.NameLemmas.{name_utf8}
use Rattle.idtable_lines.proofs.lines.name_in.Goals as goal

pub unreachable-requires : goal.unreachable-requires
unreachable-requires c = c.in-Err.ensures.cases.0 (name_utf8 c.args.word.now (sym c.if-not-is_name_word.ensures))
