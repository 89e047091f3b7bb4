use Rattle.idtable_lines.specs.Lines.{paired_request, pairs_of, words_of}
use Rattle.iddqd_run.specs.declared.entries.LineReply.TheVariants.{Bad}
use Rattle.iddqd_run.proofs.AddAllLemmas.{bad_told, making_told}
use Rattle.iddqd_run.proofs.ReplyLemmas.{written}
use Rattle.iddqd_run.proofs.table.Table.add_all.Goals as goal

pub returns-in-Ok-None : goal.returns-in-Ok-None
returns-in-Ok-None g c =
    let kind = g.M.ByName.kind in
    let items = c.args.self.now in
    let pairs = pairs_of (words_of c.args.fields.now) in
    written kind (paired_request pairs) items items Bad c.args.text.now c.write_reply.new.text c.write_reply.result
    (bad_told kind items pairs (rw c.in-Ok-None.field-0-is at c.in-Ok-None.ensures)) c.write_reply.ensures.refusals c.write_reply.ensures.line

pub returns-in-Err : goal.returns-in-Err
returns-in-Err g c =
    let kind = g.M.ByName.kind in
    let items = c.args.self.now in
    let fields = c.args.fields.now in
    written kind (paired_request (pairs_of (words_of fields))) items items c.not_made.result c.args.text.now c.write_reply-in-Err.new.text c.write_reply-in-Err.result
    (making_told kind items fields c.not_made.result c.not_made.ensures) c.write_reply-in-Err.ensures.refusals c.write_reply-in-Err.ensures.line
