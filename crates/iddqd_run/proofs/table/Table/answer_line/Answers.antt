use Rattle.std.proofs.Common.{refl}
use Rattle.idtable_lines.specs.Lines as request
use Rattle.idtable_lines.specs.Parsed.{request_asked}
use Rattle.iddqd_run.specs.declared.entries.LineReply.TheVariants as reply
use Rattle.iddqd_run.proofs.ReplyLemmas.{written}
use Rattle.iddqd_run.proofs.table.Table.answer_line.Goals as goal

pub returns-in-Request : goal.returns-in-Request
returns-in-Request g c =
    rw c.in-Request.is (written g.M.ByName.kind (request_asked c.in-Request.request) c.args.self.now c.reply_to.new.self c.reply_to.result c.args.text.now c.write_reply.new.text c.write_reply.result
    c.reply_to.ensures c.write_reply.ensures.refusals c.write_reply.ensures.line)

pub returns-in-AddAll : goal.returns-in-AddAll
returns-in-AddAll g c =
    rw c.in-AddAll.is c.add_all.ensures

pub returns-in-List : goal.returns-in-List
returns-in-List g c =
    rw c.in-List.is c.list.ensures

pub returns-in-End : goal.returns-in-End
returns-in-End g c =
    rw c.in-End.is c.at_end.ensures

pub returns-in-Bad : goal.returns-in-Bad
returns-in-Bad g c =
    let items = c.args.self.now in
    rw c.in-Bad.is (written g.M.ByName.kind request.Bad items items reply.Bad c.args.text.now c.write_reply-in-Bad.new.text c.write_reply-in-Bad.result (λ entries shows. record { text = refl; after = shows }) c.write_reply-in-Bad.ensures.refusals c.write_reply-in-Bad.ensures.line)
