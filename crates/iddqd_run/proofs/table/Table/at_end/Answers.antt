use Rattle.idtable_lines.specs.Lines as request
use Rattle.iddqd_run.proofs.ReplyLemmas.{written}
use Rattle.iddqd_run.proofs.table.Table.at_end.Goals as goal

pub returns-in-First : goal.returns-in-First
returns-in-First g c =
    let items = c.args.self.now in
    rw c.in-First.is (written g.M.ByName.kind request.First items items c.first.result c.args.text.now c.write_reply.new.text c.write_reply.result c.first.ensures c.write_reply.ensures.refusals c.write_reply.ensures.line)

pub returns-in-Last : goal.returns-in-Last
returns-in-Last g c =
    let items = c.args.self.now in
    rw c.in-Last.is (written g.M.ByName.kind request.Last items items c.last.result c.args.text.now c.write_reply-in-Last.new.text c.write_reply-in-Last.result c.last.ensures c.write_reply-in-Last.ensures.refusals c.write_reply-in-Last.ensures.line)

pub returns-in-PopFirst : goal.returns-in-PopFirst
returns-in-PopFirst g c =
    rw c.in-PopFirst.is c.pop_first.ensures

pub returns-in-PopLast : goal.returns-in-PopLast
returns-in-PopLast g c =
    rw c.in-PopLast.is c.pop_last.ensures
