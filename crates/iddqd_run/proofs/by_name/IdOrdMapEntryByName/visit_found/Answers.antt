use Rattle.std.proofs.Common.{rules}
use Rattle.iddqd_run.proofs.by_name.IdOrdMapEntryByName.visit_found.Goals as goal

pub returns-clause-visited : goal.returns-clause-visited
returns-clause-visited g c =
    let written = c.in_ok-found.ensures.written c.visit-answer.new.item in
    (c.deref_mut.result.now, c.visit-answer.new.item, search rules, c.visit-answer.ensures, search rules)
