use Rattle.iddqd_run.proofs.ShownLemmas.{len_answered}
use Rattle.iddqd_run.proofs.table.Table.len.Goals as goal

pub returns : goal.returns
returns g c =
    rw (← c.self.view_is) (len_answered g.M.ByName.kind (g.M.KeyedMap.state c.self.inside.map).items c.len.result c.len.ensures.len)
