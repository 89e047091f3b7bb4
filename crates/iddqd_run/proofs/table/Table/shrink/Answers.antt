use Rattle.iddqd_run.proofs.ShownLemmas.{not_shrunk_answered, shrunk_answered}
use Rattle.iddqd_run.proofs.table.Table.shrink.Goals as goal
use Rattle.iddqd_run.proofs.table.Table.shrink.Goals.{in-Ok, in-Err}

pub returns : goal.returns
returns g c =
    let kind = g.M.ByName.kind in
    let items = (g.M.KeyedMap.state c.self.inside.map).items in
    let new = (g.M.KeyedMap.state c.shrink.new.self).items in
    rw (← c.self.view_is) (elim c.match-shrink.branch [
      | in-Ok w ↦ rw w.result-is (shrunk_answered kind items new c.shrink.ensures.shrinks.items)
      | in-Err w ↦ rw w.result-is (not_shrunk_answered kind items new c.shrink.ensures.shrinks.items)
    ])
