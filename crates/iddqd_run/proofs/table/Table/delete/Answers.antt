use Rattle.iddqd_run.proofs.ShownLemmas.{delete_found, delete_absent}
use Rattle.iddqd_run.proofs.table.Table.delete.Goals as goal
use Rattle.iddqd_run.proofs.table.Table.delete.Goals.{in-Some, in-None}

pub returns : goal.returns
returns g c =
    let kind = g.M.ByName.kind in
    let items = (g.M.KeyedMap.state c.self.inside.map).items in
    let left = rw (c.self.invariant.names, c.self.invariant.texts) at c.take_out.ensures.items in
    rw (← c.self.view_is) (elim c.match-take_out.branch [
      | in-Some w ↦ rw w.result-is (delete_found kind c.args.name.now items _ left w.in-Some.entry (rw (c.self.invariant.names, c.self.invariant.texts) at w.in-Some.ensures.value))
      | in-None w ↦ rw w.result-is (delete_absent kind c.args.name.now items _ left (rw (c.self.invariant.names, c.self.invariant.texts) at w.in-None.ensures.value))
    ])
