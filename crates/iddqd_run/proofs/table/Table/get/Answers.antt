use Rattle.iddqd_run.proofs.ShownLemmas.{get_found, get_absent}
use Rattle.iddqd_run.proofs.table.Table.get.Goals as goal

pub returns-in-Some : goal.returns-in-Some
returns-in-Some g c =
    rw (← c.self.view_is) (get_found g.M.ByName.kind c.args.name.now (g.M.KeyedMap.state c.self.inside.map).items c.in-Some.entry.now (rw (c.self.invariant.names, c.self.invariant.texts) at c.in-Some.ensures))

pub returns-in-None : goal.returns-in-None
returns-in-None g c =
    rw (← c.self.view_is) (get_absent g.M.ByName.kind c.args.name.now (g.M.KeyedMap.state c.self.inside.map).items (rw (c.self.invariant.names, c.self.invariant.texts) at c.in-None.ensures))
