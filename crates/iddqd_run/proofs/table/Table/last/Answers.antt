use Rattle.std.proofs.Common.{◌∙◌, ◌-◌, ap, length, slice_get, subst}
use Rattle.iddqd_run.specs.Shown.{HasEnds}
use Rattle.iddqd_run.proofs.EndLemmas.{last_answered}
use Rattle.iddqd_run.proofs.table.Table.last.Goals as goal

pub returns-in-Ok : goal.returns-in-Ok
returns-in-Ok g c =
    rw (← c.self.view_is) (let same = c.self.invariant.items c.self.inside.map in
    last_answered g.M.ByName.kind (g.M.KeyedMap.state c.self.inside.map).items (subst (HasEnds g.M.ByName.kind) same c.in-Ok.ensures.ordered) _ c.end_reply.result c.end_reply.ensures.text c.end_reply.ensures.plain
    (c.in-Ok.ensures.found ∙ ap (λ items. slice_get items (length items - 1)) same))
