use Rattle.std.proofs.Common.{◌∙◌, ap₂, ◌-◌}
use Rattle.iddqd_run.proofs.ShownLemmas.{kept_answered}
use Rattle.iddqd_run.proofs.table.Table.keep.Goals as goal

pub returns : goal.returns
returns g c =
    rw (← c.self.view_is) (λ entries shows. kept_answered g.M.ByName.kind c.args.value (g.M.KeyedMap.state c.self.inside.map).items (g.M.KeyedMap.state c.keep.new.self).items c.keep.ensures.items entries shows c.len-kept.result c.saturating_sub.result c.len-kept.ensures.len (c.saturating_sub.ensures ∙ ap₂ (λ m n. m - n) c.len-before.ensures.len c.len-kept.ensures.len))
