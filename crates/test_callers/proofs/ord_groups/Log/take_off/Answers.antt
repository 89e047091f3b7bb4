use Rattle.std.proofs.Common.{nat_lt, refl, ◌∙◌}
use Rattle.iddqd.proofs.ChangeLemmas.{kept_in_place}
use Rattle.test_callers.specs.Groups.{taken_off}
use Rattle.test_callers.specs.declared.items.TakesOff.{TakesOff}
use Rattle.test_callers.proofs.ord_groups.Log.take_off.Goals as goal

pub returns : goal.returns
returns c =
    let visitor : TakesOff = record { off = c.args.off } in
    record { kept = rw (← c.self.view_is) (c.retain_mut.ensures.items ∙ kept_in_place _ visitor (taken_off c.args.off) (λ e. nat_lt c.args.off e.took) (λ e. refl) _) }
