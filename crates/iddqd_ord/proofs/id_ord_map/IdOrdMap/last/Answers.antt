use Rattle.std.proofs.Common.{◌-◌, ◌∙◌, length, sym, ap, option_copied, slice_get}
use Rattle.std.specs.Option.{option_and_then}
use Rattle.iddqd_store.specs.Store.{item_at}
use Rattle.iddqd_ord.proofs.EndLemmas.{last_listed}
use Rattle.iddqd_ord.proofs.id_ord_map.IdOrdMap.last.Goals as goal

pub returns-in_err-last : goal.returns-in_err-last
returns-in_err-last g c =
    let m = c.self.inside in
    ap option_copied c.from_residual.ensures
    ∙ sym (ap (option_and_then (item_at m.store)) (sym c.last.ensures ∙ c.in_err-last.was))
    ∙ sym (last_listed m.store m.index.slots c.self.invariant.occupied)
    ∙ ap (λ v. slice_get v.items (length v.items - 1)) c.self.view_is

pub returns : goal.returns
returns g c =
    let m = c.self.inside in
    c.get.ensures
    ∙ sym (ap (option_and_then (item_at m.store)) (sym c.last.ensures ∙ c.in_ok-last.was))
    ∙ sym (last_listed m.store m.index.slots c.self.invariant.occupied)
    ∙ ap (λ v. slice_get v.items (length v.items - 1)) c.self.view_is
