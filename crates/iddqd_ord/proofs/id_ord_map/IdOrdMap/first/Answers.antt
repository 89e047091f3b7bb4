use Rattle.std.proofs.Common.{◌∙◌, sym, ap, option_copied, slice_get}
use Rattle.std.specs.Option.{option_and_then}
use Rattle.iddqd_store.specs.Store.{item_at}
use Rattle.iddqd_ord_index.proofs.ListedLemmas.{get-listed}
use Rattle.iddqd_ord.proofs.id_ord_map.IdOrdMap.first.Goals as goal

pub returns-in_err-first : goal.returns-in_err-first
returns-in_err-first g c =
    let m = c.self.inside in
    ap option_copied c.from_residual.ensures
    ∙ sym (ap (option_and_then (item_at m.store)) (sym c.first.ensures ∙ c.in_err-first.was))
    ∙ sym (get-listed m.store m.index.slots c.self.invariant.occupied 0)
    ∙ ap (λ v. slice_get v.items 0) c.self.view_is

pub returns : goal.returns
returns g c =
    let m = c.self.inside in
    c.get.ensures
    ∙ sym (ap (option_and_then (item_at m.store)) (sym c.first.ensures ∙ c.in_ok-first.was))
    ∙ sym (get-listed m.store m.index.slots c.self.invariant.occupied 0)
    ∙ ap (λ v. slice_get v.items 0) c.self.view_is
