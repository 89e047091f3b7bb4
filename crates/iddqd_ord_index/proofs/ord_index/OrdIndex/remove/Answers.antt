use Rattle.std.proofs.Common.{◌<◌, Some, length, refl, sym, ap, subst, ◌∙◌, arith}
use Rattle.std.proofs.lemmas.List.Edits.{length-remove}
use Rattle.std.proofs.lemmas.Option.{slice_get-get_or}
use Rattle.std.specs.List.{slice_get, IsDistinct}
use Rattle.std.proofs.Common.{nat_eq}
use Rattle.iddqd_ord_index.specs.Runs.{IsRunOf}
use Rattle.iddqd_ord_index.proofs.IndexLemmas.{once_remove, unready}
use Rattle.iddqd_ord_index.proofs.ord_index.OrdIndex.remove.Goals as goal

pub invariant_of-self : goal.invariant_of-self
invariant_of-self c =
    let slots = c.self.inside.root.slots in
    let at = c.place.inside.position in
    let within : at < length slots = omega (arith, ap (λ i. length i.slots) c.self.view_is, c.place.view_is, c.requires) in
    let e = c.remove-slot.ensures.slots in
    let n = length-remove slots at within in
    record {
      each_once = subst (λ l. IsDistinct nat_eq l) (sym e) (once_remove slots c.self.invariant.each_once at);
      numbered = omega (arith, ap length e, c.self.invariant.numbered);
      len = omega (arith, ap length e, c.self.invariant.len);
      levels = c.remove-slot.ensures.levels;
      dense = c.remove-slot.ensures.dense;
      top = c.remove-slot.ensures.top;
      wanted = c.remove-slot.ensures.wanted;
      ready = λ t. unready _ refl t;
      cached = subst (IsRunOf c.remove.new.self) (sym e) (c.remove.ensures slots within c.self.invariant.cached);
    }

pub returns-clause-slot : goal.returns-clause-slot
returns-clause-slot c =
    let slots = c.self.inside.root.slots in
    let at = c.place.inside.position in
    let within : at < length slots = omega (arith, ap (λ i. length i.slots) c.self.view_is, c.place.view_is, c.requires) in
    ap (λ i. slice_get i.slots c.args.place) (sym c.self.view_is) ∙ (ap (slice_get slots) (sym c.place.view_is) ∙ (slice_get-get_or slots at 0 within ∙ ap Some (sym c.remove-slot.ensures.slot)))
