use Rattle.std.proofs.Common.{◌≡◌, ◌<◌, ◌≤◌, length, refl, sym, ap, subst, ◌∙◌, arith, nat_eq}
use Rattle.std.specs.List.{IsDistinct}
use Rattle.iddqd_ord_index.specs.Shape.{IsDense}
use Rattle.iddqd_ord_index.proofs.IndexLemmas.{empty_run, unready}
use Rattle.iddqd_ord_index.proofs.ord_index.OrdIndex.try_clone.Goals as goal

pub invariant_of-result : goal.invariant_of-result
invariant_of-result c =
    let same : c.in-Ok.root ≡ c.self.inside.root = c.in-Ok.ensures in
    let old = c.self.invariant in
    record {
      each_once = subst (λ r. IsDistinct nat_eq r.slots) (sym same) old.each_once;
      numbered = omega (arith, ap (λ r. length r.slots) same, old.numbered);
      len = old.len ∙ ap (λ r. length r.slots) (sym same);
      levels = old.levels ∙ ap (λ r. r.height) (sym same);
      dense = subst IsDense (sym same) old.dense;
      top = subst (λ r. 1 < r.height → 1 ≤ r.width) (sym same) old.top;
      wanted = λ _. (c.in-Ok-wanting.ensures.0, omega (arith, c.in-Ok-wanting.ensures.1));
      ready = λ t. unready _ refl t;
      cached = empty_run c.new.result c.in-Ok.root.slots c.new.ensures;
    }
