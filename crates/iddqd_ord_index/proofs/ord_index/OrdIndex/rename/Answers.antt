use Rattle.std.proofs.Common.{length, length-set, refl, sym, ap, subst, ◌∙◌, arith, nat_eq, slice_set}
use Rattle.iddqd_ord_index.specs.Listed.{unprepared}
use Rattle.std.specs.List.{Contains, IsDistinct}
use Rattle.iddqd_ord_index.proofs.IndexLemmas.{empty_run, once_set, unready}
use Rattle.iddqd_ord_index.proofs.PartLemmas.{written_set}
use Rattle.iddqd_ord_index.proofs.ord_index.OrdIndex.rename.Goals as goal

pub invariant_of-self : goal.invariant_of-self
invariant_of-self c =
    let slots = c.self.inside.root.slots in
    let at = c.place.inside.position in
    let absent : ¬ Contains slots c.args.new = subst (λ i. ¬ Contains i.slots c.args.new) (sym c.self.view_is) c.requires.absent in
    let e = written_set at c.write.result c.args.new slots c.write.new.self.slots c.write.ensures.slots (omega (arith, c.write.ensures.some, c.write.ensures.most)) in
    let n = length-set slots at c.args.new in
    record {
      each_once = subst (λ l. IsDistinct nat_eq l) (sym e) (once_set slots c.self.invariant.each_once at c.args.new absent);
      numbered = omega (arith, ap length e, c.self.invariant.numbered);
      len = omega (arith, ap length e, c.self.invariant.len);
      levels = omega (arith, c.write.ensures.height, c.self.invariant.levels);
      dense = c.write.ensures.dense;
      top = λ lt. omega (arith, c.write.ensures.height, c.write.ensures.width, c.self.invariant.top (omega (arith, c.write.ensures.height)));
      wanted = c.self.invariant.wanted;
      ready = λ t. unready _ refl t;
      cached = empty_run c.clear.new.self c.write.new.self.slots c.clear.ensures;
    }

pub returns : goal.returns
returns c =
    let slots = c.self.inside.root.slots in
    let e = written_set c.place.inside.position c.write.result c.args.new slots c.write.new.self.slots c.write.ensures.slots (omega (arith, c.write.ensures.some, c.write.ensures.most)) in
    ap unprepared (e ∙ (ap (λ n. slice_set slots n c.args.new) c.place.view_is ∙ ap (λ i. slice_set i.slots c.args.place c.args.new) c.self.view_is))
