use Rattle.std.proofs.Common.{◌≤◌, IsTrue, length, refl, sym, ap, subst, arith}
use Rattle.std.proofs.lemmas.List.Edits.{length-insert}
use Rattle.std.specs.List.{Contains, IsDistinct}
use Rattle.std.proofs.Common.{nat_eq}
use Rattle.iddqd_ord_index.proofs.HeightLemmas.{height_most}
use Rattle.iddqd_ord_index.proofs.IndexLemmas.{empty_run, once_insert, unready}
use Rattle.iddqd_ord_index.proofs.ord_index.OrdIndex.add_prepared.Goals as goal

pub add-self-inside-requires-clause-low : goal.add-self-inside-requires-clause-low
add-self-inside-requires-clause-low c = omega (arith, height_most c.self.inside.root c.self.invariant.dense c.self.invariant.top (omega (arith, c.self.invariant.numbered)), c.self.invariant.levels)

pub invariant_of-self : goal.invariant_of-self
invariant_of-self c =
    let slots = c.self.inside.root.slots in
    let at = c.place.inside.position in
    let ready = c.self.invariant.ready (subst (λ i. IsTrue i.prepared) (sym c.self.view_is) c.requires.prepared) in
    let absent : ¬ Contains slots c.args.slot = subst (λ i. ¬ Contains i.slots c.args.slot) (sym c.self.view_is) c.requires.absent in
    let within : at ≤ length slots = omega (arith, ap (λ i. length i.slots) c.self.view_is, c.place.view_is, c.requires.in_list) in
    let e = c.add-self-inside.ensures.slots in
    let n = length-insert slots at c.args.slot within in
    record {
      each_once = subst (λ l. IsDistinct nat_eq l) (sym e) (once_insert slots c.self.invariant.each_once at c.args.slot absent);
      numbered = omega (arith, ap length e, ready.0);
      len = omega (arith, ap length e, c.self.invariant.len);
      levels = c.add-self-inside.ensures.levels;
      dense = c.add-self-inside.ensures.dense;
      top = c.add-self-inside.ensures.top;
      wanted = λ lt. (ap (λ s. s.wanted) c.want.ensures, omega (arith, ap (λ s. s.room) c.want.ensures, c.add-self-inside.ensures.pool.1, c.add-self-inside.ensures.higher, ready.2));
      ready = λ t. unready _ refl t;
      cached = empty_run c.clear.new.self c.add-self-inside.new.root.slots c.clear.ensures;
    }
