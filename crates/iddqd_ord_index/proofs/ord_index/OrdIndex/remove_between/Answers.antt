use Rattle.std.proofs.Common.{◌+◌, ◌-◌, length, refl, sym, ap, subst, arith, nat_eq}
use Rattle.std.specs.List.{IsDistinct}
use Rattle.iddqd_store.proofs.DistinctLemmas.{distinct_remove}
use Rattle.iddqd_ord_index.proofs.IndexLemmas.{empty_run, unready}
use Rattle.iddqd_ord_index.proofs.PartLemmas.{leaf_part, part_length, without_part}
use Rattle.iddqd_ord_index.proofs.ord_index.OrdIndex.remove_between.Goals as goal

pub invariant_of-self : goal.invariant_of-self
invariant_of-self c =
    let slots = c.self.inside.root.slots in
    let from = c.from.inside.position in
    let count = c.to.inside.position - from in
    let e = c.remove_part-self-inside.ensures in
    let part = leaf_part from count count slots slots c.remove_part-self-inside.new.root.slots refl e.slots (omega arith)
    (omega (arith, c.from.view_is, c.to.view_is, c.requires.forward, c.requires.in_list, ap (λ i. length i.slots) c.self.view_is)) in
    let n = part_length from count count slots c.remove_part-self-inside.new.root.slots part in
    record {
      each_once = subst (IsDistinct nat_eq) (sym e.slots) (without_part (IsDistinct nat_eq) (distinct_remove nat_eq) from (from + count) slots (omega arith) c.self.invariant.each_once);
      numbered = omega (arith, n, c.self.invariant.numbered);
      len = omega (arith, n, c.self.invariant.len);
      levels = e.levels;
      dense = e.dense;
      top = e.top;
      wanted = e.wanted;
      ready = λ t. unready _ refl t;
      cached = empty_run c.clear.new.self c.remove_part-self-inside.new.root.slots c.clear.ensures;
    }
