use Rattle.std.proofs.Common.{◌+◌, ◌-◌, ◌++◌, ◌∙◌, ℕ, length, take, is_some, refl, sym, ap, subst, arith, nat_eq}
use Rattle.std.proofs.lemmas.List.{append-nil, drop_all, length-take-le}
use Rattle.std.specs.List.{IsDistinct}
use Rattle.iddqd_store.specs.Store.{item_at}
use Rattle.iddqd_ord_index.proofs.IndexLemmas.{empty_run, unready}
use Rattle.iddqd_ord_index.proofs.OccupiedLemmas.{distinct_filter, few_filtered}
use Rattle.iddqd_ord_index.proofs.ord_index.OrdIndex.retain_occupied.Goals as goal

pub invariant_of-self : goal.invariant_of-self
invariant_of-self g c =
    let slots = c.self.inside.root.slots in
    let has = λ (slot : ℕ). is_some (item_at c.args.store.now slot) in
    let moved = c.move_occupied-kept in
    let kept = moved.result in
    let there = moved.new.root.slots in
    let e = c.remove_part-self-inside.ensures in
    let none = drop_all (kept + (c.self.inside.len - kept)) there (omega (arith, moved.ensures.len, c.self.invariant.len)) in
    let left = e.slots ∙ (ap (λ l. take kept there ++ l) none ∙ (append-nil (take kept there) ∙ moved.ensures.kept)) in
    let many = length-take-le kept there (omega (arith, moved.ensures.most, moved.ensures.len, c.self.invariant.len)) in
    record {
      each_once = subst (IsDistinct nat_eq) (sym left) (distinct_filter has nat_eq slots c.self.invariant.each_once);
      numbered = omega (arith, ap length left, few_filtered has slots, c.self.invariant.numbered);
      len = omega (arith, ap length left, many, ap length moved.ensures.kept);
      levels = e.levels;
      dense = e.dense;
      top = e.top;
      wanted = e.wanted;
      ready = λ t. unready _ refl t;
      cached = empty_run c.clear.new.self c.remove_part-self-inside.new.root.slots c.clear.ensures;
    }
