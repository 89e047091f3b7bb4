use Rattle.std.proofs.Common.{◌≡◌, ◌+◌, length, ap, sym, ◌∙◌, arith, ltb}
use Rattle.iddqd_ord_index.specs.Nodes.{below}
use Rattle.iddqd_ord_index.specs.Shape.{levels, IsForked}
use Rattle.iddqd_ord_index.proofs.DenseLemmas.{dense_of}
use Rattle.iddqd_ord_index.proofs.HalfLemmas.{one_more_lower, one_more_upper, levels_of, forked_of, lower_all, upper_all, lists_join}
use Rattle.iddqd_ord_index.proofs.tree.node.insert.split_inner.Goals as goal

-- both halves have a branch more than slots
record AreHalves (c : goal.After-split) : Type 0 where
  lower : length (below c.split.new.self) ≡ length c.split_slots-top.new.slots.items + 1
  upper : length (below c.split.result) ≡ length c.split_slots-top.new.upper.items + 1
  lower_forked : IsForked (below c.split.new.self) c.split_slots-top.new.slots.items
  upper_forked : IsForked (below c.split.result) c.split_slots-top.new.upper.items
  lower_levels : levels (below c.split.new.self) ≡ levels (below c.args.branches.now)
  upper_levels : levels (below c.split.result) ≡ levels (below c.args.branches.now)

halves : (c : goal.After-split) → AreHalves c
halves c =
    let ts = below c.args.branches.now in
    let h = levels ts in
    let lo = below c.split.new.self in
    let up = below c.split.result in
    let a = lower_all ts lo up c.args.upper (c.args.i + 1) h c.split.ensures.below c.requires.forked.branches c.requires.upper in
    let b = upper_all ts lo up c.args.upper (c.args.i + 1) h c.split.ensures.below c.requires.forked.branches c.requires.upper in
    let n = c.split.ensures.lower ∙ (one_more_lower (ltb c.args.i 6) ∙ ap (λ n. n + 1) (sym c.split_slots-top.ensures.lower)) in
    let m = c.split.ensures.upper ∙ (one_more_upper (ltb c.args.i 6) ∙ ap (λ n. n + 1) (sym c.split_slots-top.ensures.upper)) in
    record {
      lower = n;
      upper = m;
      lower_forked = forked_of h lo c.split_slots-top.new.slots.items a n;
      upper_forked = forked_of h up c.split_slots-top.new.upper.items b m;
      lower_levels = levels_of h lo (omega arith) a;
      upper_levels = levels_of h up (omega arith) b;
    }

pub invariant_of-half : goal.invariant_of-half
invariant_of-half c = let h = halves c in record { branches = c.split.ensures.upper_branches; forked = h.upper_forked }

pub returns-clause-forked : goal.returns-clause-forked
returns-clause-forked c = let h = halves c in h.lower_forked

pub returns-clause-levels : goal.returns-clause-levels
returns-clause-levels c = let h = halves c in h.lower_levels

pub returns-clause-split : goal.returns-clause-split
returns-clause-split c =
    let h = halves c in
    let ts = below c.args.branches.now in
    record {
      slots = lists_join ts (below c.split.new.self) (below c.split.result) c.args.upper (c.args.i + 1) (levels ts) c.split.ensures.below c.requires.forked.branches c.requires.upper
          c.split_slots-top.new.slots.items c.split_slots-top.new.upper.items _ c.split_slots-top.result c.split_slots-top.ensures.items h.lower (omega (arith, h.upper));
      wide = c.split_slots-top.ensures.wide.0;
      upper_wide = c.split_slots-top.ensures.wide.1;
      upper_height = h.upper_levels ∙ sym h.lower_levels;
      upper_dense = dense_of (below c.split.result) c.split_slots-top.new.upper.items h.upper_forked;
    }
