use Rattle.std.proofs.Common.{◌∷◌, ◌++◌, ap, sym, ◌∙◌, arith}
use Rattle.std.proofs.lemmas.Grind.{common_steps}
use Rattle.std.specs.List.{insert}
use Rattle.iddqd_ord_index.specs.Nodes.{below}
use Rattle.iddqd_ord_index.specs.Shape.{lists, in_order}
use Rattle.iddqd_ord_index.proofs.BranchAtLemmas.{leaf_of, leaf_list, leaf_levels, leaf_forked}
use Rattle.iddqd_ord_index.proofs.DenseLemmas.{dense_of}
use Rattle.iddqd_ord_index.proofs.tree.node.Node.add_to_leaf.Goals as goal

pub returns-clause-adds : goal.returns-clause-adds
returns-clause-adds c =
    let z = leaf_of (below c.self.inside.branches) c.self.inside.slots.items c.self.invariant.forked (ap (λ t. t.height) c.self.view_is ∙ c.requires.leaf) in
    let u = c.half.view_is ∙ c.new-half.ensures in
    let y = leaf_of (below c.half.inside.branches) c.half.inside.slots.items c.half.invariant.forked (ap (λ t. t.height) u) in
    record {
      slots = ap (λ t. insert t.slots c.args.at c.args.slot) (sym c.self.view_is) ∙ (ap (λ l. insert l c.args.at c.args.slot) (leaf_list (below c.self.inside.branches) c.self.inside.slots.items z)
          ∙ (c.split_slots-middle.ensures.items
          ∙ (ap (λ l. l ++ c.split_slots-middle.result ∷ c.split_slots-middle.new.upper.items) (sym (leaf_list (below c.self.inside.branches) c.split_slots-middle.new.slots.items z))
          ∙ ap (λ l. in_order (lists (below c.self.inside.branches)) c.split_slots-middle.new.slots.items ++ c.split_slots-middle.result ∷ l) (sym (leaf_list (below c.half.inside.branches) c.split_slots-middle.new.upper.items y)))));
      wide = c.split_slots-middle.ensures.wide.0;
      upper_wide = c.split_slots-middle.ensures.wide.1;
      upper_height = leaf_levels (below c.half.inside.branches) y ∙ sym (leaf_levels (below c.self.inside.branches) z);
      upper_dense = dense_of (below c.half.inside.branches) c.split_slots-middle.new.upper.items (leaf_forked (below c.half.inside.branches) c.split_slots-middle.new.upper.items y);
    }

pub returns-then-len-lt-MOST_SLOTS-clause-dense : goal.returns-then-len-lt-MOST_SLOTS-clause-dense
returns-then-len-lt-MOST_SLOTS-clause-dense c = grind (arith, common_steps)

pub returns-clause-dense : goal.returns-clause-dense
returns-clause-dense c = grind (arith, common_steps)
