use Rattle.std.proofs.Common.{◌≡◌, ◌+◌, ◌∷◌, ◌++◌, length, ap, sym, ◌∙◌, refl, arith, append_assoc, []}
use Rattle.iddqd_ord_index.specs.Nodes.{below}
use Rattle.iddqd_ord_index.specs.Shape.{lists, in_order, levels}
use Rattle.iddqd_ord_index.proofs.BelowLemmas.{has_block}
use Rattle.iddqd_ord_index.proofs.BranchAtLemmas.{inner_of}
use Rattle.iddqd_ord_index.proofs.PairLemmas.{IsJoined, merged}
use Rattle.iddqd_ord_index.proofs.tree.node.Node.merge.Goals as goal

made : (c : goal.Joined-upper) → IsJoined (levels (below c.self.inside.branches)) (below c.append.new.self) c.extend_from_slice.new.self.items
    (in_order (lists (below c.self.inside.branches)) c.self.inside.slots.items ++ c.args.middle ∷ in_order (lists (below c.upper.inside.branches)) c.upper.inside.slots.items)
made c =
    merged (levels (below c.self.inside.branches)) (below c.self.inside.branches) (below c.upper.inside.branches) c.self.inside.slots.items c.upper.inside.slots.items c.args.middle
    c.self.invariant.forked c.upper.invariant.forked refl (ap (λ t. t.height) c.upper.view_is ∙ (sym c.requires.pair.height ∙ sym (ap (λ t. t.height) c.self.view_is)))
    (below c.append.new.self) c.extend_from_slice.new.self.items c.append.ensures.below
    (c.extend_from_slice.ensures.items ∙ (ap (λ l. c.push.new.self.items ++ l) c.as_slice.ensures.value ∙ (ap (λ l. l ++ c.upper.inside.slots.items) c.push.ensures.items ∙ append_assoc c.self.inside.slots.items (c.args.middle ∷ []) c.upper.inside.slots.items)))

pub returns-clause-merged : goal.returns-clause-merged
returns-clause-merged c =
    let i = made c in
    let h = ap (λ t. t.height) c.self.view_is in
    record {
      slots = i.list ∙ (ap (λ t. t.slots ++ c.args.middle ∷ in_order (lists (below c.upper.inside.branches)) c.upper.inside.slots.items) c.self.view_is ∙ ap (λ t. c.args.self.now.slots ++ c.args.middle ∷ t.slots) c.upper.view_is);
      lower_branch = record {
        height = ap (λ n. n + 1) (i.height ∙ h);
        wide = omega (arith, c.requires.pair.other, ap (λ t. t.width) c.self.view_is, ap (λ t. t.width) c.upper.view_is, c.push.ensures.len, c.extend_from_slice.ensures.len, ap length c.as_slice.ensures.value);
        dense = i.dense;
      };
    }

pub returns-clause-some : goal.returns-clause-some
returns-clause-some c = λ high.
    let up = c.upper.inside.branches in
    let h : levels (below up) ≡ c.args.self.now.height = ap (λ t. t.height) c.upper.view_is ∙ sym c.requires.pair.height in
    c.take_block.ensures.some (c.append.ensures.upper_block (has_block up (inner_of (below up) (omega (arith, h)))))

pub invariant_of-self : goal.invariant_of-self
invariant_of-self c = record { branches = c.append.ensures.branches; forked = (made c).forked }
