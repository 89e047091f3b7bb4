use Rattle.std.proofs.Common.{◌≡◌, ◌+◌, ◌<◌, ◌∷◌, length, set, get_or, subst, ap, ◌∙◌, arith, length-append}
use Rattle.std.proofs.lemmas.List.Edits.{length-remove, get_or-remove_below}
use Rattle.iddqd_ord_index.specs.Neighbours.{IsMerged}
use Rattle.iddqd_ord_index.specs.Nodes.{below, AreBranches}
use Rattle.iddqd_ord_index.specs.Shape.{unused}
use Rattle.iddqd_ord_index.proofs.BelowLemmas.{branches_put}
use Rattle.iddqd_ord_index.proofs.CellLemmas.{branch_in, changed_counts, changed_nodes}
use Rattle.iddqd_ord_index.proofs.tree.node.Branches.merge_at.Goals as goal

inside : (c : goal.After-set_count) → c.args.j < length (below c.remove-upper.new.self)
inside c =
    let n = length-remove (below c.args.self.now) (c.args.j + 1) c.requires.pair.within in
    omega (arith, c.requires.pair.within, ap length c.remove-upper.ensures.below)

-- the node in the cell is the branch that it was before the next was removed
lower_is : (c : goal.After-set_count) → c.unwrap-lower.result.now ≡ get_or (below c.remove-upper.new.self) c.args.j unused
lower_is c =
    branch_in c.remove-upper.new.self c.block_mut.result.now c.block_mut.ensures.block c.args.j c.remove-upper.ensures.branches (inside c) _ c.as_mut.ensures.value c.unwrap-lower.ensures

put : (c : goal.After-set_count) → AreBranches c.set_count.new.self × (below c.set_count.new.self ≡ set (below c.remove-upper.new.self) c.args.j c.merge-bare.new.self)
put c =
    let bs = c.remove-upper.new.self in
    let a = c.remove-upper.ensures.branches in
    let j = c.args.j in
    let count = c.count-len.result + c.remove-upper.result.1 + 1 in
    let m = c.merge-bare.ensures.merged.slots in
    branches_put bs c.set_count.new.self j count c.merge-bare.new.self a (inside c)
    (c.set_count.ensures.cells ∙ changed_nodes bs c.block_mut.result.now c.block_mut.ensures.block j c.merge-bare.new.self)
    (c.set_count.ensures.counts ∙ changed_counts bs c.block_mut.result.now c.block_mut.ensures.block j c.merge-bare.new.self count)
    (omega (arith, ap length m, length-append c.unwrap-lower.result.now.slots (c.args.middle ∷ c.remove-upper.result.0.slots), c.count-len.ensures, c.remove-upper.ensures.count, ap (λ t. length t.slots) (lower_is c)))

pub returns-clause-branches : goal.returns-clause-branches
returns-clause-branches c = (put c).0

pub returns-clause-merged : goal.returns-clause-merged
returns-clause-merged c =
    let b = get_or-remove_below (below c.args.self.now) (c.args.j + 1) unused c.args.j (omega arith) c.requires.pair.within in
    let l : c.unwrap-lower.result.now ≡ get_or (below c.args.self.now) c.args.j unused = lower_is c ∙ (ap (λ ts. get_or ts c.args.j unused) c.remove-upper.ensures.below ∙ b) in
    record {
      lower = c.merge-bare.new.self;
      merged = subst (λ a. IsMerged a c.args.middle (get_or (below c.args.self.now) (c.args.j + 1) unused) c.merge-bare.new.self) l
          (subst (λ b. IsMerged c.unwrap-lower.result.now c.args.middle b c.merge-bare.new.self) c.remove-upper.ensures.node c.merge-bare.ensures.merged);
      branches = (put c).1 ∙ ap (λ ts. set ts c.args.j c.merge-bare.new.self) c.remove-upper.ensures.below;
    }
