use Rattle.std.proofs.Common.{◌∙◌, ap, sym, arith}
use Rattle.iddqd_ord_index.specs.Shape.{unused}
use Rattle.iddqd_ord_index.proofs.LeafLemmas.{leaf_is, leaf_present}
use Rattle.iddqd_ord_index.proofs.tree.node.walk.leaf_at.Goals as goal

pub unreachable-requires : goal.unreachable-requires
unreachable-requires c =
    leaf_present c.args.leaves.now c.args.i _ c.requires.leaves.present c.requires.in_bounds c.index-leaves-i.is c.in-None.is

pub leaf_slots-requires : goal.leaf_slots-requires
leaf_slots-requires c =
    let is = leaf_is c.args.leaves.now c.args.i _ c.in-Some.leaf c.requires.leaves.present c.requires.in_bounds c.index-leaves-i.is c.in-Some.is in
    ap (λ t. t.height) (sym is) ∙ c.requires.leaves.low c.args.i unused (omega (arith, c.requires.leaves.present, c.requires.in_bounds))

pub returns : goal.returns
returns c =
    let is = leaf_is c.args.leaves.now c.args.i _ c.in-Some.leaf c.requires.leaves.present c.requires.in_bounds c.index-leaves-i.is c.in-Some.is in
    c.leaf_slots.ensures ∙ ap (λ t. t.slots) (sym is)
