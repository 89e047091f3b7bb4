-- Each branch of a node has fewer levels.
use Rattle.std.specs.Prelude.{ℕ, ◌+◌, ◌≤◌, List, [], ◌∷◌, All, Option, Some, None}
use Rattle.std.proofs.Common.{arith, Box, Global}
use Rattle.std.proofs.lemmas.List.Elements.{All-head, All-tail}
use Rattle.iddqd_ord_index.specs.Nodes.{IsNode, subtrees, below, cells_in}
use Rattle.iddqd_ord_index.specs.Shape.{levels, IsBranch}
use Rattle.iddqd_ord_index.specs.declared.tree.node.Block.{Block}
use Rattle.iddqd_ord_index.specs.declared.tree.node.Node.{Node}
use Rattle.iddqd_ord_index.specs.declared.tree.node.Node.TheInside.{Inside}
use Rattle.iddqd_ord_index.specs.declared.tree.node.Node.TheDeep.{deep-Node, deep-Block}
use Rattle.iddqd_ord_index.specs.declared.tree.node.Node.TheShapes.{weighed-Branches-block, weighed-Block-nodes-at-2}

abbrev weight : List (Option Node) → ℕ
weight os = weighed-Block-nodes-at-2.weight Node (λ y. y.height + 1) os

most_cells : (h : ℕ) (os : List (Option Node)) → All (IsBranch h) (subtrees os) → weight os ≤ h
most_cells h [] a = omega arith
most_cells h (None ∷ os) a = omega (arith, most_cells h os a)
most_cells h (Some b ∷ os) a =
    let k = All-head (IsBranch h) b (subtrees os) a in
    omega (arith, most_cells h os (All-tail (IsBranch h) b _ a), k.height)

most_block : (o : Option (Box Block Global)) → All (IsBranch (levels (subtrees (cells_in o)))) (subtrees (cells_in o)) → weighed-Branches-block.weight Block deep-Block o ≤ levels (subtrees (cells_in o))
most_block None a = omega arith
most_block (Some b) a = omega (arith, most_cells (levels (subtrees b.value.nodes)) b.value.nodes a)

pub falls : (n : Inside) → IsNode n → deep-Node n ≤ levels (below n.branches)
falls n h = omega (arith, most_block n.branches.block h.forked.branches)
