-- A branch that is borrowed in its cell, in the block that the branches lie in.
--     nodes_written, counts_written, block_written      the branches in another block
--     block_read, below_read      those in the block that was read
--     branches_with      the branches with another one in the cell
--     cell_full      the cell is not empty
--     node_in, branch_in      the node in the cell is the branch
--     counted, changed_nodes, changed_counts      the cells and counts with another branch
--     kept      a branch with as many slots is in the place of another one
use Rattle.std.proofs.Common.{◌≡◌, ℕ, ◌<◌, IsSome, IsSomeAnd, is_some, length, set, get_or, ap, sym, ◌∙◌, refl, subst, arith, Option, Some, None, Box, Global}
use Rattle.std.proofs.lemmas.List.{set-get_or}
use Rattle.std.specs.Borrow.{MutBor}
use Rattle.std.specs.Box.{with_value}
use Rattle.std.specs.Option.{option_copied_mut, option_map}
use Rattle.iddqd_ord_index.specs.Nodes.{below, cells_in, counts_in, counts_of, nodes_of, subtrees, with_block, AreBranches, AreCounted, IsBlock, IsBlockOf}
use Rattle.iddqd_ord_index.specs.Shape.{unused}
use Rattle.iddqd_ord_index.specs.declared.tree.node.Block.{Block}
use Rattle.iddqd_ord_index.specs.declared.tree.node.Branches.{Branches}
use Rattle.iddqd_ord_index.specs.declared.tree.node.Node.{Node}
use Rattle.iddqd_ord_index.proofs.BelowLemmas.{branches_put, count_at, counted_length}
use Rattle.iddqd_ord_index.proofs.PackedLemmas.{cell_is}

-- the branches in the block that was read, with this node in the i-th cell
abbrev pub branches_with : Branches → Block → ℕ → Node → Branches
branches_with bs read i node = with_block bs (record read { nodes = set read.nodes i (Some node) })

own_block : (o : Option (Box Block Global)) (read : Block) → IsSomeAnd o (λ own. read ≡ own.value) → (own : Box Block Global) × (o ≡ Some own) × (read ≡ own.value)
own_block None read h = absurd h
own_block (Some own) read h = (own, refl, h)

module _ (bs : Branches) (read : Block) (h : IsBlockOf bs read) where
  own : (own : Box Block Global) × (bs.block ≡ Some own) × (read ≡ own.value)
  own = own_block bs.block read h

  -- the branches in another block in the place of theirs
  pub nodes_written : (b : Block) → nodes_of (with_block bs b) ≡ b.nodes
  nodes_written b = ap (λ o. cells_in (option_map (λ x. with_value x b) o)) own.1

  pub counts_written : (b : Block) → counts_of (with_block bs b) ≡ b.counts.items
  counts_written b = ap (λ o. counts_in (option_map (λ x. with_value x b) o)) own.1

  pub block_written : (b : Block) → IsBlock b → AreBranches (with_block bs b)
  block_written b k = subst (λ ns. AreCounted (nodes_of (with_block bs b)) ns) (sym (counts_written b)) (subst (λ os. AreCounted os b.counts.items) (sym (nodes_written b)) k)

  same_nodes : read.nodes ≡ nodes_of bs
  same_nodes = ap (λ b. b.nodes) own.2 ∙ sym (ap cells_in own.1)

  same_counts : read.counts.items ≡ counts_of bs
  same_counts = ap (λ b. b.counts.items) own.2 ∙ sym (ap counts_in own.1)

  pub block_read : AreBranches bs → IsBlock read
  block_read a = subst IsBlock (sym own.2) (subst (λ o. AreCounted (cells_in o) (counts_in o)) own.1 a)

  pub below_read : below bs ≡ subtrees read.nodes
  below_read = ap subtrees (sym same_nodes)

  module _ (i : ℕ) where
    pub changed_nodes : (node : Node) → nodes_of (branches_with bs read i node) ≡ set (nodes_of bs) i (Some node)
    changed_nodes node = nodes_written (record read { nodes = set read.nodes i (Some node) }) ∙ ap (λ l. set l i (Some node)) same_nodes

    pub same_counted : (node : Node) → counts_of (branches_with bs read i node) ≡ counts_of bs
    same_counted node = counts_written (record read { nodes = set read.nodes i (Some node) }) ∙ same_counts

    pub changed_counts : (node : Node) (count : ℕ) → set (counts_of (branches_with bs read i node)) i count ≡ set (counts_of bs) i count
    changed_counts node count = ap (λ l. set l i count) (same_counted node)

    module _ (a : AreBranches bs) (lt : i < length (below bs)) where
      in_read : i < length (subtrees read.nodes)
      in_read = omega (arith, lt, ap length below_read)

      cell : (o : Option Node) → get_or read.nodes i o ≡ Some (get_or (subtrees read.nodes) i unused)
      cell o = cell_is read.nodes i o unused (block_read a).packed in_read

      pub cell_full : (o : Option Node) (r : Option (MutBor Node)) → is_some r ≡ is_some (get_or read.nodes i o) → IsSome r
      cell_full o r e = e ∙ ap is_some (cell o)

      pub node_in : (o : Option Node) (node : Node) → get_or read.nodes i o ≡ Some node → node ≡ get_or (below bs) i unused
      node_in o node e =
          let s : Some node ≡ Some (get_or (subtrees read.nodes) i unused) = sym e ∙ cell o in
          let f : node ≡ get_or (subtrees read.nodes) i unused = cc in
          f ∙ sym (ap (λ ts. get_or ts i unused) below_read)

      pub branch_in : (o : Option Node) {r : Option (MutBor Node)} {x : MutBor Node} → option_copied_mut r ≡ get_or read.nodes i o → r ≡ Some x → x.now ≡ get_or (below bs) i unused
      branch_in o {r} {x} e is = node_in o x.now (sym e ∙ ap option_copied_mut is)

      pub counted : (node : Node) → i < length (counts_of (branches_with bs read i node))
      counted node = omega (arith, in_read, counted_length read.nodes read.counts.items (block_read a), ap length (same_counted node), ap length same_counts)

      pub kept : (node : Node) → length node.slots ≡ length (get_or (below bs) i unused).slots
          → AreBranches (branches_with bs read i node) × (below (branches_with bs read i node) ≡ set (below bs) i node)
      kept node e =
          let c = length (get_or (below bs) i unused).slots in
          let n : counts_of (branches_with bs read i node) ≡ set (counts_of bs) i c = same_counted node ∙ sym (ap (λ x. set (counts_of bs) i x) (sym (count_at bs a i 0 lt)) ∙ set-get_or (counts_of bs) i 0) in
          branches_put bs (branches_with bs read i node) i c node a lt (changed_nodes node) n (sym e)
