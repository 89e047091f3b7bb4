-- The branches of a node, by the cells and the counts that hold them.
use Rattle.std.proofs.Common.{◌≡◌, ℕ, ◌+◌, ◌<◌, List, [], length, map, take, drop, set, get_or, ap, sym, ◌∙◌, subst, refl, arith, IsSome, Option, Some, None, Box, Global}
use Rattle.std.proofs.lemmas.List.{get_or-map, get_or_default, length-map, map-set}
use Rattle.iddqd_ord_index.specs.Cells.{items_present, IsPacked}
use Rattle.iddqd_ord_index.specs.Nodes.{below, subtrees, AreBranches, AreCounted, cells_in, counts_of, nodes_of, HasBlock}
use Rattle.iddqd_ord_index.specs.Shape.{Subtree, lists, starts, unused}
use Rattle.iddqd_ord_index.specs.declared.tree.node.Block.{Block}
use Rattle.iddqd_ord_index.specs.declared.tree.node.Branches.{Branches}
use Rattle.iddqd_ord_index.specs.declared.tree.node.Node.{Node}
use Rattle.iddqd_ord_index.proofs.PackedLemmas.{cell_at}
use Rattle.iddqd_ord_index.proofs.InOrderLemmas.{starts_take, starts_drop}
use Rattle.iddqd_ord_index.proofs.EditLemmas.{put_packed, put_subtrees}

pub length-subtrees : (os : List (Option Node)) → length (subtrees os) ≡ length (items_present os)
length-subtrees os = refl

pub box_at : (os : List (Option Node)) (i : ℕ) (b d : Subtree) → i < length (subtrees os) → b ≡ get_or (subtrees os) i b → b ≡ get_or (subtrees os) i d
box_at os i b d lt e = e ∙ get_or_default (subtrees os) i b d lt

-- the node in a cell in front is the branch there
pub subtree_at : (os : List (Option Node)) (i : ℕ) (o : Option Node) (b : Node) (d : Subtree) → IsPacked os → i < length (subtrees os) → o ≡ get_or os i o → o ≡ Some b → get_or (subtrees os) i d ≡ b
subtree_at os i o b d p lt e s =
    let c = cell_at os i o b p lt e in
    let f : b ≡ get_or (items_present os) i b = cc in
    get_or_default (subtrees os) i d b lt ∙ sym f

module _ (bs : Branches) (a : AreBranches bs) where
  pub length-counts : length (counts_of bs) ≡ length (below bs)
  length-counts = ap length a.counted ∙ length-map (below bs) (λ t. length t.slots)

  pub length-nodes : length (items_present (nodes_of bs)) ≡ length (below bs)
  length-nodes = sym (length-subtrees (nodes_of bs))

  pub count_at : (i d : ℕ) → i < length (below bs) → get_or (counts_of bs) i d ≡ length (get_or (below bs) i unused).slots
  count_at i d lt = ap (λ l. get_or l i d) a.counted ∙ get_or-map (λ t. length t.slots) (below bs) i unused d lt

-- the numbers of slots beside cells
module _ (os : List (Option Node)) (ns : List ℕ) (a : AreCounted os ns) where
  pub counted_length : length ns ≡ length (subtrees os)
  counted_length = ap length a.counted ∙ length-map (subtrees os) (λ t. length t.slots)

  pub counted_at : (i d : ℕ) → i < length (subtrees os) → get_or ns i d ≡ length (get_or (subtrees os) i unused).slots
  counted_at i d lt = ap (λ l. get_or l i d) a.counted ∙ get_or-map (λ t. length t.slots) (subtrees os) i unused d lt

-- branches lie in a block
there : (o : Option (Box Block Global)) → 0 < length (subtrees (cells_in o)) → IsSome o
there None some = absurd (omega (arith, some))
there (Some b) some = refl

pub has_block : (bs : Branches) → 0 < length (below bs) → HasBlock bs
has_block bs some = there bs.block some

pub list_at : (ts : List Subtree) (i : ℕ) → i < length ts → get_or (lists ts) i [] ≡ (get_or ts i unused).slots
list_at ts i lt = get_or-map (λ t. t.slots) ts i unused [] lt

pub length-lists : (ts : List Subtree) → length (lists ts) ≡ length ts
length-lists ts = length-map ts (λ t. t.slots)

-- branches with a list of subtrees that one operation makes of both
pub branches_are : (os : List (Option Node)) (ns : List ℕ) (ts : List Subtree) → IsPacked os → subtrees os ≡ ts → ns ≡ map (λ t. length t.slots) ts → AreCounted os ns
branches_are os ns ts p e c = record { packed = p; counted = c ∙ sym (ap (λ l. map (λ t. length t.slots) l) e) }

-- how many slots stand before each branch, by the counts
module _ (bs : Branches) (a : AreBranches bs) (cs : List ℕ) (same : cs ≡ (counts_of bs)) where
  pub counts_at : (i : ℕ) → i < length (below bs) → get_or cs i 0 ≡ length (get_or (lists (below bs)) i [])
  counts_at i lt = ap (λ l. get_or l i 0) same ∙ (count_at bs a i 0 lt ∙ ap length (sym (list_at (below bs) i lt)))

  pub starts_more : (i : ℕ) → i < length (below bs) → starts (take (i + 1) (lists (below bs))) ≡ starts (take i (lists (below bs))) + (get_or cs i 0 + 1)
  starts_more i lt = let n = length-lists (below bs) in omega (arith, starts_take (lists (below bs)) i (omega arith), counts_at i lt)

  pub starts_less : (i : ℕ) → i < length (below bs) → starts (drop i (lists (below bs))) ≡ (get_or cs i 0 + 1) + starts (drop (i + 1) (lists (below bs)))
  starts_less i lt = let n = length-lists (below bs) in omega (arith, starts_drop (lists (below bs)) i (omega arith), counts_at i lt)

-- another branch in a cell
pub branches_put : (old new : Branches) (i count : ℕ) (b : Node) → AreBranches old → i < length (below old) → (nodes_of new) ≡ set (nodes_of old) i (Some b) → (counts_of new) ≡ set (counts_of old) i count → count ≡ length b.slots
    → AreBranches new × (below new ≡ set (below old) i b)
branches_put old new i count b a lt n c k =
    let w : i < length (items_present (nodes_of old)) = omega (arith, length-nodes old a) in
    let e : below new ≡ set (below old) i b = ap subtrees n ∙ put_subtrees (nodes_of old) i b a.packed w in
    let p : IsPacked (nodes_of new) = subst (λ l. IsPacked l) (sym n) (put_packed (nodes_of old) i b a.packed w) in
    let f : set (counts_of old) i count ≡ set (counts_of old) i (length b.slots) = ap (λ x. set (counts_of old) i x) k in
    let g : set (counts_of old) i (length b.slots) ≡ map (λ t. length t.slots) (set (below old) i b) =
    ap (λ l. set l i (length b.slots)) a.counted ∙ sym (map-set (λ t. length t.slots) (below old) i b) in
    (branches_are (nodes_of new) (counts_of new) (set (below old) i b) p e (c ∙ (f ∙ g)), e)
