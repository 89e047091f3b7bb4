-- Leaves in cells, and a node's own slots between them.
--     rest_leaves, next_leaf      the first leaf is taken up, with the slot before it
--     below_branch_at      what is left of a node behind a position, by the branch that the position lies in
use Rattle.std.proofs.Common.{◌≡◌, ℕ, zero, suc, ◌+◌, ◌-◌, ◌<◌, ◌≤◌, List, [], ◌∷◌, ◌++◌, length, take, drop, get_or, refl, ap, sym, subst, ◌∙◌, arith, add-one, suc-le-suc, length-drop, Option, Some, None}
use Rattle.std.specs.List.{All}
use Rattle.std.proofs.lemmas.List.{take_rest, drop-map, get_or-drop}
use Rattle.iddqd_ord_index.specs.Cells.{items_present}
use Rattle.iddqd_ord_index.specs.Nodes.{subtrees, AreLeaves}
use Rattle.iddqd_ord_index.specs.Shape.{Subtree, behind, in_order, levels, lists, unused, IsBranchAt, IsBranch, IsForked}
use Rattle.iddqd_ord_index.specs.declared.tree.node.Node.{Node}
use Rattle.iddqd_ord_index.proofs.BranchAtLemmas.{branch_at_list, branch_at_fork, branch_is}
use Rattle.iddqd_ord_index.proofs.BelowLemmas.{length-subtrees}
use Rattle.iddqd_ord_index.proofs.EditLemmas.{dropped}

abbrev pub Cell : Type 0
Cell = Option Node

pub few_present : (os : List Cell) → length (items_present os) ≤ length os
few_present [] = omega arith
few_present (None ∷ os) = omega (arith, few_present os)
few_present (Some b ∷ os) = omega (arith, few_present os)

-- no cell is empty where there are as many leaves as cells
pub leaf_present : (os : List Cell) (i : ℕ) (o : Cell) → length (subtrees os) ≡ length os → i < length os → o ≡ get_or os i o → o ≡ None → ⊥
leaf_present [] i o e lt at none = absurd (omega arith)
leaf_present (None ∷ os) i o e lt at none = absurd (omega (arith, e, length-subtrees os, few_present os))
leaf_present (Some b ∷ os) zero o e lt at none = cc
leaf_present (Some b ∷ os) (suc i) o e lt at none = leaf_present os i o (omega (arith, e)) (omega (arith, lt)) at none

abbrev in_cell : Cell → Subtree
in_cell None = unused
in_cell (Some b) = b

-- and the leaf in a cell is the one of that number
pub leaf_is : (os : List Cell) (i : ℕ) (o : Cell) (b : Node) → length (subtrees os) ≡ length os → i < length os → o ≡ get_or os i o → o ≡ Some b → get_or (subtrees os) i unused ≡ b
leaf_is [] i o b e lt at is = absurd (omega arith)
leaf_is (None ∷ os) i o b e lt at is = absurd (omega (arith, e, length-subtrees os, few_present os))
leaf_is (Some a ∷ os) zero o b e lt at is = ap in_cell (sym at ∙ is)
leaf_is (Some a ∷ os) (suc i) o b e lt at is = leaf_is os i o b (omega (arith, e)) (omega (arith, lt)) at is

pub rest_of : (os : List Cell) (n : ℕ) → AreLeaves os (n + 1) → AreLeaves (drop 1 os) n
rest_of [] n a = absurd (omega (arith, a.cells))
rest_of (None ∷ os) n a = absurd (omega (arith, a.cells, a.present, length-subtrees os, few_present os))
rest_of (Some b ∷ os) n a = record {
  cells = omega (arith, a.cells);
  present = omega (arith, a.present);
  low = λ k d within. a.low (suc k) d (suc-le-suc within);
}

pub rest_leaves : (os : List Cell) (n m : ℕ) → AreLeaves os n → m + 1 ≡ n → AreLeaves (take (length os - 1) (drop 1 os)) m
rest_leaves os n m a e = subst (λ l. AreLeaves l m) (sym (take_rest os 1)) (rest_of os m (subst (AreLeaves os) (sym e) a))

-- the slot before the first leaf, that leaf, and what is left
next_of : (os : List Cell) (s : ℕ) (ss : List ℕ) → AreLeaves os (length ss + 1) → behind (lists (subtrees os)) (s ∷ ss) ≡ s ∷ ((get_or (subtrees os) 0 unused).slots ++ behind (lists (subtrees (drop 1 os))) ss)
next_of [] s ss a = absurd (omega (arith, a.cells))
next_of (None ∷ os) s ss a = absurd (omega (arith, a.cells, a.present, length-subtrees os, few_present os))
next_of (Some b ∷ os) s ss a = refl

pub next_leaf : (os : List Cell) (s : ℕ) (all ss : List ℕ) → AreLeaves os (length all) → all ≡ s ∷ ss → behind (lists (subtrees os)) all ≡ s ∷ ((get_or (subtrees os) 0 unused).slots ++ behind (lists (subtrees (take (length os - 1) (drop 1 os)))) ss)
next_leaf os s all ss a e =
    let k : length all ≡ length ss + 1 = omega (arith, ap length e) in
    ap (λ l. behind (lists (subtrees os)) l) e
    ∙ (next_of os s ss (subst (AreLeaves os) k a)
    ∙ ap (λ l. s ∷ ((get_or (subtrees os) 0 unused).slots ++ behind (lists (subtrees l)) ss)) (sym (take_rest os 1)))

-- what is left of a node from a position on, where that lies in the i-th branch
pub below_branch_at : (ts us : List Subtree) (ss os child : List ℕ) (at i rest : ℕ) → IsForked ts ss → IsBranchAt (lists ts) at i rest
    → child ≡ (get_or ts i unused).slots → us ≡ drop (i + 1) ts → os ≡ drop i ss
    → drop at (in_order (lists ts) ss) ≡ drop rest child ++ behind (lists us) os
below_branch_at ts us ss os child at i rest f branch_at c u o =
    let l : get_or (lists ts) i [] ≡ child = branch_at_list ts ss at i rest f branch_at ∙ sym c in
    let d : drop (suc i) (lists ts) ≡ lists us = drop-map (λ t. t.slots) (suc i) ts ∙ ap lists (rw add-one refl ∙ sym u) in
    dropped (lists ts) ss at i rest branch_at (branch_at_fork ts ss at i rest f branch_at)
    ∙ (ap (λ x. drop rest x ++ behind (drop (suc i) (lists ts)) (drop i ss)) l
    ∙ (ap (λ x. drop rest child ++ behind x (drop i ss)) d ∙ ap (λ x. drop rest child ++ behind (lists us) x) (sym o)))

-- the branches behind one are as high as it
pub heights_behind : (ts : List Subtree) (ss : List ℕ) → IsForked ts ss → (i : ℕ) → i < length ts → (child : Subtree) → child ≡ get_or ts i unused → All (λ t. t.height ≡ child.height) (drop (i + 1) ts)
heights_behind ts ss f i lt child e =
    λ k d within.
    let b = branch_is ts ss f i lt in
    let o : IsBranch (levels ts) (get_or ts (i + 1 + k) d) = f.branches (i + 1 + k) d (omega (arith, length-drop (i + 1) ts)) in
    omega (arith, b.height, o.height, ap (λ t. t.height) e, ap (λ t. t.height) (get_or-drop (i + 1) ts k d))
