-- What a change of a branch does to the node's list.
use Rattle.std.proofs.Common.{◌≡◌, ℕ, suc, zero, ◌+◌, ◌-◌, ◌<◌, List, [], ◌∷◌, ◌++◌, length, map, take, drop, set, get_or, refl, ap, sym, ◌∙◌, subst, arith, append_assoc, length-set, add-one, Option, Some}
use Rattle.std.specs.List.{insert, All}
use Rattle.std.proofs.lemmas.List.{length-map, length-take-le, map-set, take-set, take_more_set, drop-set-lt, get_or-set_same, set-append_left, set-append_right, set_at, drop_more, drop_all, drop-append-le}
use Rattle.std.proofs.Math.Seq.{drop-append-add}
use Rattle.std.proofs.lemmas.List.Elements.{All-set}
use Rattle.std.proofs.lemmas.List.Edits.{insert-append_left, insert-append_right}
use Rattle.iddqd_ord_index.specs.Cells.{items_present, cells_of, IsPacked}
use Rattle.iddqd_ord_index.specs.Shape.{Subtree, behind, in_order, starts, lists, levels, IsBranchAt, IsForked, IsBranch}
use Rattle.iddqd_ord_index.specs.Nodes.{subtrees}
use Rattle.iddqd_ord_index.specs.declared.tree.node.Node.{Node}
use Rattle.iddqd_ord_index.proofs.PackedLemmas.{packed_is, held_is}
use Rattle.iddqd_ord_index.proofs.InOrderLemmas.{pairs, length-pairs, in_order_cut, in_order_at}

module _ (ls : List (List ℕ)) (ss : List ℕ) (at i rest : ℕ) (branch_at : IsBranchAt ls at i rest) (e : length ls ≡ length ss + 1) where
  abbrev before : List ℕ
  before = pairs (take i ls) (take i ss)

  abbrev after : List ℕ
  after = behind (drop (suc i) ls) (drop i ss)

  same_lengths : length (take i ls) ≡ length (take i ss)
  same_lengths = length-take-le i ls (omega (arith, branch_at.branch)) ∙ sym (length-take-le i ss (omega (arith, branch_at.branch)))

  length-before : length before ≡ starts (take i ls)
  length-before = length-pairs (take i ls) (take i ss) same_lengths

  -- the list with a slot more in the branch
  inserted : (slot : ℕ) → insert (in_order ls ss) at slot ≡ before ++ (insert (get_or ls i []) rest slot ++ after)
  inserted slot =
      let n = length-before in
      let k : at - length before ≡ rest = omega (arith, branch_at.sum) in
      ap (λ l. insert l at slot) (in_order_cut ls ss i branch_at.branch e)
      ∙ (insert-append_right before (get_or ls i [] ++ after) (length before) at slot refl (omega (arith, branch_at.sum))
      ∙ (ap (λ j. before ++ insert (get_or ls i [] ++ after) j slot) k
      ∙ ap (λ l. before ++ l) (insert-append_left (get_or ls i []) after rest slot branch_at.within)))

  pub branch_grown : (new : List ℕ) (slot : ℕ) → new ≡ insert (get_or ls i []) rest slot → in_order (set ls i new) ss ≡ insert (in_order ls ss) at slot
  branch_grown new slot h =
      let n = length-set ls i new in
      let c = in_order_cut (set ls i new) ss i (omega (arith, branch_at.branch)) (n ∙ e) in
      c ∙ (rw (take-set ls i new, get_or-set_same ls i new [] branch_at.branch, drop-set-lt (suc i) ls i new (omega arith), h) (sym (inserted slot)))

  -- the list from the position on
  pub dropped : drop at (in_order ls ss) ≡ drop rest (get_or ls i []) ++ after
  dropped =
      let n = length-before in
      let k : length before + rest ≡ at = omega (arith, branch_at.sum) in
      ap (λ j. drop j (in_order ls ss)) (sym k)
      ∙ (ap (λ l. drop (length before + rest) l) (in_order_cut ls ss i branch_at.branch e)
      ∙ (drop-append-add before (get_or ls i [] ++ after) rest
      ∙ drop-append-le rest (get_or ls i []) after branch_at.within))

  pub own_dropped : rest ≡ length (get_or ls i []) → i < length ss → (back : List ℕ) × (drop at (in_order ls ss) ≡ get_or ss i 0 ∷ back)
  own_dropped r lt =
      let q : suc i < length ls = omega arith in
      let back : List ℕ = get_or ls (suc i) [] ++ behind (drop (suc i + 1) ls) (drop (i + 1) ss) in
      let dl : drop (suc i) ls ≡ get_or ls (suc i) [] ∷ drop (suc i + 1) ls = drop_more ls (suc i) [] q in
      let ds : drop i ss ≡ get_or ss i 0 ∷ drop (i + 1) ss = drop_more ss i 0 lt in
      let a : after ≡ get_or ss i 0 ∷ back = ap (λ l. behind l (drop i ss)) dl ∙ ap (λ l. behind (get_or ls (suc i) [] ∷ drop (suc i + 1) ls) l) ds in
      (back, dropped ∙ (ap (λ l. l ++ after) (drop_all rest (get_or ls i []) (omega arith)) ∙ a))

  pub branch_split : (lower upper : List ℕ) (middle slot : ℕ) → insert (get_or ls i []) rest slot ≡ lower ++ middle ∷ upper
      → in_order (insert (set ls i lower) (i + 1) upper) (insert ss i middle) ≡ insert (in_order ls ss) at slot
  branch_split lower upper middle slot h =
      let t : take (i + 1) (set ls i lower) ≡ take i ls ++ lower ∷ [] = take_more_set ls i lower branch_at.branch in
      let d : drop (i + 1) (set ls i lower) ≡ drop (suc i) ls = drop-set-lt (i + 1) ls i lower (omega arith) ∙ rw add-one in
      let a : insert (set ls i lower) (i + 1) upper ≡ take i ls ++ lower ∷ (upper ∷ drop (suc i) ls) =
      ap (λ l. l ++ upper ∷ drop (i + 1) (set ls i lower)) t ∙ (ap (λ l. (take i ls ++ lower ∷ []) ++ upper ∷ l) d ∙ append_assoc (take i ls) (lower ∷ []) (upper ∷ drop (suc i) ls)) in
      let w = in_order_at (take i ls) lower (upper ∷ drop (suc i) ls) (take i ss) (middle ∷ drop i ss) same_lengths in
      ap (λ l. in_order l (insert ss i middle)) a
      ∙ (w ∙ (ap (λ l. before ++ l) (sym (append_assoc lower (middle ∷ upper) after))
      ∙ (ap (λ l. before ++ (l ++ after)) (sym h) ∙ sym (inserted slot))))

  pub own_renamed : (slot : ℕ) → rest ≡ length (get_or ls i []) → i < length ss → in_order ls (set ss i slot) ≡ set (in_order ls ss) at slot
  own_renamed slot r lt =
      let m = length-set ss i slot in
      let b = length-before in
      let k : at - length before ≡ rest = omega (arith, branch_at.sum) in
      let q : suc i < length ls = omega arith in
      let back : List ℕ = get_or ls (suc i) [] ++ behind (drop (suc i + 1) ls) (drop (i + 1) ss) in
      let dl : drop (suc i) ls ≡ get_or ls (suc i) [] ∷ drop (suc i + 1) ls = drop_more ls (suc i) [] q in
      let ds : drop i ss ≡ get_or ss i 0 ∷ drop (i + 1) ss = drop_more ss i 0 lt in
      let dt : drop i (set ss i slot) ≡ slot ∷ drop (i + 1) ss =
      drop_more (set ss i slot) i 0 (omega arith)
      ∙ (ap (λ x. x ∷ drop (i + 1) (set ss i slot)) (get_or-set_same ss i slot 0 lt) ∙ ap (λ l. slot ∷ l) (drop-set-lt (i + 1) ss i slot (omega arith))) in
      let a : after ≡ get_or ss i 0 ∷ back = ap (λ l. behind l (drop i ss)) dl ∙ ap (λ l. behind (get_or ls (suc i) [] ∷ drop (suc i + 1) ls) l) ds in
      let f : behind (drop (suc i) ls) (drop i (set ss i slot)) ≡ slot ∷ back = ap (λ l. behind l (drop i (set ss i slot))) dl ∙ ap (λ l. behind (get_or ls (suc i) [] ∷ drop (suc i + 1) ls) l) dt in
      let x : set (in_order ls ss) at slot ≡ before ++ (get_or ls i [] ++ slot ∷ back) =
      ap (λ l. set l at slot) (in_order_cut ls ss i branch_at.branch e)
      ∙ (set-append_right before (get_or ls i [] ++ after) (length before) at slot refl (omega (arith, branch_at.sum))
      ∙ (ap (λ j. before ++ set (get_or ls i [] ++ after) j slot) k
      ∙ (ap (λ l. before ++ set (get_or ls i [] ++ l) rest slot) a
      ∙ ap (λ l. before ++ l) (set_at (get_or ls i []) (get_or ss i 0) back slot rest (sym r))))) in
      in_order_cut ls (set ss i slot) i branch_at.branch (e ∙ ap (λ j. j + 1) (sym m))
      ∙ (ap (λ l. pairs (take i ls) l ++ (get_or ls i [] ++ behind (drop (suc i) ls) (drop i (set ss i slot)))) (take-set ss i slot)
      ∙ (ap (λ l. before ++ (get_or ls i [] ++ l)) f ∙ sym x))

-- a branch that was put in a cell in front
module _ (os : List (Option Node)) (i : ℕ) (b : Node) (p : IsPacked os) (lt : i < length (items_present os)) where
  put_back : set os i (Some b) ≡ cells_of (set (items_present os) i b)
  put_back =
      let n = length-set (items_present os) i b in
      let m = length-map (items_present os) Some in
      ap (λ l. set l i (Some b)) p.cells
      ∙ (set-append_left (map Some (items_present os)) _ i (Some b) (omega (arith, m, lt))
      ∙ (rw (← map-set Some (items_present os) i b, n)))

  pub put_packed : IsPacked (set os i (Some b))
  put_packed = packed_is _ (set (items_present os) i b) put_back (omega (arith, length-set (items_present os) i b, p.fits))

  pub put_subtrees : subtrees (set os i (Some b)) ≡ set (subtrees os) i b
  put_subtrees = held_is _ (set (items_present os) i b) put_back

pub levels_set : (ks : List Subtree) (i : ℕ) (k : Subtree) → k.height + 1 ≡ levels ks → levels (set ks i k) ≡ levels ks
levels_set [] i k e = refl
levels_set (x ∷ ks) zero k e = e
levels_set (x ∷ ks) (suc i) k e = refl

pub set_forked : (ks : List Subtree) (ss : List ℕ) (i : ℕ) (k : Subtree) → IsForked ks ss → IsBranch (levels ks) k → IsForked (set ks i k) ss
set_forked ks ss i k f h =
    let n = length-set ks i k in
    let l = levels_set ks i k h.height in
    record {
      branches = subst (λ m. All (IsBranch m) (set ks i k)) (sym l) (All-set (IsBranch (levels ks)) ks i k h f.branches);
      fork = λ lt. n ∙ f.fork (omega arith);
    }

pub set_levels : (ks : List Subtree) (ss : List ℕ) (i : ℕ) (k : Subtree) → IsBranch (levels ks) k → levels (set ks i k) ≡ levels ks
set_levels ks ss i k h = levels_set ks i k h.height

-- a node with other branches that is as high, and what it holds
pub record IsMade (ts us : List Subtree) (ss all : List ℕ) : Type 0 where
  pub forked : IsForked us ss
  pub height : levels us ≡ levels ts
  pub list : in_order (lists us) ss ≡ all
