-- A node of which a branch got a slot.
use Rattle.std.proofs.Common.{◌≡◌, ℕ, ◌+◌, ◌-◌, ◌≤◌, List, ◌∷◌, Some, length, set, get_or, ap, sym, subst, ◌∙◌, arith, length-append}
use Rattle.std.specs.List.{insert}
use Rattle.std.proofs.lemmas.List.{map-set}
use Rattle.std.proofs.lemmas.List.Edits.{length-insert}
use Rattle.iddqd_ord_index.specs.Nodes.{below, AreBranches, counts_of, nodes_of}
use Rattle.iddqd_ord_index.specs.Shape.{Subtree, in_order, lists, levels, tree, unused, IsBranchAt, IsForked, IsBranch, IsDense}
use Rattle.iddqd_ord_index.specs.declared.tree.node.Branches.{Branches}
use Rattle.iddqd_ord_index.specs.declared.tree.node.Node.{Node}
use Rattle.iddqd_ord_index.specs.Changes.{IsGrown, IsSplit}
use Rattle.iddqd_ord_index.proofs.BelowLemmas.{branches_put}
use Rattle.iddqd_ord_index.proofs.BranchAtLemmas.{branch_at_in, branch_at_list, branch_at_fork, branch_is, rest_within}
use Rattle.iddqd_ord_index.proofs.EditLemmas.{IsMade, branch_grown, branch_split, set_forked, set_levels}

-- the branch was split: its lower half is in its place, and `upper` is to be put in behind it
pub record IsParted (ts us : List Subtree) (ss : List ℕ) (i middle : ℕ) (upper : Subtree) (all : List ℕ) : Type 0 where
  pub forked : IsForked us ss
  pub height : levels us ≡ levels ts
  pub branch : IsBranch (levels us) upper
  pub list : in_order (insert (lists us) (i + 1) upper.slots) (insert ss i middle) ≡ all

-- how many slots the two halves have
pub parted_length : (xs : List ℕ) (rest slot middle : ℕ) (new upper : Subtree) → rest ≤ length xs → IsSplit (insert xs rest slot) new middle upper → length xs + 1 ≡ length new.slots + (length upper.slots + 1)
parted_length xs rest slot middle new upper le s =
    omega (arith, length-insert xs rest slot le, ap length s.slots, length-append new.slots (middle ∷ upper.slots))

module _ (ts : List Subtree) (ss : List ℕ) (at slot i rest : ℕ) (new : Subtree) (f : IsForked ts ss) (branch_at : IsBranchAt (lists ts) at i rest)
    (h : new.height ≡ (get_or ts i unused).height) (d : IsDense new) where
  old_branch : IsBranch (levels ts) (get_or ts i unused)
  old_branch = branch_is ts ss f i (branch_at_in ts ss at i rest f branch_at)

  new_branch : 5 ≤ new.width → IsBranch (levels ts) new
  new_branch w = record { height = omega (arith, old_branch.height); wide = w; dense = d }

  pub grown : IsGrown (insert (get_or ts i unused).slots rest slot) (get_or ts i unused).width new → IsMade ts (set ts i new) ss (insert (in_order (lists ts) ss) at slot)
  grown g =
      let k = new_branch (omega (arith, g.wider, old_branch.wide)) in
      record {
        forked = set_forked ts ss i new f k;
        height = set_levels ts ss i new k;
        list = ap (λ l. in_order l ss) (map-set (λ t. t.slots) ts i new)
            ∙ branch_grown (lists ts) ss at i rest branch_at (branch_at_fork ts ss at i rest f branch_at) new.slots slot (g.slots ∙ ap (λ l. insert l rest slot) (sym (branch_at_list ts ss at i rest f branch_at)));
      }

  pub parted : (middle : ℕ) (upper : Subtree) → IsSplit (insert (get_or ts i unused).slots rest slot) new middle upper → IsParted ts (set ts i new) ss i middle upper (insert (in_order (lists ts) ss) at slot)
  parted middle upper s =
      let k = new_branch s.wide in
      let l = set_levels ts ss i new k in
      record {
        forked = set_forked ts ss i new f k;
        height = l;
        branch = record { height = omega (arith, old_branch.height, s.upper_height); wide = s.upper_wide; dense = s.upper_dense };
        list = ap (λ l. in_order (insert l (i + 1) upper.slots) (insert ss i middle)) (map-set (λ t. t.slots) ts i new)
            ∙ branch_split (lists ts) ss at i rest branch_at (branch_at_fork ts ss at i rest f branch_at) new.slots upper.slots middle slot (ap (λ l. insert l rest slot) (branch_at_list ts ss at i rest f branch_at) ∙ s.slots);
      }

-- how many slots are above the split
pub above : (ts : List Subtree) (ss : List ℕ) (at slot i rest middle count : ℕ) (before new upper : Subtree) → IsForked ts ss → IsBranchAt (lists ts) at i rest → before ≡ get_or ts i unused → IsSplit (insert before.slots rest slot) new middle upper → count ≡ length (get_or ts i unused).slots
    → count + 1 ≡ length new.slots + (length upper.slots + 1)
above ts ss at slot i rest middle count before new upper f branch_at v s n =
    let l = ap (λ t. length t.slots) v in
    let m = parted_length before.slots rest slot middle new upper (omega (arith, rest_within ts ss at i rest f branch_at)) s in
    omega arith

-- the branch put back with a slot more, with all that is known of it then
pub put_grown : (old new : Branches) (ss : List ℕ) (at slot i rest count : ℕ) (b : Node) (before self : Subtree)
    → AreBranches old → IsForked (below old) ss → IsBranchAt (lists (below old)) at i rest → before ≡ get_or (below old) i unused → IsGrown (insert before.slots rest slot) before.width b → b.height ≡ before.height → IsDense b
    → (nodes_of new) ≡ set (nodes_of old) i (Some b) → (counts_of new) ≡ set (counts_of old) i (count + 1) → count ≡ length (get_or (below old) i unused).slots → tree (below old) ss ≡ self
    → AreBranches new × IsMade (below old) (below new) ss (insert self.slots at slot)
put_grown old new ss at slot i rest count b before self a f branch_at v s h w n m c view =
    let ts = below old in
    let g = subst (λ t. IsGrown (insert t.slots rest slot) t.width b) v s in
    let r = grown ts ss at slot i rest b f branch_at (h ∙ ap (λ t. t.height) v) w g in
    let l = length-insert (get_or ts i unused).slots rest slot (rest_within ts ss at i rest f branch_at) in
    let p = branches_put old new i (count + 1) b a (branch_at_in ts ss at i rest f branch_at) n m (omega (arith, ap length g.slots)) in
    (p.0, subst (λ l. IsMade ts (below new) ss (insert l.slots at slot)) view (subst (λ us. IsMade ts us ss (insert (in_order (lists ts) ss) at slot)) (sym p.1) r))

-- the lower half put back, with all that is known of it then
pub put_parted : (old new : Branches) (ss : List ℕ) (at slot i rest count more less middle : ℕ) (b : Node) (before upper self : Subtree)
    → AreBranches old → IsForked (below old) ss → IsBranchAt (lists (below old)) at i rest → before ≡ get_or (below old) i unused → IsSplit (insert before.slots rest slot) b middle upper → b.height ≡ before.height → IsDense b
    → (nodes_of new) ≡ set (nodes_of old) i (Some b) → (counts_of new) ≡ set (counts_of old) i less → less ≡ count + 1 - more - 1
    → count ≡ length (get_or (below old) i unused).slots → more ≡ length upper.slots → tree (below old) ss ≡ self
    → AreBranches new × IsParted (below old) (below new) ss i middle upper (insert self.slots at slot)
put_parted old new ss at slot i rest count more less middle b before upper self a f branch_at v s h w n m z c l view =
    let ts = below old in
    let k = above ts ss at slot i rest middle count before b upper f branch_at v s c in
    let p = branches_put old new i less b a (branch_at_in ts ss at i rest f branch_at) n m (omega arith) in
    let g = subst (λ t. IsSplit (insert t.slots rest slot) b middle upper) v s in
    let r = parted ts ss at slot i rest b f branch_at (h ∙ ap (λ t. t.height) v) w middle upper g in
    (p.0, subst (λ l. IsParted ts (below new) ss i middle upper (insert l.slots at slot)) view (subst (λ us. IsParted ts us ss i middle upper (insert (in_order (lists ts) ss) at slot)) (sym p.1) r))
