-- A position that lies at a branch of a node.
use Rattle.std.proofs.Common.{◌≡◌, ℕ, ◌+◌, ◌<◌, ◌≤◌, List, [], ◌∷◌, length, refl, get_or, ap, sym, ◌∙◌, arith}
use Rattle.iddqd_ord_index.specs.Shape.{Subtree, lists, in_order, starts, levels, unused, IsBranchAt, IsBranch, IsForked}
use Rattle.iddqd_ord_index.proofs.BelowLemmas.{length-lists, list_at}
use Rattle.iddqd_ord_index.proofs.InOrderLemmas.{read_branch, read_own, own_within, starts_in_order, starts_drop, starts_split}

-- a node with branches
module _ (ts : List Subtree) (ss : List ℕ) (f : IsForked ts ss) (some : 0 < length ts) where
  pub fork_is : length (lists ts) ≡ length ss + 1
  fork_is = length-lists ts ∙ f.fork some

  pub starts_is : starts (lists ts) ≡ length (in_order (lists ts) ss) + 1
  starts_is = starts_in_order (lists ts) ss fork_is

module _ (ts : List Subtree) (ss : List ℕ) (f : IsForked ts ss) (i : ℕ) (lt : i < length ts) where
  pub branch_is : IsBranch (levels ts) (get_or ts i unused)
  branch_is = f.branches i unused lt

  -- a branch has at most the node's slots
  pub branch_within : length (get_or ts i unused).slots ≤ length (in_order (lists ts) ss)
  branch_within =
      let d = starts_drop (lists ts) i (omega (arith, length-lists ts)) in
      omega (arith, starts_split (lists ts) i, ap length (list_at ts i lt), starts_is ts ss f (omega arith))

module _ (ts : List Subtree) (ss : List ℕ) (at i rest : ℕ) (f : IsForked ts ss) (branch_at : IsBranchAt (lists ts) at i rest) where
  pub branch_at_in : i < length ts
  branch_at_in = omega (arith, length-lists ts, branch_at.branch)

  pub branch_at_list : get_or (lists ts) i [] ≡ (get_or ts i unused).slots
  branch_at_list = list_at ts i branch_at_in

  pub branch_at_fork : length (lists ts) ≡ length ss + 1
  branch_at_fork = fork_is ts ss f (omega (arith, branch_at_in))

  pub rest_within : rest ≤ length (get_or ts i unused).slots
  rest_within = omega (arith, branch_at.within, ap length branch_at_list)

  pub own_read : rest ≡ length (get_or ts i unused).slots → at < length (in_order (lists ts) ss) → (i < length ss) × (get_or (in_order (lists ts) ss) at 0 ≡ get_or ss i 0)
  own_read r lt =
      let q : rest ≡ length (get_or (lists ts) i []) = r ∙ sym (ap length branch_at_list) in
      let w = own_within (lists ts) ss at i rest branch_at branch_at_fork q lt in
      (w, read_own (lists ts) ss at i rest branch_at branch_at_fork q w)

  pub branch_read : rest < length (get_or ts i unused).slots → get_or (in_order (lists ts) ss) at 0 ≡ get_or (get_or ts i unused).slots rest 0
  branch_read lt =
      read_branch (lists ts) ss at i rest branch_at branch_at_fork (omega (arith, ap length branch_at_list))
      ∙ ap (λ l. get_or l rest 0) branch_at_list

pub none_of : {T : Type 0} (xs : List T) → length xs ≡ 0 → xs ≡ []
none_of [] e = refl
none_of (x ∷ xs) e = absurd (omega arith)

-- a leaf's list is its own slots
pub leaf_list : (ts : List Subtree) (ss : List ℕ) → length ts ≡ 0 → in_order (lists ts) ss ≡ ss
leaf_list ts ss e = ap (λ l. in_order (lists l) ss) (none_of ts e)

pub leaf_levels : (ts : List Subtree) → length ts ≡ 0 → levels ts ≡ 1
leaf_levels ts e = ap levels (none_of ts e)

pub leaf_forked : (ts : List Subtree) (ss : List ℕ) → length ts ≡ 0 → IsForked ts ss
leaf_forked ts ss e = record { branches = λ k d lt. absurd (omega arith); fork = λ lt. absurd (omega arith) }

pub inner_levels : (ts : List Subtree) (ss : List ℕ) → IsForked ts ss → 0 < length ts → 1 < levels ts
inner_levels ts ss f lt = let b = branch_is ts ss f 0 lt in omega (arith, b.height, b.dense.low)

pub leaf_of : (ts : List Subtree) (ss : List ℕ) → IsForked ts ss → levels ts ≡ 1 → length ts ≡ 0
leaf_of [] ss f e = refl
leaf_of (t ∷ ts) ss f e = absurd (omega (arith, inner_levels (t ∷ ts) ss f (omega arith)))

pub inner_of : (ts : List Subtree) → 1 < levels ts → 0 < length ts
inner_of [] lt = absurd (omega arith)
inner_of (t ∷ ts) lt = omega arith
