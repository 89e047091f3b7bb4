-- The own slots of a node, each right behind a branch.
use Rattle.std.proofs.Common.{ℕ, ◌+◌, ◌-◌, ◌<◌, List, length, take, drop, get_or, ap, arith, length-drop}
use Rattle.iddqd_ord_index.specs.Shape.{Subtree, in_order, lists, starts, unused, IsBranchAt, IsForked}
use Rattle.iddqd_ord_index.proofs.BelowLemmas.{length-lists, list_at}
use Rattle.iddqd_ord_index.proofs.BranchAtLemmas.{starts_is}
use Rattle.iddqd_ord_index.proofs.InOrderLemmas.{starts_take, starts_split, starts_ge}

-- the position of the i-th own slot is right behind the i-th branch
module _ (ts : List Subtree) (ss : List ℕ) (f : IsForked ts ss) (some : 0 < length ts) (i : ℕ) (lt : i < length ss) where
  pub own_branch_at : IsBranchAt (lists ts) (starts (take (i + 1) (lists ts)) - 1) i (length (get_or ts i unused).slots)
  own_branch_at =
      let n = length-lists ts in
      let k = f.fork some in
      let l = ap length (list_at ts i (omega arith)) in
      record { branch = omega arith; within = omega arith; sum = omega (arith, starts_take (lists ts) i (omega arith)) }

  pub own_position : starts (take (i + 1) (lists ts)) - 1 < length (in_order (lists ts) ss)
  own_position =
      let n = length-lists ts in
      let k = f.fork some in
      omega (arith, starts_take (lists ts) i (omega arith), starts_split (lists ts) (i + 1), starts_ge (drop (i + 1) (lists ts)), length-drop (i + 1) (lists ts), starts_is ts ss f some)
