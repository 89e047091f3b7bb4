-- The first and the last slot of a node are those of its first and its last branch.
use Rattle.std.proofs.Common.{◌≡◌, ℕ, ◌+◌, ◌-◌, ◌<◌, List, length, get_or, Some, refl, ap, sym, ◌∙◌, arith}
use Rattle.std.proofs.lemmas.List.{drop_all}
use Rattle.std.proofs.lemmas.Option.{slice_get-get_or}
use Rattle.std.specs.List.{slice_get}
use Rattle.iddqd_ord_index.specs.Shape.{Subtree, lists, in_order, starts, unused, IsBranchAt, IsForked}
use Rattle.iddqd_ord_index.proofs.BranchAtLemmas.{starts_is, branch_is, branch_read, branch_within}
use Rattle.iddqd_ord_index.proofs.BelowLemmas.{length-lists, list_at}
use Rattle.iddqd_ord_index.proofs.DenseLemmas.{branch_some}
use Rattle.iddqd_ord_index.proofs.InOrderLemmas.{starts_split, starts_drop}

module _ (ts : List Subtree) (ss : List ℕ) (f : IsForked ts ss) (some : 0 < length ts) where
  pub first_below : slice_get (get_or ts 0 unused).slots 0 ≡ slice_get (in_order (lists ts) ss) 0
  first_below =
      let n = length-lists ts in
      let s = branch_some _ (get_or ts 0 unused) (branch_is ts ss f 0 some) in
      let w = branch_within ts ss f 0 some in
      let branch_at : IsBranchAt (lists ts) 0 0 0 = record { branch = omega arith; within = omega arith; sum = refl } in
      slice_get-get_or (get_or ts 0 unused).slots 0 0 s ∙ (ap Some (sym (branch_read ts ss 0 0 0 f branch_at s)) ∙ sym (slice_get-get_or (in_order (lists ts) ss) 0 0 (omega arith)))

  pub last_below : (i : ℕ) → i + 1 ≡ length ts → slice_get (get_or ts i unused).slots (length (get_or ts i unused).slots - 1) ≡ slice_get (in_order (lists ts) ss) (length (in_order (lists ts) ss) - 1)
  last_below i e =
      let n = length-lists ts in
      let s = branch_some _ (get_or ts i unused) (branch_is ts ss f i (omega arith)) in
      let w = branch_within ts ss f i (omega arith) in
      let rest : ℕ = length (get_or ts i unused).slots - 1 in
      let at : ℕ = length (in_order (lists ts) ss) - 1 in
      let l = ap length (list_at ts i (omega arith)) in
      let z = ap starts (drop_all (i + 1) (lists ts) (omega arith)) in
      let d = starts_drop (lists ts) i (omega arith) in
      let p = starts_split (lists ts) i in
      let q = starts_is ts ss f some in
      let branch_at : IsBranchAt (lists ts) at i rest = record { branch = omega arith; within = omega arith; sum = omega arith } in
      slice_get-get_or (get_or ts i unused).slots rest 0 (omega arith) ∙ (ap Some (sym (branch_read ts ss at i rest f branch_at (omega arith))) ∙ sym (slice_get-get_or (in_order (lists ts) ss) at 0 (omega arith)))
