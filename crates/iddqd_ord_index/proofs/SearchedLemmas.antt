-- A node that is searched for the place of a query.
--     own      the query stands to the node's own slots as to all
--     own_found, leaf_place      what is found there
use Rattle.std.proofs.Common.{◌≡◌, ℕ, ◌+◌, ◌-◌, ◌<◌, List, length, take, get_or, inl, inr, Ok, Err, Some, subst, sym, arith}
use Rattle.std.proofs.lemmas.Bool.{cases_lt}
use Rattle.std.specs.declared.cmp.Ordering.{Ordering}
use Rattle.std.specs.List.{All}
use Rattle.iddqd_ord_index.specs.Shape.{Subtree, lists, starts, tree, IsForked}
use Rattle.iddqd_ord_index.specs.Standing.{IsAmong, IsMonotone, IsPlace}
use Rattle.iddqd_ord_index.proofs.DescentLemmas.{IsInner, IsLeaf, inner, leaf}
use Rattle.iddqd_ord_index.proofs.FoundLemmas.{whole_part}

from_zero : (n : ℕ) → 0 + n ≡ n
from_zero n = omega arith

module _ (order : ℕ → Ordering) (P : ℕ → Type 0) (ts : List Subtree) (ss : List ℕ) (self : Subtree) (m : IsMonotone order self.slots) (a : All P self.slots) (f : IsForked ts ss) (v : tree ts ss ≡ self) where
  at_inner : 0 < length ts → IsInner order P self.slots ts ss 0
  at_inner some = inner order P self.slots ts ss 0 self m a f some v (whole_part order self.slots)

  at_leaf : length ts ≡ 0 → IsLeaf order P self.slots ss 0
  at_leaf none = leaf order P self.slots ts ss 0 self m a none v (whole_part order self.slots)

  pub own : IsMonotone order ss × All P ss
  own = elim (cases_lt 0 (length ts)) [
    | inl some ↦ let n = at_inner some in (n.monotone, n.all)
    | inr none ↦ let l = at_leaf (omega arith) in (l.monotone, l.all)
  ]

  pub own_found : (i : ℕ) → IsPlace order ss (Ok i) → IsAmong order self.slots (Some (get_or ss i 0))
  own_found i p = elim (cases_lt 0 (length ts)) [
    | inl some ↦
        let n = at_inner some in
        let at : ℕ = starts (take (i + 1) (lists ts)) - 1 in
        let o = n.own i at p.0 p.1 (omega (arith, n.own_some i p.0)) in
        (at, sym o.2, (o.0, o.1))
    | inr none ↦
        let l = at_leaf (omega arith) in
        (0 + i, sym (l.same i p.0), l.found i p)
  ]

  pub leaf_place : length ts ≡ 0 → (i : ℕ) → IsPlace order ss (Err i) → IsPlace order self.slots (Err i)
  leaf_place none i p = subst (λ n. IsPlace order self.slots (Err n)) (from_zero i) ((at_leaf none).missed i p)
