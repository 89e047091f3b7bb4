-- A tree of h levels holds at least 2 * 6^(h-1) - 1 slots.
use Rattle.std.proofs.Common.{◌≡◌, ℕ, zero, suc, ◌+◌, ◌-◌, ◌*◌, ◌^◌, ◌≤◌, ◌<◌, List, [], ◌∷◌, length, sym, ◌∙◌, subst, arith, add-one}
use Rattle.std.specs.List.{All}
use Rattle.std.proofs.lemmas.List.{length-map}
use Rattle.std.proofs.lemmas.List.Elements.{All-head, All-tail, All-weaker}
use Rattle.std.proofs.Math.Nat.{suc-mul, pow-suc, mul-le-mul_right, mul_comm}
use Rattle.iddqd_ord_index.specs.Shape.{Subtree, in_order, lists, levels, starts, IsForked, IsBranch, IsDense}
use Rattle.iddqd_ord_index.proofs.InOrderLemmas.{starts_in_order}

starts_least : (c : ℕ) (ks : List Subtree) → All (λ k. c ≤ length k.slots + 1) ks → length ks * c ≤ starts (lists ks)
starts_least c [] a = omega arith
starts_least c (k ∷ ks) a =
    omega (arith, suc-mul (length ks) c, All-head (λ k. c ≤ length k.slots + 1) k ks a, starts_least c ks (All-tail (λ k. c ≤ length k.slots + 1) k ks a))

-- what a branch adds
branch_least : (m : ℕ) (k : Subtree) → IsBranch (suc m) k → 6 ^ m ≤ length k.slots + 1
branch_least m k i =
    let e : m ≡ suc (k.height - 1) = omega (arith, i.height, i.dense.low) in
    let p = pow-suc 6 (k.height - 1) in
    let q = mul_comm (6 ^ (k.height - 1)) 6 in
    let r = mul-le-mul_right {m = 6} {n = k.width + 1} (6 ^ (k.height - 1)) (omega (arith, i.wide)) in
    rw e (omega (arith, i.dense.many))

pub dense_of : (ks : List Subtree) (ss : List ℕ) → IsForked ks ss → IsDense (record { slots = in_order (lists ks) ss; height = levels ks; width = length ss })
dense_of [] ss f = record { low = omega arith; many = rw (add-one) (omega arith) }
dense_of (k ∷ ks) ss f =
    let e = f.fork (omega arith) in
    let l = length-map (k ∷ ks) (λ k. k.slots) in
    let s = starts_in_order (lists (k ∷ ks)) ss (l ∙ e) in
    let a = starts_least (6 ^ k.height) (k ∷ ks) (All-weaker (IsBranch (k.height + 1)) (λ k'. 6 ^ k.height ≤ length k'.slots + 1) (λ k' i. branch_least k.height k' (subst (λ n. IsBranch n k') (add-one k.height) i)) (k ∷ ks) f.branches) in
    let h : length ss + 1 ≡ length (k ∷ ks) = sym e in
    let z : k.height + 1 - 1 ≡ k.height = omega arith in
    record { low = omega arith; many = rw (z, h) (omega arith) }

six_pos : (m : ℕ) → 0 < 6 ^ m
six_pos zero = omega arith
six_pos (suc m) = omega (arith, pow-suc 6 m, six_pos m)

pub branch_some : (h : ℕ) (k : Subtree) → IsBranch h k → 0 < length k.slots
branch_some h k i =
    let p = six_pos (k.height - 1) in
    let r = mul-le-mul_right {m = 6} {n = k.width + 1} (6 ^ (k.height - 1)) (omega (arith, i.wide)) in
    omega (arith, i.dense.many)
