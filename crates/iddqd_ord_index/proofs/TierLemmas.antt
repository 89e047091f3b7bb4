-- The branches and the slots of a node, joined to those of its neighbour or cut.
use Rattle.std.proofs.Common.{◌≡◌, ℕ, ◌+◌, ◌<◌, ◌≤◌, List, [], ◌∷◌, ◌++◌, length, take, drop, refl, ap, sym, ◌∙◌, subst, arith, inl, inr, length-append, length-drop, length-take}
use Rattle.std.specs.List.{All}
use Rattle.std.proofs.lemmas.List.{map-append, take-append-drop, length-map}
use Rattle.std.proofs.lemmas.Bool.{cases_lt}
use Rattle.std.proofs.lemmas.List.Elements.{All-append, All-take, All-drop, All-head}
use Rattle.iddqd_ord_index.specs.Shape.{Subtree, in_order, lists, levels, IsForked, IsBranch}
use Rattle.iddqd_ord_index.proofs.InOrderLemmas.{in_order_join}

pub record IsTier (h : ℕ) (ks : List Subtree) (ss : List ℕ) : Type 0 where
  pub branches : All (IsBranch h) ks
  pub none : h ≡ 1 → length ks ≡ 0
  pub some : 1 < h → length ks ≡ length ss + 1
  pub low : 1 ≤ h

pub tier_of : (h : ℕ) (ks : List Subtree) (ss : List ℕ) → IsForked ks ss → levels ks ≡ h → IsTier h ks ss
tier_of h [] ss f e = record { branches = λ k d lt. absurd (omega arith); none = λ z. refl; some = λ lt. absurd (omega arith); low = omega arith }
tier_of h (k ∷ ks) ss f e =
    let i = All-head (IsBranch (k.height + 1)) k ks f.branches in
    let n = f.fork (omega arith) in
    record {
      branches = subst (λ m. All (IsBranch m) (k ∷ ks)) e f.branches;
      none = λ z. absurd (omega (arith, i.dense.low));
      some = λ lt. n;
      low = omega arith;
    }

pub tier_levels : (h : ℕ) (ks : List Subtree) (ss : List ℕ) → IsTier h ks ss → levels ks ≡ h
tier_levels h [] ss t =
    elim (cases_lt 1 h) [
      | inl lt ↦ absurd (omega (arith, t.some lt))
      | inr ge ↦ omega (arith, t.low)
    ]
tier_levels h (k ∷ ks) ss t = let i = All-head (IsBranch h) k ks t.branches in i.height

pub tier_forked : (h : ℕ) (ks : List Subtree) (ss : List ℕ) → IsTier h ks ss → IsForked ks ss
tier_forked h ks ss t =
    record {
      branches = subst (λ m. All (IsBranch m) ks) (sym (tier_levels h ks ss t)) t.branches;
      fork = λ lt.
          elim (cases_lt 1 h) [
            | inl gt ↦ t.some gt
            | inr ge ↦ absurd (omega (arith, t.none (omega (arith, t.low))))
          ];
    }

pub tier_take : (h : ℕ) (ks : List Subtree) (ss ts : List ℕ) (n : ℕ) → IsTier h ks ss → n ≡ length ts + 1 → n ≤ length ss + 1 → IsTier h (take n ks) ts
tier_take h ks ss ts n t e le =
    let l = length-take n ks in
    record {
      branches = All-take (IsBranch h) n ks t.branches;
      none = λ z. omega (arith, t.none z);
      some = λ lt. omega (arith, t.some lt);
      low = t.low;
    }

pub tier_drop : (h : ℕ) (ks : List Subtree) (ss ts : List ℕ) (n : ℕ) → IsTier h ks ss → n + length ts ≡ length ss → IsTier h (drop n ks) ts
tier_drop h ks ss ts n t e =
    let l = length-drop n ks in
    record {
      branches = All-drop (IsBranch h) n ks t.branches;
      none = λ z. omega (arith, t.none z);
      some = λ lt. omega (arith, t.some lt);
      low = t.low;
    }

module _ (h : ℕ) (ka kb : List Subtree) (sa sb : List ℕ) (m : ℕ) (a : IsTier h ka sa) (b : IsTier h kb sb) where
  pub tier_join : IsTier h (ka ++ kb) (sa ++ m ∷ sb)
  tier_join =
      let k = length-append ka kb in
      let s = length-append sa (m ∷ sb) in
      record {
        branches = All-append (IsBranch h) ka kb a.branches b.branches;
        none = λ z. omega (arith, a.none z, b.none z);
        some = λ lt. omega (arith, a.some lt, b.some lt);
        low = a.low;
      }

pub in_order_tiers : (h : ℕ) (ka kb : List Subtree) (sa sb : List ℕ) (m : ℕ) → IsTier h ka sa → IsTier h kb sb
    → in_order (lists (ka ++ kb)) (sa ++ m ∷ sb) ≡ in_order (lists ka) sa ++ m ∷ in_order (lists kb) sb
in_order_tiers h [] [] sa sb m a b = refl
in_order_tiers h [] (k ∷ kb) sa sb m a b = let l = tier_levels h [] sa a in absurd (omega (arith, b.none (sym l)))
in_order_tiers h (k ∷ ka) [] sa sb m a b =
    let i = All-head (IsBranch h) k ka a.branches in
    absurd (omega (arith, b.some (omega (arith, i.height, i.dense.low))))
in_order_tiers h (k ∷ ka) (k' ∷ kb) sa sb m a b =
    let i = All-head (IsBranch h) k ka a.branches in
    let n = length-map (k ∷ ka) (λ k. k.slots) in
    ap (λ l. in_order l (sa ++ m ∷ sb)) (map-append (λ k. k.slots) (k ∷ ka) (k' ∷ kb))
    ∙ in_order_join (lists (k ∷ ka)) k'.slots (lists kb) sa m sb (n ∙ a.some (omega (arith, i.height, i.dense.low)))

-- a node's list, cut at an own slot
pub in_order_cut_at : (h : ℕ) (ks : List Subtree) (ss sa sb : List ℕ) (m n : ℕ) → IsTier h ks ss → ss ≡ sa ++ m ∷ sb → n ≡ length sa + 1
    → in_order (lists ks) ss ≡ in_order (lists (take n ks)) sa ++ m ∷ in_order (lists (drop n ks)) sb
in_order_cut_at h ks ss sa sb m n t e k =
    let l = length-append sa (m ∷ sb) in
    let v = ap length e in
    let a = tier_take h ks ss sa n t k (omega arith) in
    let b = tier_drop h ks ss sb n t (omega arith) in
    ap (λ l. in_order (lists l) ss) (sym (take-append-drop n ks))
    ∙ (ap (λ l. in_order (lists (take n ks ++ drop n ks)) l) e
    ∙ in_order_tiers h (take n ks) (drop n ks) sa sb m a b)
