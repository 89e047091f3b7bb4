-- A search that goes down by a node's own slots.
use Rattle.std.proofs.Common.{◌≡◌, ℕ, suc, zero, ◌+◌, ◌-◌, ◌<◌, ◌≤◌, List, [], ◌∷◌, length, take, drop, get_or, inl, inr, arith, sym, ◌∙◌, ap, subst, refl, length-drop}
use Rattle.std.specs.declared.cmp.Ordering.{Ordering}
use Rattle.std.specs.declared.cmp.Ordering.TheVariants.{Less, Equal, Greater}
use Rattle.std.proofs.lemmas.Bool.{cases_lt}
use Rattle.std.proofs.lemmas.List.{drop_all, get_or_default}
use Rattle.std.specs.List.{All}
use Rattle.iddqd_ord_index.specs.Standing.{IsMonotone, IsPart}
use Rattle.iddqd_ord_index.specs.Shape.{in_order, starts, IsBranchAt}
use Rattle.iddqd_ord_index.proofs.InOrderLemmas.{starts_take, starts_split, starts_ge, starts_drop, starts_in_order, read_own, read_branch}
use Rattle.iddqd_ord_index.proofs.OrderLemmas.{all_above, all_below}

starts_mono : (ls : List (List ℕ)) (j k : ℕ) → j ≤ k → starts (take j ls) ≤ starts (take k ls)
starts_mono ls zero k le = omega arith
starts_mono [] (suc j) k le = omega arith
starts_mono (l ∷ ls) (suc j) zero le = absurd (omega arith)
starts_mono (l ∷ ls) (suc j) (suc k) le = omega (arith, starts_mono ls j k (omega arith))

pub whole_part : (order : ℕ → Ordering) (xs : List ℕ) → IsPart order xs xs 0
whole_part order xs = record {
  same = λ k lt. ap (λ n. get_or xs n 0) (omega arith);
  fits = omega arith;
  front = λ k lt. absurd (omega arith);
  back = λ k le lt. absurd (omega arith);
}

-- what holds of all slots holds of those of a part
pub part_all : (order : ℕ → Ordering) (P : ℕ → Type 0) (xs ys : List ℕ) (base : ℕ) → All P xs → IsPart order xs ys base → All P ys
part_all order P xs ys base a p k d lt =
    let e : get_or xs (base + k) 0 ≡ get_or ys k d = p.same k lt ∙ get_or_default ys k 0 d lt in
    subst P e (a (base + k) 0 (omega (arith, p.fits)))

-- the slots of a part are in order too
pub part_mono : (order : ℕ → Ordering) (xs ys : List ℕ) (base : ℕ) → IsMonotone order xs → IsPart order xs ys base → IsMonotone order ys
part_mono order xs ys base m p = record {
  above = λ j k lt in' e. subst (λ s. order s ≡ Greater) (p.same j (omega arith)) (m.above (base + j) (base + k) (omega arith) (omega (arith, p.fits)) (subst (λ s. order s ≡ Greater) (sym (p.same k in')) e));
  below = λ j k lt in' e. subst (λ s. order s ≡ Less) (p.same k in') (m.below (base + j) (base + k) (omega arith) (omega (arith, p.fits)) (subst (λ s. order s ≡ Less) (sym (p.same j (omega arith))) e));
}

module _ (order : ℕ → Ordering) (xs : List ℕ) (ls : List (List ℕ)) (ss : List ℕ) (base : ℕ) (m : IsMonotone order xs) (part : IsPart order xs (in_order ls ss) base) (e : length ls ≡ length ss + 1) where
  own_fits : (i : ℕ) → i < length ss → starts (take (i + 1) ls) ≤ length (in_order ls ss)
  own_fits i lt = omega (arith, starts_split ls (i + 1), starts_ge (drop (i + 1) ls), length-drop (i + 1) ls, starts_in_order ls ss e)

  -- where the i-th own slot stands
  own_at : (i : ℕ) → i < length ss → get_or xs (base + (starts (take i ls) + length (get_or ls i []))) 0 ≡ get_or ss i 0
  own_at i lt =
      let n = length (get_or ls i []) in
      let t = starts_take ls i (omega arith) in
      let branch_at : IsBranchAt ls (starts (take i ls) + n) i n = record { branch = omega arith; within = omega arith; sum = refl } in
      part.same (starts (take i ls) + n) (omega (arith, own_fits i lt)) ∙ read_own ls ss (starts (take i ls) + n) i n branch_at e refl lt

  own_in : (i : ℕ) → i < length ss → base + (starts (take i ls) + length (get_or ls i [])) < length xs
  own_in i lt = omega (arith, own_fits i lt, starts_take ls i (omega arith), part.fits)

  own_below : (j k : ℕ) → j < k → k < length ss → base + (starts (take j ls) + length (get_or ls j [])) < base + (starts (take k ls) + length (get_or ls k []))
  own_below j k lt in' = omega (arith, starts_take ls j (omega arith), starts_mono ls (j + 1) k (omega arith))

  pub own_mono : IsMonotone order ss
  own_mono = record {
    above = λ j k lt in' g. subst (λ s. order s ≡ Greater) (own_at j (omega arith)) (m.above _ _ (own_below j k lt in') (own_in k in') (subst (λ s. order s ≡ Greater) (sym (own_at k in')) g));
    below = λ j k lt in' g. subst (λ s. order s ≡ Less) (own_at k in') (m.below _ _ (own_below j k lt in') (own_in k in') (subst (λ s. order s ≡ Less) (sym (own_at j (omega arith))) g));
  }

  pub own_all : (P : ℕ → Type 0) → All P xs → All P ss
  own_all P a k d lt =
      let e : get_or xs (base + (starts (take k ls) + length (get_or ls k []))) 0 ≡ get_or ss k d = own_at k lt ∙ get_or_default ss k 0 d lt in
      subst P e (a _ 0 (own_in k lt))

  branch_front : (i k : ℕ) → i ≤ length ss → ((k : ℕ) → k < i → order (get_or ss k 0) ≡ Greater) → k < base + starts (take i ls) → order (get_or xs k 0) ≡ Greater
  branch_front i k le above lt =
      elim (cases_lt k base) [
        | inl h ↦ part.front k h
        | inr h ↦ elim (cases_lt 0 i) [
          | inl q ↦ (
              let j = i - 1 in
              let s : i ≡ j + 1 = omega arith in
              let t = starts_take ls j (omega arith) in
              let u = ap (λ n. starts (take n ls)) s in
              let g = subst (λ s. order s ≡ Greater) (sym (own_at j (omega arith))) (above j (omega arith)) in
              all_above order xs (base + (starts (take j ls) + length (get_or ls j []))) m (own_in j (omega arith)) g k (omega arith)
              )
          | inr q ↦ (let s : i ≡ 0 = omega arith in let u = ap (λ n. starts (take n ls)) s in absurd (omega arith))
        ]
      ]

  branch_back : (i k : ℕ) → i ≤ length ss → ((k : ℕ) → i ≤ k → k < length ss → order (get_or ss k 0) ≡ Less) → base + starts (take i ls) + length (get_or ls i []) ≤ k → k < length xs → order (get_or xs k 0) ≡ Less
  branch_back i k le below from lt =
      elim (cases_lt i (length ss)) [
        | inl h ↦ all_below order xs (base + (starts (take i ls) + length (get_or ls i []))) m (subst (λ s. order s ≡ Less) (sym (own_at i h)) (below i (omega arith) h)) k (omega arith) lt
        | inr h ↦ part.back k (omega (arith, starts_split ls i, starts_drop ls i (omega arith), starts_in_order ls ss e, starts_ge (drop (i + 1) ls), length-drop (i + 1) ls, last_starts i (omega arith))) lt
      ]
    where
      last_starts : (i : ℕ) → i ≡ length ss → starts (drop (i + 1) ls) ≡ 0
      last_starts i s = ap starts (drop_all (i + 1) ls (omega arith))

  pub branch_part : (i : ℕ) → i ≤ length ss → ((k : ℕ) → k < i → order (get_or ss k 0) ≡ Greater) → ((k : ℕ) → i ≤ k → k < length ss → order (get_or ss k 0) ≡ Less)
      → IsPart order xs (get_or ls i []) (base + starts (take i ls))
  branch_part i le above below = record {
    same = λ k lt. (
        let branch_at : IsBranchAt ls (starts (take i ls) + k) i k = record { branch = omega arith; within = omega arith; sum = refl } in
        let s : base + starts (take i ls) + k ≡ base + (starts (take i ls) + k) = omega arith in
        ap (λ n. get_or xs n 0) s ∙ (part.same (starts (take i ls) + k) (omega (arith, starts_split ls i, starts_drop ls i (omega arith), starts_in_order ls ss e)) ∙ read_branch ls ss (starts (take i ls) + k) i k branch_at e lt));
    fits = omega (arith, starts_split ls i, starts_drop ls i (omega arith), starts_in_order ls ss e, part.fits);
    front = λ k lt. branch_front i k le above lt;
    back = λ k from lt. branch_back i k le below from lt;
  }

  pub own_place : (i p : ℕ) → i < length ss → order (get_or ss i 0) ≡ Equal → p + 1 ≡ base + starts (take (i + 1) ls) → (p < length xs) × (order (get_or xs p 0) ≡ Equal)
  own_place i p lt g q =
      let s : p ≡ base + (starts (take i ls) + length (get_or ls i [])) = omega (arith, starts_take ls i (omega arith)) in
      let in' = own_in i lt in
      let at = own_at i lt in
      (omega arith, ap (λ n. order (get_or xs n 0)) s ∙ (ap order at ∙ g))

  pub own_read : (i p : ℕ) → i < length ss → p + 1 ≡ base + starts (take (i + 1) ls) → get_or xs p 0 ≡ get_or ss i 0
  own_read i p lt q =
      let s : p ≡ base + (starts (take i ls) + length (get_or ls i [])) = omega (arith, starts_take ls i (omega arith)) in
      ap (λ n. get_or xs n 0) s ∙ own_at i lt

  pub own_end : (i : ℕ) → i < length ss → base + starts (take (i + 1) ls) ≤ length xs
  own_end i lt = omega (arith, own_fits i lt, part.fits)

  pub own_some : (i : ℕ) → i < length ss → 1 ≤ starts (take (i + 1) ls)
  own_some i lt = omega (arith, starts_take ls i (omega arith))

  pub branch_end : (i : ℕ) → i ≤ length ss → base + starts (take i ls) ≤ length xs
  branch_end i lt = omega (arith, starts_split ls i, starts_drop ls i (omega arith), starts_in_order ls ss e, part.fits)

module _ (order : ℕ → Ordering) (xs ys : List ℕ) (base : ℕ) (part : IsPart order xs ys base) where
  pub found_place : (i : ℕ) → i < length ys → order (get_or ys i 0) ≡ Equal → (base + i < length xs) × (order (get_or xs (base + i) 0) ≡ Equal)
  found_place i lt g = (omega (arith, part.fits), ap order (part.same i lt) ∙ g)

  pub missed_front : (i k : ℕ) → i ≤ length ys → ((k : ℕ) → k < i → order (get_or ys k 0) ≡ Greater) → k < base + i → order (get_or xs k 0) ≡ Greater
  missed_front i k le h lt =
      elim (cases_lt k base) [
        | inl q ↦ part.front k q
        | inr q ↦ (
            let s : k ≡ base + (k - base) = omega arith in
            ap (λ n. order (get_or xs n 0)) s ∙ (ap order (part.same (k - base) (omega arith)) ∙ h (k - base) (omega arith))
            )
      ]

  pub missed_back : (i k : ℕ) → i ≤ length ys → ((k : ℕ) → i ≤ k → k < length ys → order (get_or ys k 0) ≡ Less) → base + i ≤ k → k < length xs → order (get_or xs k 0) ≡ Less
  missed_back i k le h from lt =
      elim (cases_lt k (base + length ys)) [
        | inl q ↦ (
            let s : k ≡ base + (k - base) = omega arith in
            ap (λ n. order (get_or xs n 0)) s ∙ (ap order (part.same (k - base) (omega arith)) ∙ h (k - base) (omega arith) (omega arith))
            )
        | inr q ↦ part.back k q lt
      ]
