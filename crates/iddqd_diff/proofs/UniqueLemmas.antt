-- No other list says the same of two ordered maps as their differences.
--     one_list      lists of the same old and new items, in order of keys and with equal keys paired, are equal
use Rattle.std.proofs.Common.{◌≡◌, Bool, List, [], ◌∷◌, map, filter_map, refl, sym, ap, subst, ◌∙◌, Ordering, Less, Equal, Greater}
use Rattle.std.proofs.lemmas.Cmp.{alike_right}
use Rattle.std.proofs.lemmas.List.Elements.{All-head, All-tail}
use Rattle.std.specs.Cmp.{IsTotalOrder}
use Rattle.std.specs.List.{All, AllByRecursion}
use Rattle.std.specs.List.Sorted.{IsStrictlySortedBy}
use Rattle.std.specs.Ordering.{is_eq, ordering_reverse}
use Rattle.iddqd_diff.specs.declared.difference.Difference.{Difference}
use Rattle.iddqd_diff.specs.declared.difference.Difference.TheVariants.{Removed, Added, Kept}
use Rattle.iddqd_diff.specs.Difference.{IsAkin, key_at, new_item, old_item}
use Rattle.iddqd_diff.proofs.KeyOrderLemmas.{Minds, eq_where}

module _ {T K : Type 0} (key : T → K) (cmp : K → K → Ordering) (o : IsTotalOrder cmp) (eq : K → K → Bool) (ties : (x y : K) → eq x y ≡ is_eq (cmp x y)) where
  of_old : (P : K → Type 0) (ds : List (Difference T T)) → AllByRecursion P (map (key_at key) ds) → AllByRecursion P (map key (filter_map old_item ds))
  of_old P [] a = tt
  of_old P (Removed x ∷ ds) a = (a.0, of_old P ds a.1)
  of_old P (Added y ∷ ds) a = of_old P ds a.1
  of_old P (Kept x y ∷ ds) a = (a.0, of_old P ds a.1)

  of_new : (P : K → Type 0) → Minds cmp o P → (ds : List (Difference T T)) → All (IsAkin key eq) ds → AllByRecursion P (map (key_at key) ds) → AllByRecursion P (map key (filter_map new_item ds))
  of_new P minds [] akin a = tt
  of_new P minds (Removed x ∷ ds) akin a = of_new P minds ds (All-tail (IsAkin key eq) (Removed x) ds akin) a.1
  of_new P minds (Added y ∷ ds) akin a = (a.0, of_new P minds ds (All-tail (IsAkin key eq) (Added y) ds akin) a.1)
  of_new P minds (Kept x y ∷ ds) akin a = (
    minds (key x) (key y) (eq_where eq cmp ties (key x) (key y) (All-head (IsAkin key eq) (Kept x y) ds akin)) a.0,
    of_new P minds ds (All-tail (IsAkin key eq) (Kept x y) ds akin) a.1,
  )

  above : (k : K) → Minds cmp o (λ l. cmp k l ≡ Less)
  above k a b e l = sym (alike_right o a b k e) ∙ l

  -- the first of these old items is behind k, and so is the first of these new ones
  first_old : (k : K) (x : T) (xs : List T) (ds : List (Difference T T)) → AllByRecursion (λ l. cmp k l ≡ Less) (map (key_at key) ds) → filter_map old_item ds ≡ x ∷ xs → cmp k (key x) ≡ Less
  first_old k x xs ds a e = (subst (λ zs. AllByRecursion (λ l. cmp k l ≡ Less) (map key zs)) e (of_old (λ l. cmp k l ≡ Less) ds a)).0

  first_new : (k : K) (y : T) (ys : List T) (ds : List (Difference T T)) → All (IsAkin key eq) ds → AllByRecursion (λ l. cmp k l ≡ Less) (map (key_at key) ds) → filter_map new_item ds ≡ y ∷ ys → cmp k (key y) ≡ Less
  first_new k y ys ds akin a e = (subst (λ zs. AllByRecursion (λ l. cmp k l ≡ Less) (map key zs)) e (of_new (λ l. cmp k l ≡ Less) (above k) ds akin a)).0

  not_both : (a b : K) → cmp a b ≡ Less → cmp b a ≡ Less → ⊥
  not_both a b l m = let e : Less ≡ Greater = sym l ∙ o.antisymm a b ∙ ap ordering_reverse m in cc

  pub one_list : (ds es : List (Difference T T)) → filter_map old_item ds ≡ filter_map old_item es → filter_map new_item ds ≡ filter_map new_item es → IsStrictlySortedBy cmp (map (key_at key) ds) → IsStrictlySortedBy cmp (map (key_at key) es) → All (IsAkin key eq) ds → All (IsAkin key eq) es → ds ≡ es
  unfolding IsStrictlySortedBy
  one_list [] [] p q s t a b = refl
  one_list [] (Removed x ∷ es) p q s t a b = absurd (cc)
  one_list [] (Added y ∷ es) p q s t a b = absurd (cc)
  one_list [] (Kept x y ∷ es) p q s t a b = absurd (cc)
  one_list (Removed x ∷ ds) [] p q s t a b = absurd (cc)
  one_list (Added y ∷ ds) [] p q s t a b = absurd (cc)
  one_list (Kept x y ∷ ds) [] p q s t a b = absurd (cc)
  one_list (Removed x ∷ ds) (Removed w ∷ es) p q s t a b =
      let first : x ≡ w = cc in
      let later : filter_map old_item ds ≡ filter_map old_item es = cc in
      λ i. Removed (first i) ∷ one_list ds es later q s.1 t.1 (All-tail (IsAkin key eq) (Removed x) ds a) (All-tail (IsAkin key eq) (Removed w) es b) i
  one_list (Added y ∷ ds) (Added z ∷ es) p q s t a b =
      let first : y ≡ z = cc in
      let later : filter_map new_item ds ≡ filter_map new_item es = cc in
      λ i. Added (first i) ∷ one_list ds es p later s.1 t.1 (All-tail (IsAkin key eq) (Added y) ds a) (All-tail (IsAkin key eq) (Added z) es b) i
  one_list (Kept x y ∷ ds) (Kept w z ∷ es) p q s t a b =
      let first : x ≡ w = cc in
      let second : y ≡ z = cc in
      let olds : filter_map old_item ds ≡ filter_map old_item es = cc in
      let news : filter_map new_item ds ≡ filter_map new_item es = cc in
      λ i. Kept (first i) (second i) ∷ one_list ds es olds news s.1 t.1 (All-tail (IsAkin key eq) (Kept x y) ds a) (All-tail (IsAkin key eq) (Kept w z) es b) i
  one_list (Removed x ∷ ds) (Added y ∷ es) p q s t a b =
      absurd (not_both (key x) (key y)
      (first_new (key x) y (filter_map new_item es) ds (All-tail (IsAkin key eq) (Removed x) ds a) s.0 q)
      (first_old (key y) x (filter_map old_item ds) es t.0 (sym p)))
  one_list (Added y ∷ ds) (Removed x ∷ es) p q s t a b =
      absurd (not_both (key x) (key y)
      (first_new (key x) y (filter_map new_item ds) es (All-tail (IsAkin key eq) (Removed x) es b) t.0 (sym q))
      (first_old (key y) x (filter_map old_item es) ds s.0 p))
  one_list (Removed x ∷ ds) (Kept w z ∷ es) p q s t a b =
      let first : x ≡ w = cc in
      let less : cmp (key x) (key z) ≡ Less = first_new (key x) z (filter_map new_item es) ds (All-tail (IsAkin key eq) (Removed x) ds a) s.0 q in
      let equal : cmp (key w) (key z) ≡ Equal = eq_where eq cmp ties (key w) (key z) (All-head (IsAkin key eq) (Kept w z) es b) in
      let wrong : Less ≡ Equal = sym less ∙ ap (λ v. cmp (key v) (key z)) first ∙ equal in
      absurd (cc)
  one_list (Kept w z ∷ ds) (Removed x ∷ es) p q s t a b =
      let first : x ≡ w = cc in
      let less : cmp (key x) (key z) ≡ Less = first_new (key x) z (filter_map new_item ds) es (All-tail (IsAkin key eq) (Removed x) es b) t.0 (sym q) in
      let equal : cmp (key w) (key z) ≡ Equal = eq_where eq cmp ties (key w) (key z) (All-head (IsAkin key eq) (Kept w z) ds a) in
      let wrong : Less ≡ Equal = sym less ∙ ap (λ v. cmp (key v) (key z)) first ∙ equal in
      absurd (cc)
  one_list (Added y ∷ ds) (Kept w z ∷ es) p q s t a b =
      let second : y ≡ z = cc in
      let less : cmp (key y) (key w) ≡ Less = first_old (key y) w (filter_map old_item es) ds s.0 p in
      let equal : cmp (key w) (key z) ≡ Equal = eq_where eq cmp ties (key w) (key z) (All-head (IsAkin key eq) (Kept w z) es b) in
      let turned : cmp (key z) (key w) ≡ Equal = o.antisymm (key z) (key w) ∙ ap ordering_reverse equal in
      let wrong : Less ≡ Equal = sym less ∙ ap (λ v. cmp (key v) (key w)) second ∙ turned in
      absurd (cc)
  one_list (Kept w z ∷ ds) (Added y ∷ es) p q s t a b =
      let second : y ≡ z = cc in
      let less : cmp (key y) (key w) ≡ Less = first_old (key y) w (filter_map old_item ds) es t.0 (sym p) in
      let equal : cmp (key w) (key z) ≡ Equal = eq_where eq cmp ties (key w) (key z) (All-head (IsAkin key eq) (Kept w z) ds a) in
      let turned : cmp (key z) (key w) ≡ Equal = o.antisymm (key z) (key w) ∙ ap ordering_reverse equal in
      let wrong : Less ≡ Equal = sym less ∙ ap (λ v. cmp (key v) (key w)) second ∙ turned in
      absurd (cc)
