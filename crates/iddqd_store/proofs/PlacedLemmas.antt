-- An item that was added to items that ascend stands at its place among them.
use Rattle.std.proofs.Common.{◌≡◌, ℕ, zero, suc, List, [], ◌∷◌, map, take, drop, refl, ap, subst, ◌∙◌, Ordering, Less, Greater, filter}
use Rattle.std.specs.Cmp.{IsTotalOrder}
use Rattle.std.specs.List.{AllByRecursion, insert}
use Rattle.std.specs.List.Sorted.{IsStrictlySortedBy}
use Rattle.std.specs.Ordering.{is_lt, ordering_reverse}
use Rattle.iddqd_store.specs.Contents.{AddsItem, Ascends, items_with}

module _ {T K : Type 0} (key : T → K) {cmp : K → K → Ordering} (o : IsTotalOrder cmp) (x : T) where
  turned : (a b : K) → cmp a b ≡ Less → cmp b a ≡ Greater
  turned a b less = o.antisymm b a ∙ ap ordering_reverse less

  -- of items above x, none is below it and all are above it
  none_below : (items : List T) → AllByRecursion (λ k. cmp (key x) k ≡ Less) (map key items) → filter (λ y. is_lt (cmp (key y) (key x))) items ≡ []
  none_below [] above = refl
  none_below (y ∷ ys) above = rw (turned (key x) (key y) above.0) (none_below ys above.1)

  all_above : (items : List T) → AllByRecursion (λ k. cmp (key x) k ≡ Less) (map key items) → filter (λ y. is_lt (cmp (key x) (key y))) items ≡ items
  all_above [] above = refl
  all_above (y ∷ ys) above = rw above.0 (ap (λ zs. y ∷ zs) (all_above ys above.1))

  -- what holds of all keys holds of the one put in
  of_inserted : (P : K → Type 0) (items : List T) (i : ℕ) → AllByRecursion P (map key (insert items i x)) → P (key x)
  of_inserted P items zero all = all.0
  of_inserted P [] (suc i) all = all.0
  of_inserted P (y ∷ ys) (suc i) all = of_inserted P ys i all.1

  -- the items below x are those before its place, and the items above it are those from its place on
  before_place : (items : List T) (i : ℕ) → Ascends key cmp (insert items i x) → filter (λ y. is_lt (cmp (key y) (key x))) items ≡ take i items
  unfolding IsStrictlySortedBy
  before_place items zero s = none_below items s.0
  before_place [] (suc i) s = refl
  before_place (y ∷ ys) (suc i) s = rw (of_inserted (λ k. cmp (key y) k ≡ Less) ys i s.0) (ap (λ zs. y ∷ zs) (before_place ys i s.1))

  behind_place : (items : List T) (i : ℕ) → Ascends key cmp (insert items i x) → filter (λ y. is_lt (cmp (key x) (key y))) items ≡ drop i items
  unfolding IsStrictlySortedBy
  behind_place items zero s = all_above items s.0
  behind_place [] (suc i) s = refl
  behind_place (y ∷ ys) (suc i) s = rw (turned (key y) (key x) (of_inserted (λ k. cmp (key y) k ≡ Less) ys i s.0)) (behind_place ys i s.1)

  pub insert_placed : (items : List T) (i : ℕ) → Ascends key cmp (insert items i x) → insert items i x ≡ items_with key cmp x items
  insert_placed items i s = rw (before_place items i s, behind_place items i s) refl

  -- an item added to the items, which then ascend, stands at its place
  pub added_placed : (old new : List T) → AddsItem x old new → Ascends key cmp new → new ≡ items_with key cmp x old
  added_placed old new adds s = adds.put ∙ insert_placed old adds.place (subst (Ascends key cmp) adds.put s)
