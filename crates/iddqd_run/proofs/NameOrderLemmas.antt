-- The items of a map in any order, and the same in the order of their keys: what is found, inserted, removed and replaced is the
-- same.
--     found_in_order      what is found
--     placed_in_order      an item inserted somewhere, and at its place
--     without_in_order, replaced_in_order      the items without one, and with another in its stead
use Rattle.std.proofs.Common.{◌≡◌, ℕ, zero, suc, Bool, true, false, cond, not, List, [], ◌∷◌, map, Some, IsPermutation, refl, sym, ap, ◌∙◌, subst, Ordering, Less, Equal, Greater}
use Rattle.std.proofs.lemmas.List.Sorted.{IsPermutation-cons, IsPermutation-insert, IsPermutation-map, IsPermutation-sym, IsPermutation-trans}
use Rattle.std.specs.Cmp.{IsEquivalence, IsTotalOrder}
use Rattle.std.specs.List.{AllByRecursion, insert}
use Rattle.std.specs.List.Sorted.{IsStrictlySortedBy}
use Rattle.std.specs.Ordering.{is_eq, ordering_reverse}
use Rattle.iddqd.specs.Contents.{AddsItem, Ascends, IsAbsent, IsKeyTest, find_item, items_with, items_overwritten, items_without}
use Rattle.iddqd.proofs.DistinctLemmas.{all_insert, weaken}
use Rattle.iddqd.proofs.KeepsLemmas.{ascends_filter}
use Rattle.iddqd.proofs.MappedLemmas.{insert-map}
use Rattle.iddqd.proofs.OrderLemmas.{find_moved}
use Rattle.iddqd.proofs.PlacedLemmas.{insert_placed}
use Rattle.iddqd.specs.Query.{differ_from_ascends}
use Rattle.iddqd.proofs.PermutationLemmas.{filter_permutation}

module _ {T K : Type 0} (key : T → K) {eq : K → K → Bool} {cmp : K → K → Ordering} (equivalence : IsEquivalence eq) (total : IsTotalOrder cmp) (ties : (x y : K) → eq x y ≡ is_eq (cmp x y)) where
  -- the items in the order of their keys
  pub record AreInOrder (items ordered : List T) : Type 0 where
    pub same : IsPermutation items ordered
    pub ascending : Ascends key cmp ordered

  pub found_in_order : (test : K → Bool) → IsKeyTest eq test → (items ordered : List T) → AreInOrder items ordered → find_item key test items ≡ find_item key test ordered
  found_in_order test tests items ordered are =
      find_moved key equivalence test tests ordered items (IsPermutation-sym items ordered are.same) (differ_from_ascends key cmp ties ordered are.ascending)

  module _ (x : T) where
    -- among items that ascend, none of which has the key of x, there is a place for x
    place_for : (ordered : List T) → IsAbsent key (eq (key x)) ordered → Ascends key cmp ordered → (i : ℕ) × Ascends key cmp (insert ordered i x)
    unfolding IsStrictlySortedBy
    place_for [] absent s = (zero, (tt, tt))
    place_for (y ∷ ys) absent s = by (cmp (key x) (key y)) refl (eq (key x) (key y)) refl (λ rest. place_for ys rest s.1)
      where
        by : (r : Ordering) → cmp (key x) (key y) ≡ r → (b : Bool) → eq (key x) (key y) ≡ b → (IsAbsent key (eq (key x)) ys → (i : ℕ) × Ascends key cmp (insert ys i x)) → (i : ℕ) × Ascends key cmp (insert (y ∷ ys) i x)
        by r e true alike more = absurd (let found = ap (λ b. cond b (Some y) (find_item key (eq (key x)) ys)) alike in cc)
        by Less e false apart more = (zero, ((e, weaken (λ k less. total.trans (key x) (key y) k e less) (map key ys) s.0), s))
        by Equal e false apart more = absurd (let tie = ties (key x) (key y) in let same = ap is_eq e in cc)
        by Greater e false apart more =
            let rest = more (sym (ap (λ b. cond b (Some y) (find_item key (eq (key x)) ys)) apart) ∙ absent) in
            let below : cmp (key y) (key x) ≡ Less = total.antisymm (key y) (key x) ∙ ap ordering_reverse e in
            (suc rest.0, (subst (AllByRecursion (λ k. cmp (key y) k ≡ Less)) (sym (insert-map key ys rest.0 x)) (all_insert (λ k. cmp (key y) k ≡ Less) (map key ys) rest.0 (key x) below s.0), rest.1))

    pub placed_in_order : (old new ordered : List T) → AddsItem x old new → IsAbsent key (eq (key x)) ordered → AreInOrder old ordered → AreInOrder new (items_with key cmp x ordered)
    placed_in_order old new ordered adds absent are =
        let place = place_for ordered absent are.ascending in
        let put = insert_placed key total x ordered place.0 place.1 in
        let more : IsPermutation new (x ∷ old) = subst (λ items. IsPermutation items (x ∷ old)) (sym adds.put) (IsPermutation-sym (x ∷ old) (insert old adds.place x) (IsPermutation-insert old adds.place x)) in
        record {
          same = IsPermutation-trans new (x ∷ old) (items_with key cmp x ordered) more
              (IsPermutation-trans (x ∷ old) (x ∷ ordered) (items_with key cmp x ordered) (IsPermutation-cons x old ordered are.same)
              (subst (IsPermutation (x ∷ ordered)) put (IsPermutation-insert ordered place.0 x)));
          ascending = subst (Ascends key cmp) put place.1;
        }

    -- x has the very key of each item that it replaces
    pub replaced_in_order : ((k : K) → eq (key x) k ≡ true → key x ≡ k) → (items ordered : List T) → AreInOrder items ordered → AreInOrder (items_overwritten key (eq (key x)) x items) (items_overwritten key (eq (key x)) x ordered)
    replaced_in_order decides items ordered are = record {
      same = IsPermutation-map (λ w. cond (eq (key x) (key w)) x w) items ordered are.same;
      ascending = subst (λ ks. IsStrictlySortedBy cmp ks) (sym (same_keys ordered)) are.ascending;
    }
      where
        same_key : (w : T) (b : Bool) → eq (key x) (key w) ≡ b → key (cond b x w) ≡ key w
        same_key w true e = decides (key w) e
        same_key w false e = refl

        same_keys : (ws : List T) → map key (items_overwritten key (eq (key x)) x ws) ≡ map key ws
        same_keys [] = refl
        same_keys (w ∷ ws) = rw (same_key w (eq (key x) (key w)) refl) (ap (λ ks. key w ∷ ks) (same_keys ws))

  pub without_in_order : (test : K → Bool) (items ordered : List T) → AreInOrder items ordered → AreInOrder (items_without key test items) (items_without key test ordered)
  without_in_order test items ordered are = record {
    same = filter_permutation (λ w. not (test (key w))) items ordered are.same;
    ascending = ascends_filter key cmp (λ w. not (test (key w))) ordered are.ascending;
  }
