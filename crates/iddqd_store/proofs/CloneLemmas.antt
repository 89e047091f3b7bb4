-- Clones that keep their keys, place by place.
--     differ_clones, ascends_clones      their keys differ as their items' do, and ascend as theirs
--     clones_on, occupied_both, clone_at      what a store's clone has in each slot
use Rattle.std.proofs.Common.{◌≡◌, ℕ, zero, suc, Bool, true, false, List, [], ◌∷◌, map, get_or, Option, Some, None, is_some, refl, sym, ap, ◌∙◌, Ordering, Less, Equal, Greater, true≢false}
use Rattle.std.proofs.lemmas.Cmp.{alike_right}
use Rattle.std.specs.Cmp.{IsEquivalence, IsTotalOrder}
use Rattle.std.specs.List.{AllByRecursion, AllZip, IsDistinct, cons_option}
use Rattle.std.specs.List.Sorted.{IsStrictlySortedBy}
use Rattle.std.specs.Ordering.{is_eq}
use Rattle.iddqd_store.specs.Contents.{Ascends, ClonesKeepKeys, NoTwoAkin}
use Rattle.iddqd_store.specs.Store.{IsItemClone}

module _ {T K : Type 0} (key : T → K) (is_clone : T → T → Type 0) where
  -- what holds of the items' keys holds of the clones', if each key passes it on
  all_clones : (P Q : K → Type 0) → ((x y : T) → is_clone x y → P (key x) → Q (key y)) → (xs ys : List T) → AllZip is_clone xs ys → AllByRecursion P (map key xs) → AllByRecursion Q (map key ys)
  all_clones P Q f [] [] clones a = tt
  all_clones P Q f [] (y ∷ ys) clones a = absurd clones
  all_clones P Q f (x ∷ xs) [] clones a = absurd clones
  all_clones P Q f (x ∷ xs) (y ∷ ys) clones a = (f x y clones.0 a.0, all_clones P Q f xs ys clones.1 a.1)

  module _ {eq : K → K → Bool} (keeps : ClonesKeepKeys key eq is_clone) where
    -- the clones have different keys
    module _ (equivalence : IsEquivalence eq) where
      apart : (x y : T) → is_clone x y → (z w : T) → is_clone z w → eq (key x) (key z) ≡ false → eq (key y) (key w) ≡ false
      apart x y c z w d differ =
          sym (equivalence.congr (key x) (key y) (key w) (keeps x y c)) ∙ equivalence.symm (key x) (key w)
          ∙ sym (equivalence.congr (key z) (key w) (key x) (keeps z w d)) ∙ equivalence.symm (key z) (key x) ∙ differ

      pub differ_clones : (xs ys : List T) → AllZip is_clone xs ys → NoTwoAkin key eq xs → NoTwoAkin key eq ys
      unfolding IsDistinct
      differ_clones [] [] clones d = tt
      differ_clones [] (y ∷ ys) clones d = absurd clones
      differ_clones (x ∷ xs) [] clones d = absurd clones
      differ_clones (x ∷ xs) (y ∷ ys) clones d = (all_clones (λ k. eq (key x) k ≡ false) (λ k. eq (key y) k ≡ false) (apart x y clones.0) xs ys clones.1 d.0, differ_clones xs ys clones.1 d.1)

    -- the clones ascend
    module _ {cmp : K → K → Ordering} (o : IsTotalOrder cmp) (ties : (x y : K) → eq x y ≡ is_eq (cmp x y)) where
      level : (r : Ordering) → is_eq r ≡ true → r ≡ Equal
      level Less e = absurd (true≢false (sym e))
      level Equal e = refl
      level Greater e = absurd (true≢false (sym e))

      alike : (x y : T) → is_clone x y → cmp (key x) (key y) ≡ Equal
      alike x y c = level (cmp (key x) (key y)) (sym (ties (key x) (key y)) ∙ keeps x y c)

      below : (x y : T) → is_clone x y → (z w : T) → is_clone z w → cmp (key x) (key z) ≡ Less → cmp (key y) (key w) ≡ Less
      below x y c z w d less = sym (alike_right o (key z) (key w) (key y) (alike z w d)) ∙ sym (o.congr (key x) (key y) (key z) (alike x y c)) ∙ less

      pub ascends_clones : (xs ys : List T) → AllZip is_clone xs ys → Ascends key cmp xs → Ascends key cmp ys
      unfolding IsStrictlySortedBy
      ascends_clones [] [] clones s = tt
      ascends_clones [] (y ∷ ys) clones s = absurd clones
      ascends_clones (x ∷ xs) [] clones s = absurd clones
      ascends_clones (x ∷ xs) (y ∷ ys) clones s = (all_clones (λ k. cmp (key x) k ≡ Less) (λ k. cmp (key y) k ≡ Less) (below x y clones.0) xs ys clones.1 s.0, ascends_clones xs ys clones.1 s.1)

-- a store and its clone, slot by slot
module _ {T : Type 0} (is_clone : T → T → Type 0) where
  -- of the items that are there, the clones
  pub clones_on : (o p : Option T) (xs ys : List T) → IsItemClone is_clone o p → AllZip is_clone xs ys → AllZip is_clone (cons_option o xs) (cons_option p ys)
  clones_on None p xs ys same all = rw same all
  clones_on (Some x) None xs ys same all = absurd same
  clones_on (Some x) (Some y) xs ys same all = (same, all)

  -- a slot is occupied in both, or vacant in both
  pub occupied_both : (o p : Option T) → IsItemClone is_clone o p → is_some p ≡ is_some o
  occupied_both None p same = ap is_some same
  occupied_both (Some x) None same = absurd same
  occupied_both (Some x) (Some y) same = refl

  pub clone_at : (os ps : List (Option T)) (slot : ℕ) → AllZip (IsItemClone is_clone) os ps → IsItemClone is_clone (get_or os slot None) (get_or ps slot None)
  clone_at [] [] slot all = refl
  clone_at [] (p ∷ ps) slot all = absurd all
  clone_at (o ∷ os) [] slot all = absurd all
  clone_at (o ∷ os) (p ∷ ps) zero all = all.0
  clone_at (o ∷ os) (p ∷ ps) (suc slot) all = clone_at os ps slot all.1
