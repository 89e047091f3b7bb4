-- The same items in another order: no two keys are equal after a replacement.
--     differ_replaced      no two keys are equal after a replacement
use Rattle.std.proofs.Common.{◌≡◌, Bool, true, false, cond, List, [], ◌∷◌, map, refl, ◌∙◌}
use Rattle.std.specs.Cmp.{IsEquivalence}
use Rattle.std.specs.List.{AllByRecursion, IsDistinct}
use Rattle.iddqd.specs.Contents.{items_overwritten, NoTwoAkin}
use Rattle.iddqd.proofs.DistinctLemmas.{weaken}

module _ {T K : Type 0} (key : T → K) {eq : K → K → Bool} (equivalence : IsEquivalence eq) where
  -- items whose keys stay alike stay apart
  module _ (f : T → T) (alike : (w : T) (k : K) → eq (key (f w)) k ≡ eq (key w) k) where
    apart_mapped : (k : K) (xs : List T) → AllByRecursion (λ j. eq k j ≡ false) (map key xs) → AllByRecursion (λ j. eq k j ≡ false) (map key (map f xs))
    apart_mapped k [] a = tt
    apart_mapped k (w ∷ ws) a = (equivalence.symm k (key (f w)) ∙ (alike w k ∙ (equivalence.symm (key w) k ∙ a.0)), apart_mapped k ws a.1)

    differ_mapped : (xs : List T) → NoTwoAkin key eq xs → NoTwoAkin key eq (map f xs)
    unfolding IsDistinct
    differ_mapped [] d = tt
    differ_mapped (w ∷ ws) d = (weaken (λ k apart. alike w k ∙ apart) (map key (map f ws)) (apart_mapped (key w) ws d.0), differ_mapped ws d.1)

  alike_if : (x w : T) (k : K) (b : Bool) → eq (key x) (key w) ≡ b → eq (key (cond b x w)) k ≡ eq (key w) k
  alike_if x w k true e = equivalence.congr (key x) (key w) k e
  alike_if x w k false e = refl

  -- x in place of an item of an equal key
  pub differ_replaced : (x : T) (xs : List T) → NoTwoAkin key eq xs → NoTwoAkin key eq (items_overwritten key (eq (key x)) x xs)
  differ_replaced x = differ_mapped (λ w. cond (eq (key x) (key w)) x w) (λ w k. alike_if x w k (eq (key x) (key w)) refl)
