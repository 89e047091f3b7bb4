-- Chains of an order, by which a key meets the laws of a query for itself, and keys that ascend differ.
use Rattle.std.specs.Prelude.{◌≡◌, Bool, List, IsTrue, map}
use Rattle.std.proofs.Common.{refl, sym, ap, ◌∙◌, subst, true≢false}
use Rattle.std.proofs.lemmas.Map.Keys.{IsDistinct-from_sorted}
use Rattle.std.specs.List.{IsDistinct}
use Rattle.std.specs.declared.cmp.Ordering.{Ordering}
use Rattle.std.specs.declared.cmp.Ordering.TheVariants.{Less, Equal, Greater}
use Rattle.std.specs.Ordering.{is_eq, is_le, is_ge, ordering_reverse}
use Rattle.std.specs.Cmp.{IsTotalOrder}
use Rattle.iddqd_store.specs.Contents.{Ascends, NoTwoAkin}

module _ {K : Type 0} {cmp : K → K → Ordering} (o : IsTotalOrder cmp) where
  -- from x <= y and y < z, x < z
  pub le_then_less : (x y z : K) → IsTrue (is_le (cmp x y)) → cmp y z ≡ Less → cmp x z ≡ Less
  le_then_less x y z le lt = by (cmp x y) refl
    where
      by : (r : Ordering) → cmp x y ≡ r → cmp x z ≡ Less
      by Less e = o.trans x y z e lt
      by Equal e = o.congr x y z e ∙ lt
      by Greater e = absurd (true≢false (sym le ∙ ap is_le e))

  -- x > y is y < x
  turned : (x y : K) → cmp x y ≡ Greater → cmp y x ≡ Less
  turned x y gt = o.antisymm y x ∙ ap ordering_reverse gt

  -- from x >= y and y > z, x > z
  pub ge_then_greater : (x y z : K) → IsTrue (is_ge (cmp x y)) → cmp y z ≡ Greater → cmp x z ≡ Greater
  ge_then_greater x y z ge gt = by (cmp x y) refl
    where
      by : (r : Ordering) → cmp x y ≡ r → cmp x z ≡ Greater
      by Less e = absurd (true≢false (sym ge ∙ ap is_ge e))
      by Equal e = o.congr x y z e ∙ gt
      by Greater e = o.antisymm x z ∙ ap ordering_reverse (o.trans z y x (turned y z gt) (turned x y e))

-- items that ascend by key have different keys
pub differ_from_ascends : {T K : Type 0} (key : T → K) {eq : K → K → Bool} (cmp : K → K → Ordering) → ((x y : K) → eq x y ≡ is_eq (cmp x y)) → (items : List T) → Ascends key cmp items → NoTwoAkin key eq items
differ_from_ascends key cmp ties items sorted =
    subst (λ e. IsDistinct e (map key items)) (λ i x y. sym (ties x y) i) (IsDistinct-from_sorted cmp (map key items) sorted)
