-- How keys that compare as equal, or the other way round, compare with others.
--     eq_where      equal keys compare as `Equal`
--     turned, turned_back      the comparison of the second key with the first
--     Minds      what holds of each key that is equal to one of which it holds
use Rattle.std.proofs.Common.{◌≡◌, Bool, true, refl, sym, ap, ◌∙◌, Ordering, Less, Equal, Greater}
use Rattle.std.specs.Cmp.{IsTotalOrder}
use Rattle.std.specs.Ordering.{is_eq, ordering_reverse}

pub eq_where : {K : Type 0} (eq : K → K → Bool) (cmp : K → K → Ordering) → ((x y : K) → eq x y ≡ is_eq (cmp x y)) → (x y : K) → eq x y ≡ true → cmp x y ≡ Equal
eq_where eq cmp ties x y e = by (cmp x y) (sym (ties x y) ∙ e)
  where
    by : (r : Ordering) → is_eq r ≡ true → r ≡ Equal
    by Less h = cc
    by Equal h = refl
    by Greater h = cc

module _ {K : Type 0} (cmp : K → K → Ordering) (o : IsTotalOrder cmp) where
  abbrev pub Minds : (K → Type 0) → Type 0
  Minds P = (a b : K) → cmp a b ≡ Equal → P a → P b

  pub turned : (a b : K) → cmp a b ≡ Less → cmp b a ≡ Greater
  turned a b less = o.antisymm b a ∙ ap ordering_reverse less

  pub turned_back : (a b : K) → cmp a b ≡ Greater → cmp b a ≡ Less
  turned_back a b more = o.antisymm b a ∙ ap ordering_reverse more
