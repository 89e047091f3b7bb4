-- The law of an order by texts that a function gives, which a test's key has.
use Rattle.std.specs.Prelude.{ℕ, List, nat_eq}
use Rattle.std.specs.Cmp.{IsPartialOrder, po}
use Rattle.std.specs.Cmp.Lexicographic.{slice_cmp, pointwise, on_texts, texts_ties}
use Rattle.std.specs.Ordering.{nat_cmp, on, as_partial_cmp}

pub folded_po : {K : Type 0} (f : K → List ℕ) → IsPartialOrder (on f (pointwise nat_eq)) (as_partial_cmp (on f (slice_cmp nat_cmp)))
folded_po f = po (on_texts f) (λ x y. texts_ties (f x) (f y))
