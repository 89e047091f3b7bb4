-- Lists that ascend by key: their order is told by their elements.
--     same_ascending      lists of the same elements that ascend are the same
--     ordered_steps      so a shrink of an ordered map leaves the same list, and an insertion puts the item at its place
use Rattle.std.proofs.Common.{◌≡◌, ℕ, zero, suc, ◌<◌, List, [], ◌∷◌, length, map, get_or, refl, sym, ap, ◌∙◌, subst, arith, inl, inr, ◌⊎◌, ⊎_elim, Ordering, Less, suc-le-suc, IsPermutation}
use Rattle.std.proofs.Math.Nat.{le_of_suc-le-suc}
use Rattle.std.proofs.lemmas.List.Sorted.{Contains-permutation, IsPermutation-sym}
use Rattle.std.specs.Cmp.{IsTotalOrder}
use Rattle.std.specs.List.{AllByRecursion, Contains}
use Rattle.std.specs.List.Sorted.{IsStrictlySortedBy}
use Rattle.std.specs.Ordering.{ordering_reverse}
use Rattle.iddqd.specs.Contents.{Ascends}
use Rattle.iddqd.proofs.PlacedLemmas.{added_placed}
use Rattle.idtable_commands.specs.OrderedSteps.{OrderedSteps}
use Rattle.idtable_commands.specs.Step.{Answers, Ordered}
use Rattle.idtable_commands.specs.declared.commands.Command.TheVariants.{Shrink}
use Rattle.idtable_commands.specs.declared.commands.Reply.{Reply}
use Rattle.idtable_commands.specs.declared.commands.Reply.TheVariants.{Done, Refused}

module _ {T K : Type 0} (key : T → K) {cmp : K → K → Ordering} (o : IsTotalOrder cmp) where
  first_or_later : (y : T) (ys : List T) (z : T) → Contains (y ∷ ys) z → (y ≡ z) ⊎ Contains ys z
  first_or_later y ys z c = by c.0 c.1 c.2
    where
      by : (i : ℕ) → i < length (y ∷ ys) → get_or (y ∷ ys) i z ≡ z → (y ≡ z) ⊎ Contains ys z
      by zero h e = inl e
      by (suc i) h e = inr (i, le_of_suc-le-suc h, e)

  later_in : (y : T) (ys : List T) (z : T) → Contains ys z → Contains (y ∷ ys) z
  later_in y ys z c = (suc c.0, suc-le-suc c.1, c.2)

  below_all : (x : T) (ys : List T) → AllByRecursion (λ k. cmp (key x) k ≡ Less) (map key ys) → (z : T) → Contains ys z → cmp (key x) (key z) ≡ Less
  below_all x [] all z c = absurd (omega (arith, c.1))
  below_all x (y ∷ ys) all z c = ⊎_elim (λ e. subst (λ w. cmp (key x) (key w) ≡ Less) e all.0) (λ later. below_all x ys all.1 z later) (first_or_later y ys z c)

  not_both : (x y : K) → cmp x y ≡ Less → cmp y x ≡ Less → ⊥
  not_both x y a b = (let turned = o.antisymm x y ∙ ap ordering_reverse b in cc)

  ascending_of_same : (xs ys : List T) → ((z : T) → Contains xs z → Contains ys z) → ((z : T) → Contains ys z → Contains xs z) → Ascends key cmp xs → Ascends key cmp ys → xs ≡ ys
  unfolding IsStrictlySortedBy
  ascending_of_same [] [] to back s t = refl
  ascending_of_same [] (y ∷ ys) to back s t = absurd (let c = back y (zero, omega arith, refl) in omega (arith, c.1))
  ascending_of_same (x ∷ xs) [] to back s t = absurd (let c = to x (zero, omega arith, refl) in omega (arith, c.1))
  ascending_of_same (x ∷ xs) (y ∷ ys) to back s t =
      let head : x ≡ y = ⊎_elim (λ e. sym e)
      (λ in_ys. ⊎_elim (λ e. e) (λ in_xs. absurd (not_both (key y) (key x) (below_all y ys t.0 x in_ys) (below_all x xs s.0 y in_xs))) (first_or_later x xs y (back y (zero, omega arith, refl))))
      (first_or_later y ys x (to x (zero, omega arith, refl))) in
      let itself : (w : T) → cmp (key w) (key w) ≡ Less → ⊥ = λ w less. not_both (key w) (key w) less less in
      let rest = ascending_of_same xs ys
      (λ z c. ⊎_elim (λ e. absurd (itself z (subst (λ w. cmp (key w) (key z) ≡ Less) (head ∙ e) (below_all x xs s.0 z c)))) (λ r. r) (first_or_later y ys z (to z (later_in x xs z c))))
      (λ z c. ⊎_elim (λ e. absurd (itself z (subst (λ w. cmp (key w) (key z) ≡ Less) (sym head ∙ e) (below_all y ys t.0 z c)))) (λ r. r) (first_or_later x xs z (back z (later_in y ys z c))))
      s.1 t.1 in
      ap (λ w. w ∷ xs) head ∙ ap (λ zs. y ∷ zs) rest

  -- lists of the same elements that ascend are the same
  pub same_ascending : (xs ys : List T) → IsPermutation xs ys → Ascends key cmp xs → Ascends key cmp ys → xs ≡ ys
  same_ascending xs ys same s t =
      ascending_of_same xs ys (λ z c. Contains-permutation xs ys z same c) (λ z c. Contains-permutation ys xs z (IsPermutation-sym xs ys same) c) s t

pub ordered_steps : {T K V : Type 0} → OrderedSteps T K V
ordered_steps key eq visits limit compare o old new ascends = record {
  shrunk = λ reply step. sym (same_ascending key o old.items new.items (shrunk_same reply step.does.answers) ascends step.lie);
  inserted = λ x step. added_placed key o x old.items new.items step.does.answers.2 step.lie;
}
  where
    shrunk_same : (reply : Reply _) → Answers key eq visits limit (Ordered compare) Shrink old reply new.items → IsPermutation old.items new.items
    shrunk_same Done a = a
    shrunk_same (Refused back kind) a = a.2
    shrunk_same reply a = absurd a
