-- The slots of a list that have an item, moved to its front.
--     distinct_filter      they are different
--     few_filtered      they are no more than all
--     read_within      a run that was read ends within the list
--     moved      some slots read, and those that have an item written to the front
use Rattle.std.proofs.Common.{◌≡◌, ◌+◌, ◌-◌, ◌<◌, ◌≤◌, ℕ, Bool, true, false, List, [], ◌∷◌, ◌++◌, length, take, drop, filter, cond, refl, sym, ap, ◌∙◌, arith, append_assoc, length-append, length-drop}
use Rattle.std.specs.List.{AllByRecursion, IsDistinct}
use Rattle.std.proofs.lemmas.List.{drop-drop, drop_at}
use Rattle.std.proofs.lemmas.List.Elements.{filter-append}
use Rattle.std.proofs.lemmas.List.Sums.{count_by-le-length, length-filter}

-- a run that was read from place `at` on ends within the list
pub read_within : {X : Type 0} (old run rest : List X) (at : ℕ) → drop at old ≡ run ++ rest → 0 < length run → at + length run ≤ length old
read_within old run rest at read some = omega (arith, ap length read, length-append run rest, length-drop at old)

module _ {X : Type 0} (p : X → Bool) where
  all_filter : (P : X → Type 0) (xs : List X) → AllByRecursion P xs → AllByRecursion P (filter p xs)
  all_filter P [] all = tt
  all_filter P (x ∷ xs) all =
      let rest = all_filter P xs all.1 in
      elim (p x) as (λ b. AllByRecursion P (cond b (x ∷ filter p xs) (filter p xs))) [ true ↦ (all.0, rest) | false ↦ rest ]

  pub distinct_filter : (eq : X → X → Bool) (xs : List X) → IsDistinct eq xs → IsDistinct eq (filter p xs)
  unfolding IsDistinct
  distinct_filter eq [] d = tt
  distinct_filter eq (x ∷ xs) d =
      let rest = distinct_filter eq xs d.1 in
      elim (p x) as (λ b. IsDistinct eq (cond b (x ∷ filter p xs) (filter p xs))) [ true ↦ (all_filter (λ y. eq x y ≡ false) xs d.0, rest) | false ↦ rest ]

  pub few_filtered : (xs : List X) → length (filter p xs) ≤ length xs
  few_filtered xs = omega (arith, length-filter p xs, count_by-le-length p xs)

  -- `run` was read from place `at` on, and its elements that pass were written from place `kept` on
  pub moved : (old new run rest written : List X) (kept at : ℕ) → drop at old ≡ run ++ rest → written ≡ filter p run → take (kept + length written) new ≡ take kept old ++ written
      → drop (kept + length written) new ≡ drop (kept + length written) old → kept ≤ at
      → take (kept + length written) new ++ filter p (drop (at + length run) new) ≡ take kept old ++ filter p (drop at old)
  moved old new run rest written kept at read passed front back le =
      let few = few_filtered run in
      let more = at + length run - (kept + length written) in
      let k : kept + length written + more ≡ at + length run = omega (arith, ap length passed) in
      let left : drop (at + length run) new ≡ rest =
      ap (λ n. drop n new) (sym k) ∙ (sym (drop-drop more (kept + length written) new) ∙ (ap (drop more) back ∙ (drop-drop more (kept + length written) old
      ∙ (ap (λ n. drop n old) k ∙ (sym (drop-drop (length run) at old) ∙ (ap (drop (length run)) read ∙ drop_at run rest (length run) refl)))))) in
      ap (λ l. take (kept + length written) new ++ filter p l) left
      ∙ (ap (λ l. l ++ filter p rest) front
      ∙ (append_assoc (take kept old) written (filter p rest)
      ∙ (ap (λ l. take kept old ++ (l ++ filter p rest)) passed
      ∙ ap (λ l. take kept old ++ l) (sym (filter-append p run rest) ∙ ap (filter p) (sym read)))))
