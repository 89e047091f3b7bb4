use Rattle.std.proofs.Common.{◌≡◌, ℕ, zero, suc, ◌∙◌, List, [], ◌∷◌, Some, drop, length, length-drop, option_copied, slice_get, refl, ap, sym, arith}
use Rattle.std.proofs.lemmas.Option.{slice_get_past}
use Rattle.std.specs.Option.{option_and_then}
use Rattle.iddqd_store.specs.Store.{item_at}
use Rattle.iddqd_ord_index.proofs.ListedLemmas.{get-listed}
use Rattle.iddqd_ord.specs.Ranges.{bound_now, is_from}
use Rattle.iddqd_ord.proofs.RangeLemmas.{first_passing}
use Rattle.iddqd_ord.proofs.id_ord_map.IdOrdMap.lower_bound.Goals as goal

first_is : (xs : List ℕ) (n : ℕ) → slice_get xs n ≡ slice_get (drop n xs) 0
first_is xs zero = refl
first_is [] (suc n) = refl
first_is (x ∷ xs) (suc n) = first_is xs n

pub returns : goal.returns
returns g c =
    let m = c.self.inside in
    let from = c.walk_from.ensures.start in
    let first : slice_get m.index.slots from.0 ≡ Some c.in_ok-slot.slot =
    first_is m.index.slots from.0 ∙ ap (λ l. slice_get l 0) (ap (λ v. drop from.0 v.slots) c.self.view_is ∙ sym from.2 ∙ c.in_ok-slot.ensures.steps) in
    c.get.ensures
    ∙ sym (ap (option_and_then (item_at m.store)) first)
    ∙ sym (get-listed m.store m.index.slots c.self.invariant.occupied from.0)
    ∙ ap (λ v. slice_get v.items from.0) c.self.view_is
    ∙ sym (first_passing g.T.IdOrdItem.key (is_from g.Q.Comparable.compare (bound_now c.args.from)) c.args.self.now.items from.0 from.1)

pub returns-in_err-slot : goal.returns-in_err-slot
returns-in_err-slot g c =
    let map = c.args.self.now in
    let from = c.walk_from.ensures.start in
    let past = slice_get_past map.items from.0 (omega (arith, c.walk_from.ensures.own.as_many, length-drop from.0 map.slots, ap length from.2, ap length c.in_err-slot.ensures.steps.0)) in
    ap option_copied c.from_residual.ensures ∙ sym (first_passing g.T.IdOrdItem.key (is_from g.Q.Comparable.compare (bound_now c.args.from)) map.items from.0 from.1 ∙ past)
