-- What lookups of the items of two lists in each other say of them.
--     old_items, new_items      each item of either list is there once
--     all_akin      the two items that are kept have equal keys
--     removed_items, added_items      what was removed is what the other list lacks, and so is what was added
--     length_most      how many there are at most
use Rattle.std.proofs.Common.{◌≡◌, ◌+◌, ◌≤◌, Bool, true, false, arith, cond, List, [], ◌∷◌, ◌++◌, length, map, filter, filter_map, Option, Some, None, is_none, is_some, refl, sym, ap, true≢false, ◌∙◌}
use Rattle.std.proofs.lemmas.List.{append-nil, length-append, length-map}
use Rattle.std.proofs.lemmas.List.Elements.{All-nil, All-cons, All-append, filter_map-append}
use Rattle.std.proofs.lemmas.List.Sorted.{IsPermutation-refl, IsPermutation-sym, IsPermutation-trans, IsPermutation-cons, IsPermutation-middle, IsPermutation-append_right}
use Rattle.std.specs.Cmp.{IsEquivalence}
use Rattle.std.specs.List.{All, AllByRecursion, IsDistinct, cons_option}
use Rattle.std.specs.List.Sorted.{IsPermutation}
use Rattle.iddqd.specs.Contents.{NoTwoAkin, find_item}
use Rattle.iddqd.proofs.ChangeLemmas.{found_passes}
use Rattle.iddqd_diff.specs.declared.difference.Difference.{Difference}
use Rattle.iddqd_diff.specs.declared.difference.Difference.TheVariants.{Added}
use Rattle.iddqd_diff.specs.Difference.{added_item, IsAkin, lacks, new_item, old_item, removed_item}
use Rattle.iddqd_diff.specs.Walks.{beside, looked_up, paired}
use Rattle.iddqd_diff.proofs.AddedLemmas.{added_akin, all_added, all_lacking, all_new, none_old, none_removed}

module _ {T : Type 0} where
  length_passed : (p : T → Bool) (xs : List T) → length (filter p xs) ≤ length xs
  length_passed p [] = omega arith
  length_passed p (x ∷ xs) =
      let rest = length_passed p xs in
      elim (p x) as (λ b. length (cond b (x ∷ filter p xs) (filter p xs)) ≤ length (x ∷ xs)) [ true ↦ omega arith | false ↦ omega arith ]

module _ {T K : Type 0} (key : T → K) (eq : K → K → Bool) (all_old all_new_items : List T) where
  both : (h : Difference T T → Option T) (old new : List T) → filter_map h (looked_up key eq all_old all_new_items old new) ≡ filter_map h (map (beside key eq all_old all_new_items) old) ++ filter_map h (map Added (filter (lacks key eq all_old) new))
  both h old new = filter_map-append h (map (beside key eq all_old all_new_items) old) (map Added (filter (lacks key eq all_old) new))

  own_old : (old : List T) → filter_map old_item (map (beside key eq all_old all_new_items) old) ≡ old
  own_old [] = refl
  own_old (x ∷ old) =
      let rest = own_old old in
      elim (find_item key (eq (key x)) all_new_items) as (λ f. cons_option (old_item (paired x f)) (filter_map old_item (map (beside key eq all_old all_new_items) old)) ≡ x ∷ old)
      [ None ↦ ap (λ xs. x ∷ xs) rest | Some y ↦ ap (λ xs. x ∷ xs) rest ]

  pub old_items : (old new : List T) → filter_map old_item (looked_up key eq all_old all_new_items old new) ≡ old
  old_items old new = both old_item old new ∙ (λ i. own_old old i ++ none_old (filter (lacks key eq all_old) new) i) ∙ append-nil old

  own_removed : (old : List T) → filter_map removed_item (map (beside key eq all_old all_new_items) old) ≡ filter (lacks key eq all_new_items) old
  own_removed [] = refl
  own_removed (x ∷ old) =
      let rest = own_removed old in
      elim (find_item key (eq (key x)) all_new_items) as (λ f. cons_option (removed_item (paired x f)) (filter_map removed_item (map (beside key eq all_old all_new_items) old)) ≡ cond (is_none f) (x ∷ filter (lacks key eq all_new_items) old) (filter (lacks key eq all_new_items) old))
      [ None ↦ ap (λ xs. x ∷ xs) rest | Some y ↦ rest ]

  pub removed_items : (old new : List T) → filter_map removed_item (looked_up key eq all_old all_new_items old new) ≡ filter (lacks key eq all_new_items) old
  removed_items old new = both removed_item old new ∙ (λ i. own_removed old i ++ none_removed (filter (lacks key eq all_old) new) i) ∙ append-nil (filter (lacks key eq all_new_items) old)

  own_added : (old : List T) → filter_map added_item (map (beside key eq all_old all_new_items) old) ≡ []
  own_added [] = refl
  own_added (x ∷ old) =
      let rest = own_added old in
      elim (find_item key (eq (key x)) all_new_items) as (λ f. cons_option (added_item (paired x f)) (filter_map added_item (map (beside key eq all_old all_new_items) old)) ≡ [])
      [ None ↦ rest | Some y ↦ rest ]

  pub added_items : (old new : List T) → filter_map added_item (looked_up key eq all_old all_new_items old new) ≡ filter (lacks key eq all_old) new
  added_items old new = both added_item old new ∙ (λ i. own_added old i ++ all_added (filter (lacks key eq all_old) new) i)

  own_new : (old : List T) → filter_map new_item (map (beside key eq all_old all_new_items) old) ≡ filter_map (λ x. find_item key (eq (key x)) all_new_items) old
  own_new [] = refl
  own_new (x ∷ old) =
      let rest = own_new old in
      elim (find_item key (eq (key x)) all_new_items) as (λ f. cons_option (new_item (paired x f)) (filter_map new_item (map (beside key eq all_old all_new_items) old)) ≡ cons_option f (filter_map (λ z. find_item key (eq (key z)) all_new_items) old))
      [ None ↦ rest | Some y ↦ ap (λ ys. y ∷ ys) rest ]

  pub found_or_lacking : (old new : List T) → filter_map new_item (looked_up key eq all_old all_new_items old new) ≡ filter_map (λ x. find_item key (eq (key x)) all_new_items) old ++ filter (lacks key eq all_old) new
  found_or_lacking old new = both new_item old new ∙ (λ i. own_new old i ++ all_new (filter (lacks key eq all_old) new) i)

  beside_akin : (x : T) → IsAkin key eq (beside key eq all_old all_new_items x)
  beside_akin x = by (find_item key (eq (key x)) all_new_items) refl
    where
      by : (f : Option T) → find_item key (eq (key x)) all_new_items ≡ f → IsAkin key eq (paired x f)
      by None e = tt
      by (Some y) e = found_passes (λ z. eq (key x) (key z)) all_new_items y e

  own_akin : (old : List T) → All (IsAkin key eq) (map (beside key eq all_old all_new_items) old)
  own_akin [] = All-nil (IsAkin key eq)
  own_akin (x ∷ old) = All-cons (IsAkin key eq) (beside key eq all_old all_new_items x) (map (beside key eq all_old all_new_items) old) (beside_akin x) (own_akin old)

  pub all_akin : (old new : List T) → All (IsAkin key eq) (looked_up key eq all_old all_new_items old new)
  all_akin old new = All-append (IsAkin key eq) (map (beside key eq all_old all_new_items) old) (map Added (filter (lacks key eq all_old) new)) (own_akin old) (added_akin key eq (filter (lacks key eq all_old) new))

  pub length_most : (old new : List T) → length (looked_up key eq all_old all_new_items old new) ≤ length old + length new
  length_most old new = omega (arith, length-append (map (beside key eq all_old all_new_items) old) (map Added (filter (lacks key eq all_old) new)), length-map old (beside key eq all_old all_new_items), length-map {B = Difference T T} (filter (lacks key eq all_old) new) (λ y. Added y), length_passed (lacks key eq all_old) new)

module _ {T K : Type 0} (key : T → K) (eq : K → K → Bool) (equivalence : IsEquivalence eq) where
  -- an item of no other's key is found nowhere
  apart : (k : K) (items : List T) → AllByRecursion (λ m. eq k m ≡ false) (map key items) → find_item key (eq k) items ≡ None
  apart k [] a = refl
  apart k (x ∷ items) a = rw a.0 (apart k items a.1)

  alike : (k m : K) (items : List T) → eq k m ≡ true → find_item key (eq m) items ≡ find_item key (eq k) items
  alike k m items e = ap (λ (t : K → Bool). find_item key t items) (λ i l. sym (equivalence.congr k m l e) i)

  unfound : (x z : T) (old : List T) → eq (key x) (key z) ≡ false → lacks key eq (x ∷ old) z ≡ lacks key eq old z
  unfound x z old e = rw (equivalence.symm (key z) (key x) ∙ e) refl

  none_taken : (x : T) (old new : List T) → AllByRecursion (λ m. eq (key x) m ≡ false) (map key new) → filter (lacks key eq (x ∷ old)) new ≡ filter (lacks key eq old) new
  none_taken x old [] a = refl
  none_taken x old (z ∷ new) a = rw (equivalence.symm (key z) (key x) ∙ a.0) (ap (λ zs. cond (lacks key eq old z) (z ∷ zs) zs) (none_taken x old new a.1))

  no_other : (k : K) (new : List T) → find_item key (eq k) new ≡ None → AllByRecursion (λ m. eq k m ≡ false) (map key new)
  no_other k [] e = tt
  no_other k (z ∷ new) e = by (eq k (key z)) refl e (no_other k new)
    where
      by : (b : Bool) → eq k (key z) ≡ b → cond b (Some z) (find_item key (eq k) new) ≡ None → (find_item key (eq k) new ≡ None → AllByRecursion (λ m. eq k m ≡ false) (map key new)) → (eq k (key z) ≡ false) × AllByRecursion (λ m. eq k m ≡ false) (map key new)
      by true h e rest = absurd (true≢false (ap is_some e))
      by false h e rest = (h, rest e)

  all_alike : (k m : K) (items : List T) → eq k m ≡ true → AllByRecursion (λ l. eq m l ≡ false) (map key items) → AllByRecursion (λ l. eq k l ≡ false) (map key items)
  all_alike k m [] e a = tt
  all_alike k m (x ∷ items) e a = (equivalence.congr k m (key x) e ∙ a.0, all_alike k m items e a.1)

  one_taken : (x y : T) (old new : List T) → NoTwoAkin key eq new → find_item key (eq (key x)) new ≡ Some y → lacks key eq old y ≡ true → IsPermutation (y ∷ filter (lacks key eq (x ∷ old)) new) (filter (lacks key eq old) new)
  unfolding IsDistinct
  one_taken x y old [] differ e l = absurd (true≢false (sym (ap is_some e)))
  one_taken x y old (z ∷ new) differ e l = by (eq (key x) (key z)) refl e (λ f. one_taken x y old new differ.1 f l)
    where
      by : (b : Bool) → eq (key x) (key z) ≡ b → cond b (Some z) (find_item key (eq (key x)) new) ≡ Some y → (find_item key (eq (key x)) new ≡ Some y → IsPermutation (y ∷ filter (lacks key eq (x ∷ old)) new) (filter (lacks key eq old) new)) → IsPermutation (y ∷ filter (lacks key eq (x ∷ old)) (z ∷ new)) (filter (lacks key eq old) (z ∷ new))
      by true h e rest =
          let same : z ≡ y = cc in
          let there : lacks key eq old z ≡ true = ap (lacks key eq old) same ∙ l in
          rw (equivalence.symm (key z) (key x) ∙ h, there, none_taken x old new (all_alike (key x) (key z) new h differ.0), same) (IsPermutation-refl (y ∷ filter (lacks key eq old) new))
      by false h e rest = rw (unfound x z old h) (under (lacks key eq old z))
        where
          under : (b : Bool) → IsPermutation (y ∷ cond b (z ∷ filter (lacks key eq (x ∷ old)) new) (filter (lacks key eq (x ∷ old)) new)) (cond b (z ∷ filter (lacks key eq old) new) (filter (lacks key eq old) new))
          under true = IsPermutation-trans _ _ _ (IsPermutation-middle (y ∷ []) z (filter (lacks key eq (x ∷ old)) new)) (IsPermutation-cons z _ _ (rest e))
          under false = rest e

  -- the items that are found by the keys of others, and those that the others lack, are all
  pub new_moved : (old new : List T) → NoTwoAkin key eq old → NoTwoAkin key eq new → IsPermutation (filter_map (λ x. find_item key (eq (key x)) new) old ++ filter (lacks key eq old) new) new
  unfolding IsDistinct
  new_moved [] new differ others = rw (all_lacking key eq new) (IsPermutation-refl new)
  new_moved (x ∷ old) new differ others = by (find_item key (eq (key x)) new) refl (new_moved old new differ.1 others)
    where
      by : (f : Option T) → find_item key (eq (key x)) new ≡ f → IsPermutation (filter_map (λ z. find_item key (eq (key z)) new) old ++ filter (lacks key eq old) new) new → IsPermutation (cons_option f (filter_map (λ z. find_item key (eq (key z)) new) old) ++ filter (lacks key eq (x ∷ old)) new) new
      by None e rest = rw (none_taken x old new (no_other (key x) new e)) rest
      by (Some y) e rest =
          let akin : eq (key x) (key y) ≡ true = found_passes (λ z. eq (key x) (key z)) new y e in
          let gone : lacks key eq old y ≡ true = ap is_none (alike (key x) (key y) old akin ∙ apart (key x) old differ.0) in
          let found = filter_map (λ z. find_item key (eq (key z)) new) old in
          IsPermutation-trans _ _ _ (IsPermutation-sym _ _ (IsPermutation-middle found y (filter (lacks key eq (x ∷ old)) new)))
          (IsPermutation-trans _ _ _ (IsPermutation-append_right found _ _ (one_taken x y old new others e gone)) rest)
