-- Applying the differences of two ordered maps, one after the other, where an item is inserted at its place by key.
--     ord_after_one      one more was applied; what was added stands behind the clones that are in, and before the items that are left
--     ends      after the last difference, the map has a clone of each new item, in order
use Rattle.std.proofs.Common.{◌≡◌, Bool, true, List, [], ◌∷◌, ◌++◌, length, map, filter_map, refl, sym, ap, ◌∙◌, arith, subst, Ordering, Less, Equal}
use Rattle.std.proofs.Math.Seq.{take-append_seam, drop-append_seam}
use Rattle.std.proofs.lemmas.Cmp.{alike_right}
use Rattle.std.proofs.lemmas.List.{length-append}
use Rattle.std.proofs.lemmas.List.Elements.{All-tail, All-head}
use Rattle.std.specs.Cmp.{IsEquivalence, IsTotalOrder}
use Rattle.std.specs.List.{All, AllByRecursion, AllZip, IsDistinct}
use Rattle.std.specs.List.Sorted.{IsStrictlySortedBy}
use Rattle.std.specs.Ordering.{is_eq}
use Rattle.iddqd.specs.Contents.{AddsItem, Ascends, ClonesKeepKeys, NoTwoAkin}
use Rattle.iddqd.proofs.DistinctLemmas.{weaken}
use Rattle.iddqd.proofs.PlacedLemmas.{added_placed}
use Rattle.iddqd_diff.specs.Applying.{AppliesOne, HaveEqualKeys, IsUnderway}
use Rattle.iddqd_diff.specs.declared.difference.Difference.{Difference}
use Rattle.iddqd_diff.specs.declared.difference.Difference.TheVariants.{Removed, Added, Kept}
use Rattle.iddqd_diff.specs.Difference.{IsAkin, key_at, new_item, old_item}
use Rattle.iddqd_diff.proofs.ApplyLemmas.{AddsOne, after_one, equal_lists, has_new, holds_done}
use Rattle.iddqd_diff.proofs.KeyOrderLemmas.{Minds, eq_where}

module _ {T K : Type 0} (key : T → K) (cmp : K → K → Ordering) (o : IsTotalOrder cmp) (eq : K → K → Bool) (ties : (x y : K) → eq x y ≡ is_eq (cmp x y)) where
  ascending_differ : (items : List T) → Ascends key cmp items → NoTwoAkin key eq items
  unfolding IsStrictlySortedBy IsDistinct
  ascending_differ [] s = tt
  ascending_differ (x ∷ items) s = (weaken (λ k l. ties (key x) k ∙ ap is_eq l) (map key items) s.0, ascending_differ items s.1)

  as_equal : (x y : T) → eq (key x) (key y) ≡ true → cmp (key x) (key y) ≡ Equal
  as_equal x y e = eq_where eq cmp ties (key x) (key y) e

  -- what lies behind x lies behind w too, whose key is equal
  behind_equal : (x w : T) → eq (key x) (key w) ≡ true → (ks : List K) → AllByRecursion (λ k. cmp (key x) k ≡ Less) ks → AllByRecursion (λ k. cmp (key w) k ≡ Less) ks
  behind_equal x w e ks a = weaken (λ k l. sym (o.congr (key x) (key w) k (as_equal x w e)) ∙ l) ks a

  minds_behind : (w : T) → Minds cmp o (λ k. cmp (key w) k ≡ Less)
  minds_behind w a b e l = sym (alike_right o a b (key w) e) ∙ l

  -- the keys of the items that are left are among those of the differences to come
  left_all : (P : K → Type 0) → Minds cmp o P → (rest : List (Difference T T)) (left : List T) → HaveEqualKeys key eq (filter_map old_item rest) left → AllByRecursion P (map (key_at key) rest) → AllByRecursion P (map key left)
  unfolding HaveEqualKeys
  left_all P minds [] [] z a = tt
  left_all P minds [] (x ∷ left) z a = absurd z
  left_all P minds (Added y ∷ rest) left z a = left_all P minds rest left z a.1
  left_all P minds (Removed x ∷ rest) [] z a = tt
  left_all P minds (Removed x ∷ rest) (w ∷ left) z a = (minds (key x) (key w) (as_equal x w z.0) a.0, left_all P minds rest left z.1 a.1)
  left_all P minds (Kept x y ∷ rest) [] z a = tt
  left_all P minds (Kept x y ∷ rest) (w ∷ left) z a = (minds (key x) (key w) (as_equal x w z.0) a.0, left_all P minds rest left z.1 a.1)

  left_behind : (x w : T) (rest : List (Difference T T)) (left : List T) → eq (key x) (key w) ≡ true → HaveEqualKeys key eq (filter_map old_item rest) left → AllByRecursion (λ k. cmp (key x) k ≡ Less) (map (key_at key) rest) → AllByRecursion (λ k. cmp (key w) k ≡ Less) (map key left)
  left_behind x w rest left e z a = left_all (λ k. cmp (key w) k ≡ Less) (minds_behind w) rest left z (behind_equal x w e (map (key_at key) rest) a)

  left_ascends : (rest : List (Difference T T)) (left : List T) → HaveEqualKeys key eq (filter_map old_item rest) left → IsStrictlySortedBy cmp (map (key_at key) rest) → Ascends key cmp left
  unfolding HaveEqualKeys IsStrictlySortedBy
  left_ascends [] [] z s = tt
  left_ascends [] (x ∷ left) z s = absurd z
  left_ascends (Added y ∷ rest) left z s = left_ascends rest left z s.1
  left_ascends (Removed x ∷ rest) [] z s = tt
  left_ascends (Removed x ∷ rest) (w ∷ left) z s = (left_behind x w rest left z.0 z.1 s.0, left_ascends rest left z.1 s.1)
  left_ascends (Kept x y ∷ rest) [] z s = tt
  left_ascends (Kept x y ∷ rest) (w ∷ left) z s = (left_behind x w rest left z.0 z.1 s.0, left_ascends rest left z.1 s.1)

  module _ (made : T → T → Type 0) (keeps : ClonesKeepKeys key eq made) (y v : T) (is_made : made y v) (rest : List (Difference T T)) (left : List T) (left_keys : HaveEqualKeys key eq (filter_map old_item rest) left) where
    -- the keys of the clones, of v and of the items that are left are among those of the differences
    all_along : (P : K → Type 0) → Minds cmp o P → (applied : List (Difference T T)) (done : List T) → All (IsAkin key eq) (applied ++ Added y ∷ rest) → AllZip made (filter_map new_item applied) done → AllByRecursion P (map (key_at key) (applied ++ Added y ∷ rest)) → AllByRecursion P (map key (done ++ v ∷ left))
    all_along P minds [] [] akin z a = (minds (key y) (key v) (as_equal y v (keeps y v is_made)) a.0, left_all P minds rest left left_keys a.1)
    all_along P minds [] (x ∷ done) akin z a = absurd z
    all_along P minds (Removed x ∷ ds) done akin z a = all_along P minds ds done (All-tail (IsAkin key eq) (Removed x) (ds ++ Added y ∷ rest) akin) z a.1
    all_along P minds (Added x ∷ ds) [] akin z a = absurd z
    all_along P minds (Added x ∷ ds) (w ∷ done) akin z a = (minds (key x) (key w) (as_equal x w (keeps x w z.0)) a.0, all_along P minds ds done (All-tail (IsAkin key eq) (Added x) (ds ++ Added y ∷ rest) akin) z.1 a.1)
    all_along P minds (Kept b x ∷ ds) [] akin z a = absurd z
    all_along P minds (Kept b x ∷ ds) (w ∷ done) akin z a =
        let same = All-head (IsAkin key eq) (Kept b x) (ds ++ Added y ∷ rest) akin in
        (minds (key x) (key w) (as_equal x w (keeps x w z.0)) (minds (key b) (key x) (as_equal b x same) a.0), all_along P minds ds done (All-tail (IsAkin key eq) (Kept b x) (ds ++ Added y ∷ rest) akin) z.1 a.1)

    ascends_along : (applied : List (Difference T T)) (done : List T) → All (IsAkin key eq) (applied ++ Added y ∷ rest) → AllZip made (filter_map new_item applied) done → IsStrictlySortedBy cmp (map (key_at key) (applied ++ Added y ∷ rest)) → Ascends key cmp (done ++ v ∷ left)
    unfolding IsStrictlySortedBy
    ascends_along [] [] akin z s = (left_behind y v rest left (keeps y v is_made) left_keys s.0, left_ascends rest left left_keys s.1)
    ascends_along [] (x ∷ done) akin z s = absurd z
    ascends_along (Removed x ∷ ds) done akin z s = ascends_along ds done (All-tail (IsAkin key eq) (Removed x) (ds ++ Added y ∷ rest) akin) z s.1
    ascends_along (Added x ∷ ds) [] akin z s = absurd z
    ascends_along (Added x ∷ ds) (w ∷ done) akin z s =
        let others = All-tail (IsAkin key eq) (Added x) (ds ++ Added y ∷ rest) akin in
        let above = behind_equal x w (keeps x w z.0) (map (key_at key) (ds ++ Added y ∷ rest)) s.0 in
        (all_along (λ k. cmp (key w) k ≡ Less) (minds_behind w) ds done others z.1 above, ascends_along ds done others z.1 s.1)
    ascends_along (Kept b x ∷ ds) [] akin z s = absurd z
    ascends_along (Kept b x ∷ ds) (w ∷ done) akin z s =
        let same = All-head (IsAkin key eq) (Kept b x) (ds ++ Added y ∷ rest) akin in
        let others = All-tail (IsAkin key eq) (Kept b x) (ds ++ Added y ∷ rest) akin in
        let above = behind_equal x w (keeps x w z.0) (map (key_at key) (ds ++ Added y ∷ rest)) (behind_equal b x same (map (key_at key) (ds ++ Added y ∷ rest)) s.0) in
        (all_along (λ k. cmp (key w) k ≡ Less) (minds_behind w) ds done others z.1 above, ascends_along ds done others z.1 s.1)

  -- an item that was inserted where it belongs
  one_added : (v : T) (done left next : List T) → Ascends key cmp (done ++ v ∷ left) → AddsItem v (done ++ left) next → Ascends key cmp next → done ++ v ∷ left ≡ next
  one_added v done left next s adds t =
      let there : AddsItem v (done ++ left) (done ++ v ∷ left) = record {
        place = length done;
        within = omega (arith, length-append done left);
        put = sym (rw (take-append_seam done left, drop-append_seam done left) refl);
      } in
      added_placed key o v (done ++ left) (done ++ v ∷ left) there s ∙ sym (added_placed key o v (done ++ left) next adds t)

  module _ (made : T → T → Type 0) (keeps : ClonesKeepKeys key eq made) (old new first after : List T) where
    abbrev Underway : List (Difference T T) → Type 0
    Underway = IsUnderway key eq made (λ xs ys. xs ≡ ys) (IsStrictlySortedBy cmp) old new first after

    added_in_place : (y v : T) (rest : List (Difference T T)) (next : List T) (u : Underway (Added y ∷ rest)) → made y v → AddsItem v after next → Ascends key cmp next → u.done ++ v ∷ u.left ≡ next
    added_in_place y v rest next u is_made adds t =
        one_added v u.done u.left next
        (ascends_along made keeps y v is_made rest u.left u.left_keys u.applied u.done u.differ.akin u.clones u.differ.ascends)
        (subst (λ xs. AddsItem v xs next) (sym u.joined) adds) t

    pub ord_after_one : IsEquivalence eq → (d : Difference T T) (rest : List (Difference T T)) (next : List T) → Underway (d ∷ rest) → Ascends key cmp new → Ascends key cmp after → AppliesOne key eq made d after next → Ascends key cmp next → IsUnderway key eq made (λ xs ys. xs ≡ ys) (IsStrictlySortedBy cmp) old new first next rest
    ord_after_one equivalence d rest next u news keyed applied keyed_then =
        after_one key eq equivalence made keeps (λ xs ys. xs ≡ ys) (IsStrictlySortedBy cmp) (equal_lists key eq) old new first after next rest d u (ascending_differ new news) (ascending_differ after keyed) applied (in_place d u)
      where
        in_place : (d : Difference T T) (u : Underway (d ∷ rest)) (v : T) → AddsOne key eq equivalence made keeps (λ xs ys. xs ≡ ys) (IsStrictlySortedBy cmp) (equal_lists key eq) d v → AddsItem v after next → u.done ++ v ∷ u.left ≡ next
        in_place (Removed x) u v one adds = absurd one
        in_place (Added y) u v one adds = added_in_place y v rest next u one adds keyed_then
        in_place (Kept x y) u v one adds = absurd one

    pub ends : IsEquivalence eq → Underway [] → AllZip made new after
    ends equivalence u =
        let laws = equal_lists key eq in
        subst (λ xs. AllZip made xs after) (has_new key eq equivalence made keeps (λ xs ys. xs ≡ ys) (IsStrictlySortedBy cmp) laws old new first after u)
        (subst (λ xs. AllZip made (filter_map new_item u.applied) xs) (holds_done key eq equivalence made keeps (λ xs ys. xs ≡ ys) (IsStrictlySortedBy cmp) laws old new first after u) u.clones)
