-- What a merge of two lists that ascend says of them.
--     old_items, new_items      each item of either list is there once, in order
--     all_akin      the two items that are kept have equal keys
--     ascending      the keys ascend
--     length_most, length_old, length_new      how many there are
--     removed_items, added_items      what was removed is what the other list lacks, and so is what was added
use Rattle.std.proofs.Common.{◌≡◌, ℕ, ◌+◌, ◌≤◌, Bool, true, arith, cond, List, [], ◌∷◌, length, map, filter, filter_map, Option, Some, None, refl, sym, ap, ◌∙◌, Ordering, Less, Equal, Greater}
use Rattle.std.proofs.lemmas.List.Elements.{All-cons}
use Rattle.std.proofs.lemmas.List.{length-map}
use Rattle.std.specs.Cmp.{IsTotalOrder}
use Rattle.std.specs.List.{All, AllByRecursion, cons_option}
use Rattle.std.specs.List.Sorted.{IsStrictlySortedBy}
use Rattle.std.specs.Ordering.{is_eq, match_ordering, ordering_reverse}
use Rattle.iddqd.specs.Contents.{Ascends}
use Rattle.iddqd.proofs.DistinctLemmas.{weaken}
use Rattle.iddqd_diff.specs.declared.difference.Difference.{Difference}
use Rattle.iddqd_diff.specs.declared.difference.Difference.TheVariants.{Removed, Added, Kept}
use Rattle.iddqd_diff.specs.Difference.{added_item, IsAkin, key_at, lacks, new_item, old_item, removed_item}
use Rattle.iddqd_diff.specs.Walks.{merged, merged_from}
use Rattle.iddqd_diff.proofs.KeyOrderLemmas.{turned, turned_back}
use Rattle.iddqd_diff.proofs.AddedLemmas.{added_akin, all_added, all_lacking, all_new, none_old, none_removed}

length_given : {X Y : Type 0} (h : X → Option Y) (xs : List X) → length (filter_map h xs) ≤ length xs
length_given h [] = omega arith
length_given h (x ∷ xs) =
    let rest = length_given h xs in
    elim (h x) as (λ o. length (cons_option o (filter_map h xs)) ≤ length (x ∷ xs)) [ None ↦ omega arith | Some y ↦ omega arith ]

module _ {T K : Type 0} (key : T → K) (cmp : K → K → Ordering) where
  old_from : (x : T) (f : List T → List (Difference T T)) (old : List T) → ((ns : List T) → filter_map old_item (f ns) ≡ old) → (ns : List T) → filter_map old_item (merged_from key cmp x f ns) ≡ x ∷ old
  old_from x f old rest [] = ap (λ xs. x ∷ xs) (rest [])
  old_from x f old rest (y ∷ ns) =
      let later = old_from x f old rest ns in
      elim (cmp (key x) (key y)) as (λ r. filter_map old_item (match_ordering r (Removed x ∷ f (y ∷ ns)) (Kept x y ∷ f ns) (Added y ∷ merged_from key cmp x f ns)) ≡ x ∷ old)
      [ Less ↦ ap (λ xs. x ∷ xs) (rest (y ∷ ns)) | Equal ↦ ap (λ xs. x ∷ xs) (rest ns) | Greater ↦ later ]

  pub old_items : (old new : List T) → filter_map old_item (merged key cmp old new) ≡ old
  old_items [] new = none_old new
  old_items (x ∷ old) new = old_from x (merged key cmp old) old (λ ns. old_items old ns) new

  new_from : (x : T) (f : List T → List (Difference T T)) → ((ns : List T) → filter_map new_item (f ns) ≡ ns) → (ns : List T) → filter_map new_item (merged_from key cmp x f ns) ≡ ns
  new_from x f rest [] = rest []
  new_from x f rest (y ∷ ns) =
      let later = new_from x f rest ns in
      elim (cmp (key x) (key y)) as (λ r. filter_map new_item (match_ordering r (Removed x ∷ f (y ∷ ns)) (Kept x y ∷ f ns) (Added y ∷ merged_from key cmp x f ns)) ≡ y ∷ ns)
      [ Less ↦ rest (y ∷ ns) | Equal ↦ ap (λ xs. y ∷ xs) (rest ns) | Greater ↦ ap (λ xs. y ∷ xs) later ]

  pub new_items : (old new : List T) → filter_map new_item (merged key cmp old new) ≡ new
  new_items [] new = all_new new
  new_items (x ∷ old) new = new_from x (merged key cmp old) (λ ns. new_items old ns) new

  most_from : (x : T) (f : List T → List (Difference T T)) (n : ℕ) → ((ns : List T) → length (f ns) ≤ n + length ns) → (ns : List T) → length (merged_from key cmp x f ns) ≤ n + 1 + length ns
  most_from x f n rest [] = let r : length (f []) ≤ n + length {A = T} [] = rest [] in omega arith
  most_from x f n rest (y ∷ ns) =
      let later = most_from x f n rest ns in
      let r : length (f (y ∷ ns)) ≤ n + (length ns + 1) = omega (arith, rest (y ∷ ns)) in
      let q = rest ns in
      elim (cmp (key x) (key y)) as (λ r. length (match_ordering r (Removed x ∷ f (y ∷ ns)) (Kept x y ∷ f ns) (Added y ∷ merged_from key cmp x f ns)) ≤ n + 1 + length (y ∷ ns))
      [ Less ↦ omega arith | Equal ↦ omega arith | Greater ↦ omega arith ]

  -- at most as many as both lists have items
  pub length_most : (old new : List T) → length (merged key cmp old new) ≤ length old + length new
  length_most [] new = omega (arith, length-map {B = Difference T T} new (λ y. Added y))
  length_most (x ∷ old) new = omega (arith, most_from x (merged key cmp old) (length old) (λ ns. length_most old ns) new)

  -- at least as many as either list has
  pub length_old : (old new : List T) → length old ≤ length (merged key cmp old new)
  length_old old new = omega (arith, length_given old_item (merged key cmp old new), ap length (old_items old new))

  pub length_new : (old new : List T) → length new ≤ length (merged key cmp old new)
  length_new old new = omega (arith, length_given new_item (merged key cmp old new), ap length (new_items old new))

  -- what holds of all keys of both lists holds of the keys of their differences
  keys_added : (P : K → Type 0) (new : List T) → AllByRecursion P (map key new) → AllByRecursion P (map (key_at key) (map Added new))
  keys_added P [] a = tt
  keys_added P (y ∷ new) a = (a.0, keys_added P new a.1)

  keys_from : (P : K → Type 0) (x : T) (f : List T → List (Difference T T)) → P (key x) → ((ns : List T) → AllByRecursion P (map key ns) → AllByRecursion P (map (key_at key) (f ns))) → (ns : List T) → AllByRecursion P (map key ns) → AllByRecursion P (map (key_at key) (merged_from key cmp x f ns))
  keys_from P x f p rest [] a = (p, rest [] tt)
  keys_from P x f p rest (y ∷ ns) a =
      let later = keys_from P x f p rest ns a.1 in
      elim (cmp (key x) (key y)) as (λ r. AllByRecursion P (map (key_at key) (match_ordering r (Removed x ∷ f (y ∷ ns)) (Kept x y ∷ f ns) (Added y ∷ merged_from key cmp x f ns))))
      [ Less ↦ (p, rest (y ∷ ns) a) | Equal ↦ (p, rest ns a.1) | Greater ↦ (a.0, later) ]

  keys_of : (P : K → Type 0) (old new : List T) → AllByRecursion P (map key old) → AllByRecursion P (map key new) → AllByRecursion P (map (key_at key) (merged key cmp old new))
  keys_of P [] new a b = keys_added P new b
  keys_of P (x ∷ old) new a b = keys_from P x (merged key cmp old) a.0 (λ ns c. keys_of P old ns a.1 c) new b

  module _ (o : IsTotalOrder cmp) where
    added_ascend : (new : List T) → Ascends key cmp new → IsStrictlySortedBy cmp (map (key_at key) (map Added new))
    unfolding IsStrictlySortedBy
    added_ascend [] s = tt
    added_ascend (y ∷ new) s = (keys_added (λ k. cmp (key y) k ≡ Less) new s.0, added_ascend new s.1)

    ascend_from : (x : T) (old : List T) → AllByRecursion (λ k. cmp (key x) k ≡ Less) (map key old) → ((ns : List T) → Ascends key cmp ns → IsStrictlySortedBy cmp (map (key_at key) (merged key cmp old ns))) → (ns : List T) → Ascends key cmp ns → IsStrictlySortedBy cmp (map (key_at key) (merged_from key cmp x (merged key cmp old) ns))
    unfolding IsStrictlySortedBy
    ascend_from x old above rest [] s = (keys_of (λ k. cmp (key x) k ≡ Less) old [] above tt, rest [] tt)
    ascend_from x old above rest (y ∷ ns) s = by (cmp (key x) (key y)) refl (ascend_from x old above rest ns s.1)
      where
        by : (r : Ordering) → cmp (key x) (key y) ≡ r → IsStrictlySortedBy cmp (map (key_at key) (merged_from key cmp x (merged key cmp old) ns)) → IsStrictlySortedBy cmp (map (key_at key) (match_ordering r (Removed x ∷ merged key cmp old (y ∷ ns)) (Kept x y ∷ merged key cmp old ns) (Added y ∷ merged_from key cmp x (merged key cmp old) ns)))
        by Less e later = (keys_of (λ k. cmp (key x) k ≡ Less) old (y ∷ ns) above (e, weaken (λ k l. o.trans (key x) (key y) k e l) (map key ns) s.0), rest (y ∷ ns) s)
        by Equal e later = (keys_of (λ k. cmp (key x) k ≡ Less) old ns above (weaken (λ k l. o.congr (key x) (key y) k e ∙ l) (map key ns) s.0), rest ns s.1)
        by Greater e later =
            let below : cmp (key y) (key x) ≡ Less = turned_back cmp o (key x) (key y) e in
            (keys_of (λ k. cmp (key y) k ≡ Less) (x ∷ old) ns (below, weaken (λ k l. o.trans (key y) (key x) k below l) (map key old) above) s.0, later)

    pub ascending : (old new : List T) → Ascends key cmp old → Ascends key cmp new → IsStrictlySortedBy cmp (map (key_at key) (merged key cmp old new))
    unfolding IsStrictlySortedBy
    ascending [] new s t = added_ascend new t
    ascending (x ∷ old) new s t = ascend_from x old s.0 (λ ns u. ascending old ns s.1 u) new t

    module _ (eq : K → K → Bool) (ties : (x y : K) → eq x y ≡ is_eq (cmp x y)) where
      akin_from : (x : T) (f : List T → List (Difference T T)) → ((ns : List T) → All (IsAkin key eq) (f ns)) → (ns : List T) → All (IsAkin key eq) (merged_from key cmp x f ns)
      akin_from x f rest [] = All-cons (IsAkin key eq) (Removed x) (f []) tt (rest [])
      akin_from x f rest (y ∷ ns) = by (cmp (key x) (key y)) refl (akin_from x f rest ns)
        where
          by : (r : Ordering) → cmp (key x) (key y) ≡ r → All (IsAkin key eq) (merged_from key cmp x f ns) → All (IsAkin key eq) (match_ordering r (Removed x ∷ f (y ∷ ns)) (Kept x y ∷ f ns) (Added y ∷ merged_from key cmp x f ns))
          by Less e later = All-cons (IsAkin key eq) (Removed x) (f (y ∷ ns)) tt (rest (y ∷ ns))
          by Equal e later = All-cons (IsAkin key eq) (Kept x y) (f ns) (ties (key x) (key y) ∙ ap is_eq e) (rest ns)
          by Greater e later = All-cons (IsAkin key eq) (Added y) (merged_from key cmp x f ns) tt later

      pub all_akin : (old new : List T) → All (IsAkin key eq) (merged key cmp old new)
      all_akin [] new = added_akin key eq new
      all_akin (x ∷ old) new = akin_from x (merged key cmp old) (λ ns. all_akin old ns) new

      -- an item below all others is none of theirs
      below_all : (x : T) (items : List T) → AllByRecursion (λ k. cmp (key x) k ≡ Less) (map key items) → lacks key eq items x ≡ true
      below_all x [] a = refl
      below_all x (y ∷ ys) a = rw (ties (key x) (key y) ∙ ap is_eq a.0) (below_all x ys a.1)

      -- whether items are lacking does not turn on one below them
      beside_lower : (x : T) (items asked : List T) → AllByRecursion (λ k. cmp (key x) k ≡ Less) (map key asked) → filter (lacks key eq (x ∷ items)) asked ≡ filter (lacks key eq items) asked
      beside_lower x items [] a = refl
      beside_lower x items (y ∷ ys) a =
          rw (ties (key y) (key x) ∙ ap is_eq (turned cmp o (key x) (key y) a.0)) (ap (λ zs. cond (lacks key eq items y) (y ∷ zs) zs) (beside_lower x items ys a.1))

      removed_from : (x : T) (f : List T → List (Difference T T)) (old : List T) → AllByRecursion (λ k. cmp (key x) k ≡ Less) (map key old) → ((ns : List T) → Ascends key cmp ns → filter_map removed_item (f ns) ≡ filter (lacks key eq ns) old) → (ns : List T) → Ascends key cmp ns → filter_map removed_item (merged_from key cmp x f ns) ≡ filter (lacks key eq ns) (x ∷ old)
      unfolding IsStrictlySortedBy
      removed_from x f old above rest [] s = ap (λ xs. x ∷ xs) (rest [] tt)
      removed_from x f old above rest (y ∷ ns) s = by (cmp (key x) (key y)) refl (removed_from x f old above rest ns s.1)
        where
          by : (r : Ordering) → cmp (key x) (key y) ≡ r → filter_map removed_item (merged_from key cmp x f ns) ≡ filter (lacks key eq ns) (x ∷ old) → filter_map removed_item (match_ordering r (Removed x ∷ f (y ∷ ns)) (Kept x y ∷ f ns) (Added y ∷ merged_from key cmp x f ns)) ≡ filter (lacks key eq (y ∷ ns)) (x ∷ old)
          by Less e later =
              rw (below_all x (y ∷ ns) (e, weaken (λ k l. o.trans (key x) (key y) k e l) (map key ns) s.0)) (ap (λ xs. x ∷ xs) (rest (y ∷ ns) s))
          by Equal e later =
              rest ns s.1 ∙ sym (beside_lower y ns old (weaken (λ k l. sym (o.congr (key x) (key y) k e) ∙ l) (map key old) above)) ∙ sym (rw (ties (key x) (key y) ∙ ap is_eq e) refl)
          by Greater e later =
              let below : cmp (key y) (key x) ≡ Less = turned_back cmp o (key x) (key y) e in
              later ∙ sym (beside_lower y ns (x ∷ old) (below, weaken (λ k l. o.trans (key y) (key x) k below l) (map key old) above))

      pub removed_items : (old new : List T) → Ascends key cmp old → Ascends key cmp new → filter_map removed_item (merged key cmp old new) ≡ filter (lacks key eq new) old
      unfolding IsStrictlySortedBy
      removed_items [] new s t = none_removed new
      removed_items (x ∷ old) new s t = removed_from x (merged key cmp old) old s.0 (λ ns u. removed_items old ns s.1 u) new t

      added_from : (x : T) (f : List T → List (Difference T T)) (old : List T) → AllByRecursion (λ k. cmp (key x) k ≡ Less) (map key old) → ((ns : List T) → Ascends key cmp ns → filter_map added_item (f ns) ≡ filter (lacks key eq old) ns) → (ns : List T) → Ascends key cmp ns → filter_map added_item (merged_from key cmp x f ns) ≡ filter (lacks key eq (x ∷ old)) ns
      unfolding IsStrictlySortedBy
      added_from x f old above rest [] s = rest [] tt
      added_from x f old above rest (y ∷ ns) s = by (cmp (key x) (key y)) refl (added_from x f old above rest ns s.1)
        where
          by : (r : Ordering) → cmp (key x) (key y) ≡ r → filter_map added_item (merged_from key cmp x f ns) ≡ filter (lacks key eq (x ∷ old)) ns → filter_map added_item (match_ordering r (Removed x ∷ f (y ∷ ns)) (Kept x y ∷ f ns) (Added y ∷ merged_from key cmp x f ns)) ≡ filter (lacks key eq (x ∷ old)) (y ∷ ns)
          by Less e later =
              rest (y ∷ ns) s ∙ sym (beside_lower x old (y ∷ ns) (e, weaken (λ k l. o.trans (key x) (key y) k e l) (map key ns) s.0))
          by Equal e later =
              rest ns s.1 ∙ sym (beside_lower x old ns (weaken (λ k l. o.congr (key x) (key y) k e ∙ l) (map key ns) s.0)) ∙ sym (rw (ties (key y) (key x) ∙ ap is_eq (o.antisymm (key y) (key x) ∙ ap ordering_reverse e)) refl)
          by Greater e later =
              let below : cmp (key y) (key x) ≡ Less = turned_back cmp o (key x) (key y) e in
              rw (below_all y (x ∷ old) (below, weaken (λ k l. o.trans (key y) (key x) k below l) (map key old) above)) (ap (λ ys. y ∷ ys) later)

      pub added_items : (old new : List T) → Ascends key cmp old → Ascends key cmp new → filter_map added_item (merged key cmp old new) ≡ filter (lacks key eq old) new
      unfolding IsStrictlySortedBy
      added_items [] new s t = all_added new ∙ sym (all_lacking key eq new)
      added_items (x ∷ old) new s t = added_from x (merged key cmp old) old s.0 (λ ns u. added_items old ns s.1 u) new t
