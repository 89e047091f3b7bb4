-- What a caller finds after a change, in either map. A lookup is by a test p of the items: by a query's test of their keys.
--     find_inserted, find_beside_inserted      the item that was inserted, and any other
--     find_removed, find_beside_removed      the item that was removed, and any other
--     still_found_removed, still_absent_removed      where some were left out, one that was found and stays, and one that was not found
--     find_replaced      the item that stands in the place of another
--     still_found_put, still_absent_put      the same after `insert_overwrite`, of a test that the new item fails
--     put_beside, put_over      the item that was put in is beside the old items of other keys
--     found_passes      what is found passes the test
--     same_text, text_apart, text_beside, text_differs      a text equals itself, and a key of one text is not another
--     length_inserted, length_replaced, length_removed      how many items there are then
--     sum_inserted, sum_removed, sum_taken, sum_retained      the sum of a weight then
--     found_in_sum      the sum is no less than the weight of an item that is found
--     key_apart, key_beside      by the laws of `Eq`: a key equal to one is not equal to another
--     kept_in_place      what `retain_mut` leaves, if the visitor stays as it is
--     after_changes      what a caller may cite of them, under one name
use Rattle.std.proofs.Common.{◌≡◌, ◌≢◌, ℕ, zero, suc, ◌+◌, ◌<◌, ◌≤◌, Bool, true, false, cond, not, List, [], ◌∷◌, Option, Some, None, is_some, length, map, set, filter, find, nat_eq, refl, sym, ap, subst, ◌∙◌, arith, true≢false}
use Rattle.std.proofs.lemmas.List.{length-map}
use Rattle.std.proofs.lemmas.List.Edits.{length-insert, length-remove}
use Rattle.std.proofs.lemmas.List.Sums.{sum_by-cons, sum_by-insert, sum_by-remove}
use Rattle.std.proofs.lemmas.Option.{get_or_from_slice_get, slice_get_within}
use Rattle.std.proofs.lemmas.Slice.Eq.{bytes_eq-Decides}
use Rattle.std.specs.Cmp.{IsEquivalence}
use Rattle.std.specs.Cmp.Lexicographic.{nat_list_eq_equiv, pointwise}
use Rattle.std.specs.List.{insert, items_where_true, remove, slice_get, sum_by}
use Rattle.std.specs.Option.{option_map, unwrap_or}
use Rattle.std.specs.Str.{bytes_eq}
use Rattle.iddqd_store.specs.Contents.{AddsItem, IsKeyTest, NoTwoAkin, find_item, items_overwritten, items_without}
use Rattle.iddqd_store.specs.Holding.{Holding, LeavesSlot, LosesPlace, Removes}
use Rattle.iddqd_store.specs.Visiting.{kept_by}
use Rattle.iddqd_store.proofs.ContentsLemmas.{filter_at, map_at, only_place}

pub same_text : (bytes : List ℕ) → pointwise nat_eq bytes bytes ≡ true
same_text bytes = nat_list_eq_equiv.refl bytes

-- a key that is one text is not another, whichever of the two is asked for
pub text_apart : (name other k : List ℕ) → bytes_eq other k ≡ true → other ≢ name → bytes_eq name k ≡ false
text_apart name other k same apart = grind (arith, bytes_eq-Decides other k, bytes_eq-Decides name k)

pub text_beside : (name other k : List ℕ) → bytes_eq name k ≡ true → other ≢ name → bytes_eq other k ≡ false
text_beside name other k same apart = grind (arith, bytes_eq-Decides other k, bytes_eq-Decides name k)

pub text_differs : (other k : List ℕ) → other ≢ k → bytes_eq other k ≡ false
text_differs other k apart = grind (arith, bytes_eq-Decides other k)

-- keys of a caller's own: k is equal to the one and so not to the other
module _ {K : Type 0} {eq : K → K → Bool} (laws : IsEquivalence eq) where
  pub key_apart : (asked other k : K) → eq other k ≡ true → eq other asked ≡ false → eq asked k ≡ false
  key_apart asked other k same apart = laws.symm asked k ∙ sym (laws.congr other k asked same) ∙ apart

  pub key_beside : (asked other k : K) → eq asked k ≡ true → eq other asked ≡ false → eq other k ≡ false
  key_beside asked other k same apart = laws.symm other k ∙ sym (laws.congr asked k other same) ∙ laws.symm asked other ∙ apart

module _ {T : Type 0} (p : T → Bool) where
  pub found_passes : (items : List T) (x : T) → find p items ≡ Some x → p x ≡ true
  found_passes [] x found = absurd (true≢false (sym (ap is_some found)))
  found_passes (y ∷ ys) x found = by (p y) refl found (found_passes ys x)
    where
      by : (b : Bool) → p y ≡ b → cond b (Some y) (find p ys) ≡ Some x → (find p ys ≡ Some x → p x ≡ true) → p x ≡ true
      by true e found rest = let same : y ≡ x = cc in ap p (sym same) ∙ e
      by false e found rest = rest found

  found_put : (x : T) → p x ≡ true → (items : List T) (i : ℕ) → find p items ≡ None → find p (insert items i x) ≡ Some x
  found_put x passes items zero none = rw passes refl
  found_put x passes [] (suc i) none = rw passes refl
  found_put x passes (y ∷ ys) (suc i) none = by (p y) (found_put x passes ys i) none
    where
      by : (b : Bool) → (find p ys ≡ None → find p (insert ys i x) ≡ Some x) → cond b (Some y) (find p ys) ≡ None → cond b (Some y) (find p (insert ys i x)) ≡ Some x
      by true later none = absurd (true≢false (ap is_some none))
      by false later none = later none

  beside_put : (x : T) → p x ≡ false → (items : List T) (i : ℕ) → find p (insert items i x) ≡ find p items
  beside_put x fails items zero = rw fails refl
  beside_put x fails [] (suc i) = rw fails refl
  beside_put x fails (y ∷ ys) (suc i) = ap (λ o. cond (p y) (Some y) o) (beside_put x fails ys i)

  pub find_inserted : (old new : List T) (x : T) → AddsItem x old new → find p old ≡ None → p x ≡ true → find p new ≡ Some x
  find_inserted old new x adds none passes = rw adds.put (found_put x passes old adds.place none)

  pub find_beside_inserted : (old new : List T) (x : T) → AddsItem x old new → p x ≡ false → find p new ≡ find p old
  find_beside_inserted old new x adds fails = rw adds.put (beside_put x fails old adds.place)

  none_left : (items : List T) → find p (filter (λ x. not (p x)) items) ≡ None
  none_left [] = refl
  none_left (x ∷ xs) = by (p x) refl (none_left xs)
    where
      by : (b : Bool) → p x ≡ b → find p (filter (λ y. not (p y)) xs) ≡ None → find p (cond (not b) (x ∷ filter (λ y. not (p y)) xs) (filter (λ y. not (p y)) xs)) ≡ None
      by true e rest = rest
      by false e rest = rw e rest

  pub find_removed : (keeps : T → Bool) (old new : List T) → new ≡ filter keeps old → keeps ≡ (λ x. not (p x)) → find p new ≡ None
  find_removed keeps old new left turned = rw left (rw turned (none_left old))

  -- the search by p of the items that a test keeps
  found_left : (keeps : T → Bool) (x : T) → keeps x ≡ true → (items : List T) → find p items ≡ Some x → find p (filter keeps items) ≡ Some x
  found_left keeps x stays (y ∷ ys) found = by (p y) (keeps y) refl refl found (found_left keeps x stays ys)
    where
      by : (b c : Bool) → p y ≡ b → keeps y ≡ c → cond b (Some y) (find p ys) ≡ Some x → (find p ys ≡ Some x → find p (filter keeps ys) ≡ Some x) → find p (cond c (y ∷ filter keeps ys) (filter keeps ys)) ≡ Some x
      by true true e f found rest = rw e found
      by true false e f found rest = let same : y ≡ x = cc in absurd (true≢false (sym stays ∙ ap keeps (sym same) ∙ f))
      by false true e f found rest = rw e (rest found)
      by false false e f found rest = rest found
  found_left keeps x stays [] found = absurd (true≢false (sym (ap is_some found)))

  absent_left : (keeps : T → Bool) (items : List T) → find p items ≡ None → find p (filter keeps items) ≡ None
  absent_left keeps [] none = refl
  absent_left keeps (y ∷ ys) none = by (p y) (keeps y) refl none (absent_left keeps ys)
    where
      by : (b c : Bool) → p y ≡ b → cond b (Some y) (find p ys) ≡ None → (find p ys ≡ None → find p (filter keeps ys) ≡ None) → find p (cond c (y ∷ filter keeps ys) (filter keeps ys)) ≡ None
      by true c e none rest = absurd (true≢false (ap is_some none))
      by false true e none rest = rw e (rest none)
      by false false e none rest = rest none

  pub still_found_removed : (keeps : T → Bool) (old new : List T) (x : T) → new ≡ filter keeps old → find p old ≡ Some x → keeps x ≡ true → find p new ≡ Some x
  still_found_removed keeps old new x left found stays = rw left (found_left keeps x stays old found)

  pub still_absent_removed : (keeps : T → Bool) (old new : List T) → new ≡ filter keeps old → find p old ≡ None → find p new ≡ None
  still_absent_removed keeps old new left none = rw left (absent_left keeps old none)

  beside_gone : (items : List T) (i : ℕ) (x : T) → slice_get items i ≡ Some x → p x ≡ false → find p (remove items i) ≡ find p items
  beside_gone [] i x there fails = cc
  beside_gone (y ∷ ys) zero x there fails = let same : y ≡ x = cc in rw (ap p same ∙ fails) refl
  beside_gone (y ∷ ys) (suc i) x there fails = ap (λ o. cond (p y) (Some y) o) (beside_gone ys i x there fails)

  pub find_beside_removed : (x : T) (old new : Holding T) → LeavesSlot x old new → p x ≡ false → find p new.items ≡ find p old.items
  unfolding LosesPlace
  find_beside_removed x old new leaves fails = ap (find p) leaves.items ∙ beside_gone old.items leaves.place x leaves.there fails

  -- x was put beside those of the old items that a test keeps
  pub still_found_put : (keeps : T → Bool) (old new : List T) (x y : T) → AddsItem x (filter keeps old) new → find p old ≡ Some y → keeps y ≡ true → p x ≡ false → find p new ≡ Some y
  still_found_put keeps old new x y adds found stays fails = find_beside_inserted (filter keeps old) new x adds fails ∙ found_left keeps y stays old found

  pub still_absent_put : (keeps : T → Bool) (old new : List T) (x : T) → AddsItem x (filter keeps old) new → find p old ≡ None → p x ≡ false → find p new ≡ None
  still_absent_put keeps old new x adds none fails = find_beside_inserted (filter keeps old) new x adds fails ∙ absent_left keeps old none

  -- where none is found none is left out
  all_stay : (items : List T) → find p items ≡ None → filter (λ x. not (p x)) items ≡ items
  all_stay [] none = refl
  all_stay (x ∷ xs) none = by (p x) none (all_stay xs)
    where
      by : (b : Bool) → cond b (Some x) (find p xs) ≡ None → (find p xs ≡ None → filter (λ y. not (p y)) xs ≡ xs) → cond (not b) (x ∷ filter (λ y. not (p y)) xs) (filter (λ y. not (p y)) xs) ≡ x ∷ xs
      by true none rest = absurd (true≢false (ap is_some none))
      by false none rest = ap (λ ys. x ∷ ys) (rest none)

  pub put_beside : (old new : List T) (x : T) → AddsItem x old new → find p old ≡ None → AddsItem x (filter (λ y. not (p y)) old) new
  put_beside old new x adds none = subst (λ ys. AddsItem x ys new) (sym (all_stay old none)) adds

  found_place : (items : List T) (x : T) → find p items ≡ Some x → (i : ℕ) × (slice_get items i ≡ Some x)
  found_place [] x found = absurd (true≢false (sym (ap is_some found)))
  found_place (y ∷ ys) x found = by (p y) found (found_place ys x)
    where
      by : (b : Bool) → cond b (Some y) (find p ys) ≡ Some x → (find p ys ≡ Some x → (i : ℕ) × (slice_get ys i ≡ Some x)) → (i : ℕ) × (slice_get (y ∷ ys) i ≡ Some x)
      by true found rest = (zero, found)
      by false found rest = let behind = rest found in (suc behind.0, behind.1)

  found_put_over : (y x : T) (items : List T) → find p items ≡ Some x → p y ≡ true → find p (map (λ z. cond (p z) y z) items) ≡ Some y
  found_put_over y x [] found passes = absurd (true≢false (sym (ap is_some found)))
  found_put_over y x (z ∷ zs) found passes = by (p z) refl found (λ later. found_put_over y x zs later passes)
    where
      by : (b : Bool) → p z ≡ b → cond b (Some z) (find p zs) ≡ Some x → (find p zs ≡ Some x → find p (map (λ u. cond (p u) y u) zs) ≡ Some y) → find p (cond b y z ∷ map (λ u. cond (p u) y u) zs) ≡ Some y
      by true e found later = rw passes refl
      by false e found later = rw e (later found)

  pub find_replaced : (puts : T → T) (old new : List T) (y x : T) → new ≡ map puts old → puts ≡ (λ z. cond (p z) y z) → find p old ≡ Some x → p y ≡ true → find p new ≡ Some y
  find_replaced puts old new y x put is found passes = rw put (rw is (found_put_over y x old found passes))

module _ {T : Type 0} where
  pub length_inserted : (old new : List T) (x : T) → AddsItem x old new → length new ≡ length old + 1
  length_inserted old new x adds = rw adds.put (length-insert old adds.place x adds.within)

  pub length_replaced : (p : T → Bool) (y : T) (old new : List T) → new ≡ map (λ x. cond (p x) y x) old → length new ≡ length old
  length_replaced p y old new put = rw put (length-map old _)

  pub length_removed : (x : T) (old new : Holding T) → LeavesSlot x old new → length new.items + 1 ≡ length old.items
  unfolding LosesPlace
  length_removed x old new leaves =
      let within = slice_get_within old.items leaves.place x leaves.there in
      ap (λ xs. length xs + 1) leaves.items ∙ length-remove old.items leaves.place within

set_again : {T : Type 0} (xs : List T) (i : ℕ) (y : T) → i < length xs → set xs i y ≡ insert (remove xs i) i y
set_again [] i y within = absurd (omega arith)
set_again (x ∷ xs) zero y within = refl
set_again (x ∷ xs) (suc i) y within = ap (λ ys. x ∷ ys) (set_again xs i y (omega arith))

-- `insert_overwrite`: y is beside the items of other keys
module _ {T K : Type 0} (key : T → K) {eq : K → K → Bool} (equivalence : IsEquivalence eq) (test : K → Bool) (tests : IsKeyTest eq test) (items : List T) (differ : NoTwoAkin key eq items) where
  pub put_over : (x y : T) → find_item key test items ≡ Some x → AddsItem y (items_without key test items) (items_overwritten key test y items)
  put_over x y found =
      let at = found_place (λ z. test (key z)) items x found in
      let within = slice_get_within items at.0 x at.1 in
      let only = only_place key equivalence test tests items differ at.0 within (λ d. ap (λ z. test (key z)) (get_or_from_slice_get items at.0 x d at.1) ∙ found_passes (λ z. test (key z)) items x found) in
      let left = filter_at (λ z. test (key z)) items at.0 only in
      let fewer = length-remove items at.0 within in
      record {
        place = at.0;
        within = subst (λ ys. at.0 ≤ length ys) (sym left) (omega arith);
        put = map_at (λ z. test (key z)) y items at.0 only ∙ set_again items at.0 y within ∙ ap (λ ys. insert ys at.0 y) (sym left);
      }

-- sums of a weight
module _ {T : Type 0} (f : T → ℕ) where
  pub sum_inserted : (old new : List T) (x : T) → AddsItem x old new → sum_by f new ≡ sum_by f old + f x
  sum_inserted old new x adds = rw adds.put (sum_by-insert f old adds.place x)

  -- with nothing removed the sum is as before
  pub sum_removed : (found : Option T) (old new : Holding T) → Removes found old new → sum_by f new.items + unwrap_or (option_map f found) 0 ≡ sum_by f old.items
  unfolding LosesPlace
  sum_removed None old new removes = let same = ap (λ m. sum_by f m.items) removes.unchanged in omega arith
  sum_removed (Some x) old new removes =
      let leaves : LeavesSlot x old new = removes.slots in
      let within = slice_get_within old.items leaves.place x leaves.there in
      ap (λ xs. sum_by f xs + f x) leaves.items
      ∙ ap (λ y. sum_by f (remove old.items leaves.place) + f y) (sym (get_or_from_slice_get old.items leaves.place x x leaves.there))
      ∙ sum_by-remove f old.items leaves.place x within

  -- the same of the item that is returned
  pub sum_taken : (found : Option T) (x : T) (old new : Holding T) → Removes found old new → found ≡ Some x → sum_by f new.items + f x ≡ sum_by f old.items
  sum_taken found x old new removes is = ap (λ o. sum_by f new.items + unwrap_or (option_map f o) 0) (sym is) ∙ sum_removed found old new removes

  pub found_in_sum : (p : T → Bool) (items : List T) (x : T) → find p items ≡ Some x → f x ≤ sum_by f items
  found_in_sum p [] x found = absurd (true≢false (sym (ap is_some found)))
  found_in_sum p (y ∷ ys) x found = by (p y) found (found_in_sum p ys x)
    where
      by : (b : Bool) → cond b (Some y) (find p ys) ≡ Some x → (find p ys ≡ Some x → f x ≤ sum_by f ys) → f x ≤ sum_by f (y ∷ ys)
      by true found rest =
          let same : y ≡ x = cc in
          let weight = ap f same in
          omega (arith, sum_by-cons f y ys)
      by false found rest =
          let behind = rest found in
          omega (arith, sum_by-cons f y ys)

  -- some were left out, as by `retain`
  pub sum_retained : (kept : List Bool) (old new : List T) → new ≡ items_where_true kept old → sum_by f new ≤ sum_by f old
  sum_retained kept old new left = subst (λ xs. sum_by f xs ≤ sum_by f old) (sym left) (of_kept kept old)
    where
      of_kept : (bs : List Bool) (xs : List T) → sum_by f (items_where_true bs xs) ≤ sum_by f xs
      of_kept [] xs = omega arith
      of_kept (b ∷ bs) [] = omega arith
      of_kept (true ∷ bs) (x ∷ xs) = omega (arith, of_kept bs xs, sum_by-cons f x xs, sum_by-cons f x (items_where_true bs xs))
      of_kept (false ∷ bs) (x ∷ xs) = omega (arith, of_kept bs xs, sum_by-cons f x xs)

-- of one item that was left out
module _ {T : Type 0} (f : T → ℕ) (p : T → Bool) where
  never_longer : (xs : List T) → length (filter (λ x. not (p x)) xs) ≤ length xs
  never_longer [] = omega arith
  never_longer (x ∷ xs) = by (p x) (never_longer xs)
    where
      by : (b : Bool) → length (filter (λ y. not (p y)) xs) ≤ length xs → length (cond (not b) (x ∷ filter (λ y. not (p y)) xs) (filter (λ y. not (p y)) xs)) ≤ length (x ∷ xs)
      by true rest = omega arith
      by false rest = omega arith

  none_gone : (xs : List T) → length (filter (λ x. not (p x)) xs) ≡ length xs → filter (λ x. not (p x)) xs ≡ xs
  none_gone [] same = refl
  none_gone (x ∷ xs) same = by (p x) same (never_longer xs) (none_gone xs)
    where
      by : (b : Bool) → length (cond (not b) (x ∷ filter (λ y. not (p y)) xs) (filter (λ y. not (p y)) xs)) ≡ length (x ∷ xs) → length (filter (λ y. not (p y)) xs) ≤ length xs → (length (filter (λ y. not (p y)) xs) ≡ length xs → filter (λ y. not (p y)) xs ≡ xs) → cond (not b) (x ∷ filter (λ y. not (p y)) xs) (filter (λ y. not (p y)) xs) ≡ x ∷ xs
      by true same short rest = absurd (omega arith)
      by false same short rest = ap (λ ys. x ∷ ys) (rest (omega arith))

-- each visit leaves the visitor as it is, writes so, and keeps what passes the test
pub kept_in_place : {V T : Type 0} (visits : V → T → V × T × Bool) (v : V) (writes : T → T) (keeps : T → Bool) → ((x : T) → visits v x ≡ (v, writes x, keeps x)) → (items : List T) → kept_by visits v items ≡ map writes (filter keeps items)
kept_in_place visits v writes keeps told [] = refl
kept_in_place visits v writes keeps told (x ∷ xs) =
    let rest = kept_in_place visits v writes keeps told xs in
    rw (told x) (elim (keeps x) as (λ b. cond b (writes x ∷ kept_by visits v xs) (kept_by visits v xs) ≡ map writes (cond b (x ∷ filter keeps xs) (filter keeps xs))) [ true ↦ ap (λ ys. writes x ∷ ys) rest | false ↦ rest ])

pub ruleset after_changes = (same_text, text_apart, text_beside, text_differs, found_passes, find_inserted, find_beside_inserted, find_removed, find_beside_removed, still_found_removed, still_absent_removed, still_found_put, still_absent_put, find_replaced, length_inserted, length_replaced, length_removed, sum_inserted, sum_removed, sum_taken, found_in_sum, sum_retained)
