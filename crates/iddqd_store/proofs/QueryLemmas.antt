-- What the place of a query among ascending keys says of the items.
--     OrderedQuery eq cmp test compare      the laws of a query and of its keys' order, as one fact
--     own_query      a key is a query for itself
--     only_at, none_at      the item at the place found is the only one that the query is equivalent to; where the query belongs, there is none
--     place_there, without_there, replaced_there, find_nowhere, without_nowhere, replaced_nowhere      what the search, the removal and the replacement give
--     above_there, above_nowhere      where the first item stands whose key is above the query
use Rattle.std.proofs.Common.{◌≡◌, ℕ, ◌+◌, ◌<◌, ◌≤◌, ⊎_elim, Bool, false, List, length, map, get_or, set, None, IsTrue, sym, ap, ◌∙◌, arith, Ordering, Less, Equal, Greater, below_more}
use Rattle.std.proofs.lemmas.Bool.{cases_lt}
use Rattle.std.proofs.lemmas.List.{get_or-map, length-map}
use Rattle.std.specs.Cmp.{IsEquivalence, IsTotalOrder}
use Rattle.std.specs.List.{AllWithin, HoldsAt, remove, slice_get}
use Rattle.std.specs.Ordering.{is_eq, is_lt, is_le, is_ge}
use Rattle.iddqd_store.specs.Query.{differ_from_ascends, le_then_less, ge_then_greater}
use Rattle.iddqd_store.specs.Contents.{IsKeyTest, find_item, items_without, items_overwritten, Ascends}
use Rattle.iddqd_store.proofs.ContentsLemmas.{IsOnlyPlace, NonePasses, only_place, find_at, find_none, filter_at, filter_none, map_at, map_none}
use Rattle.iddqd_store.proofs.SearchLemmas.{greater_in_front, less_at_back, find_from}

pub record OrderedQuery {K : Type 0} (eq : K → K → Bool) (cmp : K → K → Ordering) (test : K → Bool) (compare : K → Ordering) : Type 0 where
  pub equivalence : IsEquivalence eq
  pub total : IsTotalOrder cmp
  pub ties : (x y : K) → eq x y ≡ is_eq (cmp x y)
  pub tests : IsKeyTest eq test
  pub level : (k : K) → is_eq (compare k) ≡ test k
  pub above : (x y : K) → IsTrue (is_le (compare x)) → cmp x y ≡ Less → compare y ≡ Less
  pub below : (x y : K) → IsTrue (is_ge (compare x)) → cmp x y ≡ Greater → compare y ≡ Greater

pub own_query : {K : Type 0} (eq : K → K → Bool) (cmp : K → K → Ordering) → IsEquivalence eq → IsTotalOrder cmp → ((x y : K) → eq x y ≡ is_eq (cmp x y)) → (k : K) → OrderedQuery eq cmp (eq k) (cmp k)
own_query eq cmp equivalence total ties k = record {
  equivalence = equivalence;
  total = total;
  ties = ties;
  tests = equivalence.congr k;
  level = λ x. sym (ties k x);
  above = le_then_less total k;
  below = ge_then_greater total k;
}

module _ {T K : Type 0} (key : T → K) {eq : K → K → Bool} {cmp : K → K → Ordering} {test : K → Bool} {compare : K → Ordering} (q : OrderedQuery eq cmp test compare) (items : List T) (sorted : Ascends key cmp items) where
  pub only_at : (i : ℕ) → i < length (map key items) → HoldsAt (λ k. compare k ≡ Equal) (map key items) i → IsOnlyPlace (λ x. test (key x)) items i
  only_at i h at =
      let within : i < length items = omega (arith, length-map items key) in
      let equal : (d : T) → compare (key (get_or items i d)) ≡ Equal = λ d. rw (← get_or-map key items i d (key d) within) (at (key d)) in
      only_place key q.equivalence test q.tests items (differ_from_ascends key cmp q.ties items sorted) i within (λ d. sym (q.level (key (get_or items i d))) ∙ ap is_eq (equal d))

  pub place_there : (i : ℕ) → i < length (map key items) → HoldsAt (λ k. compare k ≡ Equal) (map key items) i → find_item key test items ≡ slice_get items i
  place_there i h at = find_at (λ y. test (key y)) items i (only_at i h at)

  pub without_there : (i : ℕ) → i < length (map key items) → HoldsAt (λ k. compare k ≡ Equal) (map key items) i → remove items i ≡ items_without key test items
  without_there i h at = sym (filter_at (λ y. test (key y)) items i (only_at i h at))

  pub replaced_there : (i : ℕ) (y : T) → i < length (map key items) → HoldsAt (λ k. compare k ≡ Equal) (map key items) i → set items i y ≡ items_overwritten key test y items
  replaced_there i y h at = sym (map_at (λ x. test (key x)) y items i (only_at i h at))

  pub none_at : (i : ℕ) → AllWithin (λ k. compare k ≡ Greater) (map key items) 0 i → AllWithin (λ k. compare k ≡ Less) (map key items) i (length (map key items)) → NonePasses (λ x. test (key x)) items
  none_at i before behind j d h = ⊎_elim
      (λ l. let greater : compare (key (get_or items j d)) ≡ Greater = rw (← get_or-map key items j d (key d) h) (before j (key d) (omega arith) l) in sym (q.level (key (get_or items j d))) ∙ ap is_eq greater)
      (λ l. let less : compare (key (get_or items j d)) ≡ Less = rw (← get_or-map key items j d (key d) h) (behind j (key d) l (omega (arith, length-map items key))) in sym (q.level (key (get_or items j d))) ∙ ap is_eq less)
      (cases_lt j i)

  pub find_nowhere : (i : ℕ) → AllWithin (λ k. compare k ≡ Greater) (map key items) 0 i → AllWithin (λ k. compare k ≡ Less) (map key items) i (length (map key items)) → None ≡ find_item key test items
  find_nowhere i before behind = sym (find_none (λ y. test (key y)) items (none_at i before behind))

  pub without_nowhere : (i : ℕ) → AllWithin (λ k. compare k ≡ Greater) (map key items) 0 i → AllWithin (λ k. compare k ≡ Less) (map key items) i (length (map key items)) → items ≡ items_without key test items
  without_nowhere i before behind = sym (filter_none (λ y. test (key y)) items (none_at i before behind))

  pub replaced_nowhere : (i : ℕ) (y : T) → AllWithin (λ k. compare k ≡ Greater) (map key items) 0 i → AllWithin (λ k. compare k ≡ Less) (map key items) i (length (map key items)) → items ≡ items_overwritten key test y items
  replaced_nowhere i y before behind = sym (map_none (λ x. test (key x)) y items (none_at i before behind))

  -- the first item whose key is above the query stands behind the one found, or where the query belongs
  first_above : (n : ℕ) → n ≤ length (map key items) → AllWithin (λ k. is_lt (compare k) ≡ false) (map key items) 0 n → AllWithin (λ k. compare k ≡ Less) (map key items) n (length (map key items)) → find_item key (λ k. is_lt (compare k)) items ≡ slice_get items n
  first_above n h before behind =
      let long = length-map items key in
      find_from (λ x. is_lt (compare (key x))) items n
      (λ j d a b. rw (← get_or-map key items j d (key d) (omega arith)) (before j (key d) a b))
      (λ l d. rw (← get_or-map key items n d (key d) l) (ap is_lt (behind n (key d) (omega arith) (omega arith))))

  pub above_there : (i : ℕ) → i < length (map key items) → HoldsAt (λ k. compare k ≡ Equal) (map key items) i → find_item key (λ k. is_lt (compare k)) items ≡ slice_get items (i + 1)
  above_there i h at = first_above (i + 1) (omega arith)
      (λ k d a b. below_more (λ j. is_lt (compare (get_or (map key items) j d)) ≡ false) i (λ j lt. ap is_lt (greater_in_front q.total compare (map key items) sorted q.below i h (λ e. ap is_ge (at e)) j d (omega arith) lt)) (ap is_lt (at d)) k b)
      (less_at_back q.total compare (map key items) sorted q.above i (λ e. ap is_le (at e)))

  pub above_nowhere : (i : ℕ) → i ≤ length (map key items) → AllWithin (λ k. compare k ≡ Greater) (map key items) 0 i → AllWithin (λ k. compare k ≡ Less) (map key items) i (length (map key items)) → find_item key (λ k. is_lt (compare k)) items ≡ slice_get items i
  above_nowhere i h before behind = first_above i h (λ k d a b. ap is_lt (before k d a b)) behind
