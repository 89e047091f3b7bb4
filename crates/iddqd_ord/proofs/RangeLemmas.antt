-- Where bounds lie among items that ascend, and what stands between two positions.
--     at_there, above_there, nowhere      where the items begin that are not less than a query, or greater
--     from_place, behind_place, absent_place      the same by the place that a search returns
--     walk_begins      the position that a walk from a bound on begins at
--     split_start      where the items begin that an unbounded start lets through
--     ends_where      where those end that another test does not let through
--     between_places      the elements that pass from one position on and up to another stand between them
--     places_out      what is left if the items between two positions are taken out
--     first_passing, last_before, last_none      the first item that passes, and the last
--     rank_is      how many items are less than a query
--     part_up_to, part_cut, part_within, take_to, sum-part      what stands between two positions, and its sum
use Rattle.std.proofs.Common.{◌≡◌, ℕ, zero, suc, ◌+◌, ◌-◌, ◌<◌, ◌≤◌, ⊎_elim, Bool, true, false, not, ◌&&◌, List, [], ◌∷◌, ◌++◌, length, map, take, drop, get_or, filter, sum_by, count_by, max, min, Some, None, Result, Ok, Err, is_ok, refl, sym, ap, ◌∙◌, subst, arith, Ordering, Less, Equal, Greater, below_more, true≢false, suc-le-suc, length-drop, length-take, take-append-drop, inl, inr}
use Rattle.std.proofs.Math.Nat.{eq-or-lt_of_le}
use Rattle.std.proofs.lemmas.Bool.{cases_lt}
use Rattle.std.proofs.lemmas.List.{get_or-map, length-map, drop-take, drop_all, drop_min, take_all, take_min, get_or-take, length-take-le}
use Rattle.std.proofs.lemmas.List.Sums.{sum_by-take-drop, sum_by-take-le, length-filter}
use Rattle.std.proofs.lemmas.Option.{slice_get-get_or}
use Rattle.std.specs.List.{AllWithin, HoldsAt, slice_get}
use Rattle.std.specs.Ordering.{is_lt, is_le, is_ge, is_gt}
use Rattle.iddqd_store.specs.Contents.{Ascends, find_item}
use Rattle.iddqd_store.specs.Holding.{Holding}
use Rattle.iddqd_store.specs.SlotItems.{HaveSlots}
use Rattle.iddqd_ord_index.specs.Search.{IsPlaceAmong, position_of}
use Rattle.iddqd_store.proofs.QueryLemmas.{OrderedQuery}
use Rattle.iddqd_store.proofs.SearchLemmas.{greater_in_front, less_at_back, find_from}
use Rattle.std.specs.Bound.{end_index}
use Rattle.std.specs.declared.ops.Bound.{Bound}
use Rattle.std.specs.declared.ops.Bound.TheVariants.{Included, Excluded, Unbounded}
use Rattle.iddqd_ord.specs.Ranges.{EndsAt, SplitsAt, WalksFrom, items_to}

module _ {T K : Type 0} (key : T → K) (items : List T) where
  -- from the keys to the items
  of_keys : (t : K → Bool) (n : ℕ) → n ≤ length (map key items) → AllWithin (λ k. t k ≡ false) (map key items) 0 n → AllWithin (λ k. t k ≡ true) (map key items) n (length (map key items)) → SplitsAt (λ x. t (key x)) items n
  of_keys t n h before behind =
      let long = length-map items key in
      record {
        within = omega (arith, long);
        before = λ k d lt. rw (← get_or-map key items k d (key d) (omega (arith, long))) (before k (key d) (omega arith) lt);
        behind = λ k d le lt. rw (← get_or-map key items k d (key d) lt) (behind k (key d) le (omega (arith, long)));
      }

  pub nowhere : (compare : K → Ordering) (t : Ordering → Bool) → t Greater ≡ false → t Less ≡ true → (i : ℕ) → i ≤ length (map key items) → AllWithin (λ k. compare k ≡ Greater) (map key items) 0 i → AllWithin (λ k. compare k ≡ Less) (map key items) i (length (map key items)) → SplitsAt (λ x. t (compare (key x))) items i
  nowhere compare t g l i h before behind =
      of_keys (λ k. t (compare k)) i h (λ k d a b. ap t (before k d a b) ∙ g) (λ k d a b. ap t (behind k d a b) ∙ l)

  module _ {eq : K → K → Bool} {cmp : K → K → Ordering} {test : K → Bool} {compare : K → Ordering} (q : OrderedQuery eq cmp test compare) (sorted : Ascends key cmp items) (i : ℕ) (h : i < length (map key items)) (at : HoldsAt (λ k. compare k ≡ Equal) (map key items) i) where
    pub at_there : SplitsAt (λ x. is_le (compare (key x))) items i
    at_there = of_keys (λ k. is_le (compare k)) i (omega arith)
        (λ k d a b. ap is_le (greater_in_front q.total compare (map key items) sorted q.below i h (λ e. ap is_ge (at e)) k d a b))
        (λ k d a b. ⊎_elim
        (λ e. subst (λ j. is_le (compare (get_or (map key items) j d)) ≡ true) e (ap is_le (at d)))
        (λ lt. ap is_le (less_at_back q.total compare (map key items) sorted q.above i (λ e. ap is_le (at e)) k d (omega arith) b))
        (eq-or-lt_of_le a))

    pub above_there : SplitsAt (λ x. is_lt (compare (key x))) items (i + 1)
    above_there = of_keys (λ k. is_lt (compare k)) (i + 1) (omega arith)
        (λ k d a b. below_more (λ j. is_lt (compare (get_or (map key items) j d)) ≡ false) i (λ j lt. ap is_lt (greater_in_front q.total compare (map key items) sorted q.below i h (λ e. ap is_ge (at e)) j d (omega arith) lt)) (ap is_lt (at d)) k b)
        (λ k d a b. ap is_lt (less_at_back q.total compare (map key items) sorted q.above i (λ e. ap is_le (at e)) k d a b))

  module _ {eq : K → K → Bool} {cmp : K → K → Ordering} {test : K → Bool} {compare : K → Ordering} (q : OrderedQuery eq cmp test compare) (sorted : Ascends key cmp items) where
    pub from_place : (place : Result ℕ ℕ) → IsPlaceAmong compare (map key items) place → SplitsAt (λ x. is_le (compare (key x))) items (position_of place)
    from_place (Ok i) p = at_there q sorted i p.0 p.1
    from_place (Err i) p = nowhere compare is_le refl refl i p.0 p.1 p.2

    pub behind_place : (place : Result ℕ ℕ) → IsPlaceAmong compare (map key items) place → is_ok place ≡ true → SplitsAt (λ x. is_lt (compare (key x))) items (position_of place + 1)
    behind_place (Ok i) p ok = above_there q sorted i p.0 p.1
    behind_place (Err i) p ok = absurd (true≢false (sym ok))

    pub absent_place : (place : Result ℕ ℕ) → IsPlaceAmong compare (map key items) place → is_ok place ≡ false → SplitsAt (λ x. is_lt (compare (key x))) items (position_of place)
    absent_place (Ok i) p ok = absurd (true≢false ok)
    absent_place (Err i) p ok = nowhere compare is_lt refl refl i p.0 p.1 p.2

-- a walk from a bound on has as many slots as there are items from its first position on
pub walk_begins : {T Q K : Type 0} (key : T → K) (compare : Q → K → Ordering) (bound : Bound Q) (map : Holding T) (walk : List ℕ) (len : ℕ) → HaveSlots map.slots map.items → len ≡ length map.items → (w : WalksFrom key compare bound map walk) → len - length walk ≡ w.0
walk_begins key compare bound map walk len own e w = omega (arith, e, own.as_many, w.1.within, ap length w.2, length-drop w.0 map.slots)

module _ {X : Type 0} where
  pub split_start : (xs : List X) → SplitsAt (λ _. true) xs 0
  split_start xs = record { within = omega arith; before = λ k d lt. absurd (omega arith); behind = λ k d le lt. refl }

  pub ends_where : (t u : X → Bool) → ((x : X) → u x ≡ not (t x)) → (xs : List X) (n : ℕ) → SplitsAt t xs n → EndsAt u xs n
  ends_where t u turned xs n s = record {
    within = s.within;
    before = λ k d lt. turned (get_or xs k d) ∙ ap not (s.before k d lt);
    behind = λ k d le lt. turned (get_or xs k d) ∙ ap not (s.behind k d le lt);
  }

  module _ (p q : X → Bool) where
    cut : (xs : List X) (low high : ℕ)
        → ((k : ℕ) (d : X) → k < low → k < length xs → p (get_or xs k d) ≡ false)
        → ((k : ℕ) (d : X) → low ≤ k → k < length xs → p (get_or xs k d) ≡ true)
        → ((k : ℕ) (d : X) → k < high → k < length xs → q (get_or xs k d) ≡ true)
        → ((k : ℕ) (d : X) → high ≤ k → k < length xs → q (get_or xs k d) ≡ false)
        → filter (λ x. p x && q x) xs ≡ drop low (take high xs)
    cut [] zero zero a b c e = refl
    cut [] zero (suc high) a b c e = refl
    cut [] (suc low) zero a b c e = refl
    cut [] (suc low) (suc high) a b c e = refl
    cut (x ∷ xs) zero zero a b c e =
        rw (b zero x (omega arith) (omega arith), e zero x (omega arith) (omega arith))
        (cut xs zero zero (λ k d i h. absurd (omega arith)) (λ k d i h. b (suc k) d (omega arith) (suc-le-suc h)) (λ k d i h. absurd (omega arith)) (λ k d i h. e (suc k) d (omega arith) (suc-le-suc h)))
    cut (x ∷ xs) (suc low) zero a b c e =
        rw (a zero x (omega arith) (omega arith))
        (cut xs low zero (λ k d i h. a (suc k) d (suc-le-suc i) (suc-le-suc h)) (λ k d i h. b (suc k) d (suc-le-suc i) (suc-le-suc h)) (λ k d i h. absurd (omega arith)) (λ k d i h. e (suc k) d (omega arith) (suc-le-suc h)) ∙ drop_all low [] (omega arith))
    cut (x ∷ xs) zero (suc high) a b c e =
        rw (b zero x (omega arith) (omega arith), c zero x (omega arith) (omega arith))
        (ap (λ ys. x ∷ ys) (cut xs zero high (λ k d i h. absurd (omega arith)) (λ k d i h. b (suc k) d (omega arith) (suc-le-suc h)) (λ k d i h. c (suc k) d (suc-le-suc i) (suc-le-suc h)) (λ k d i h. e (suc k) d (suc-le-suc i) (suc-le-suc h))))
    cut (x ∷ xs) (suc low) (suc high) a b c e =
        rw (a zero x (omega arith) (omega arith))
        (cut xs low high (λ k d i h. a (suc k) d (suc-le-suc i) (suc-le-suc h)) (λ k d i h. b (suc k) d (suc-le-suc i) (suc-le-suc h)) (λ k d i h. c (suc k) d (suc-le-suc i) (suc-le-suc h)) (λ k d i h. e (suc k) d (suc-le-suc i) (suc-le-suc h)))

    out : (xs : List X) (low high : ℕ) → low ≤ high
        → ((k : ℕ) (d : X) → k < low → k < length xs → p (get_or xs k d) ≡ false)
        → ((k : ℕ) (d : X) → low ≤ k → k < length xs → p (get_or xs k d) ≡ true)
        → ((k : ℕ) (d : X) → k < high → k < length xs → q (get_or xs k d) ≡ true)
        → ((k : ℕ) (d : X) → high ≤ k → k < length xs → q (get_or xs k d) ≡ false)
        → filter (λ x. not (p x && q x)) xs ≡ take low xs ++ drop high xs
    out [] zero zero le a b c e = refl
    out [] zero (suc high) le a b c e = refl
    out [] (suc low) zero le a b c e = refl
    out [] (suc low) (suc high) le a b c e = refl
    out (x ∷ xs) zero zero le a b c e =
        rw (b zero x (omega arith) (omega arith), e zero x (omega arith) (omega arith))
        (ap (λ ys. x ∷ ys) (out xs zero zero (omega arith) (λ k d i h. absurd (omega arith)) (λ k d i h. b (suc k) d (omega arith) (suc-le-suc h)) (λ k d i h. absurd (omega arith)) (λ k d i h. e (suc k) d (omega arith) (suc-le-suc h))))
    out (x ∷ xs) (suc low) zero le a b c e = absurd (omega arith)
    out (x ∷ xs) zero (suc high) le a b c e =
        rw (b zero x (omega arith) (omega arith), c zero x (omega arith) (omega arith))
        (out xs zero high (omega arith) (λ k d i h. absurd (omega arith)) (λ k d i h. b (suc k) d (omega arith) (suc-le-suc h)) (λ k d i h. c (suc k) d (suc-le-suc i) (suc-le-suc h)) (λ k d i h. e (suc k) d (suc-le-suc i) (suc-le-suc h)))
    out (x ∷ xs) (suc low) (suc high) le a b c e =
        rw (a zero x (omega arith) (omega arith))
        (ap (λ ys. x ∷ ys) (out xs low high (omega arith) (λ k d i h. a (suc k) d (suc-le-suc i) (suc-le-suc h)) (λ k d i h. b (suc k) d (suc-le-suc i) (suc-le-suc h)) (λ k d i h. c (suc k) d (suc-le-suc i) (suc-le-suc h)) (λ k d i h. e (suc k) d (suc-le-suc i) (suc-le-suc h))))

    stay : (xs : List X) (low high : ℕ) → high ≤ low
        → ((k : ℕ) (d : X) → k < low → k < length xs → p (get_or xs k d) ≡ false)
        → ((k : ℕ) (d : X) → low ≤ k → k < length xs → p (get_or xs k d) ≡ true)
        → ((k : ℕ) (d : X) → high ≤ k → k < length xs → q (get_or xs k d) ≡ false)
        → filter (λ x. not (p x && q x)) xs ≡ xs
    stay [] low high le a b e = refl
    stay (x ∷ xs) zero high le a b e =
        rw (b zero x (omega arith) (omega arith), e zero x (omega arith) (omega arith))
        (ap (λ ys. x ∷ ys) (stay xs zero zero (omega arith) (λ k d i h. absurd (omega arith)) (λ k d i h. b (suc k) d (omega arith) (suc-le-suc h)) (λ k d i h. e (suc k) d (omega arith) (suc-le-suc h))))
    stay (x ∷ xs) (suc low) zero le a b e =
        rw (a zero x (omega arith) (omega arith))
        (ap (λ ys. x ∷ ys) (stay xs low zero (omega arith) (λ k d i h. a (suc k) d (suc-le-suc i) (suc-le-suc h)) (λ k d i h. b (suc k) d (suc-le-suc i) (suc-le-suc h)) (λ k d i h. e (suc k) d (omega arith) (suc-le-suc h))))
    stay (x ∷ xs) (suc low) (suc high) le a b e =
        rw (a zero x (omega arith) (omega arith))
        (ap (λ ys. x ∷ ys) (stay xs low high (omega arith) (λ k d i h. a (suc k) d (suc-le-suc i) (suc-le-suc h)) (λ k d i h. b (suc k) d (suc-le-suc i) (suc-le-suc h)) (λ k d i h. e (suc k) d (suc-le-suc i) (suc-le-suc h))))

    -- what is left where those between the places were taken out, if the second is not before the first
    pub places_out : (xs ys : List X) (low high : ℕ) → SplitsAt p xs low → EndsAt q xs high → ys ≡ take low xs ++ drop (max high low) xs → ys ≡ filter (λ x. not (p x && q x)) xs
    places_out xs ys low high s t is =
        elim (cases_lt high low) [
          | inl lt ↦ (
              let m : max high low ≡ low = omega arith in
              is ∙ (ap (λ n. take low xs ++ drop n xs) m ∙ (take-append-drop low xs ∙ sym (stay xs low high (omega arith) (λ k d i h. s.before k d i) s.behind t.behind)))
              )
          | inr ge ↦ (
              let m : max high low ≡ high = omega arith in
              is ∙ (ap (λ n. take low xs ++ drop n xs) m ∙ sym (out xs low high (omega arith) (λ k d i h. s.before k d i) s.behind (λ k d i h. t.before k d i) t.behind))
              )
        ]

    pub between_places : (xs : List X) (low high : ℕ) → SplitsAt p xs low → EndsAt q xs high → filter (λ x. p x && q x) xs ≡ drop low (take high xs)
    between_places xs low high s t = cut xs low high (λ k d i h. s.before k d i) s.behind (λ k d i h. t.before k d i) t.behind

  -- where the second place is not behind the first there is nothing between them
  pub part_backward : (xs : List X) (low high : ℕ) → high ≤ low → drop low (take low xs) ≡ drop low (take high xs)
  part_backward xs low high le =
      drop_all low (take low xs) (omega (arith, length-take low xs)) ∙ sym (drop_all low (take high xs) (omega (arith, length-take high xs)))

  pub part_up_to : (xs : List X) (low high end : ℕ) → end ≡ max high low → drop low (take end xs) ≡ drop low (take high xs)
  part_up_to xs low high end e =
      ⊎_elim
      (λ lt. let is : end ≡ low = omega arith in ap (λ n. drop low (take n xs)) is ∙ part_backward xs low high (omega arith))
      (λ le. let is : end ≡ high = omega arith in ap (λ n. drop low (take n xs)) is)
      (cases_lt high low)

  -- positions behind the end of the list say no more than the end
  pub part_within : (xs : List X) (start end low high : ℕ) → low ≡ min start high → high ≡ min end (length xs) → drop low (take high xs) ≡ drop start (take end xs)
  part_within xs start end low high l h =
      let long = length-take-le high xs (omega (arith, h)) in
      ap (λ n. drop n (take high xs)) (l ∙ ap (λ n. min start n) (sym long))
      ∙ (drop_min start (take high xs) ∙ ap (λ ys. drop start ys) (ap (λ n. take n xs) h ∙ take_min end xs))

  -- a list from one position on, cut to as many elements as there are up to another
  pub part_cut : (xs : List X) (low high len : ℕ) → len ≡ high - low → take len (drop low xs) ≡ drop low (take high xs)
  part_cut xs low high len e = sym (drop-take low len xs) ∙ part_up_to xs low high (low + len) (omega (arith, e))

  pub take_to : (xs : List X) (end : Bound ℕ) → take (end_index end (length xs)) xs ≡ items_to end xs
  take_to xs (Included n) = refl
  take_to xs (Excluded n) = refl
  take_to xs Unbounded = take_all (length xs) xs (omega arith)

  pub sum-part : (h : X → ℕ) (xs : List X) (next end : ℕ) → sum_by h (drop next (take end xs)) ≤ sum_by h xs
  sum-part h xs next end = omega (arith, sum_by-take-drop h (take end xs) next, sum_by-take-le h xs end)

-- the first item that passes, where those that pass are the ones from a place on
pub first_passing : {T K : Type 0} (key : T → K) (t : K → Bool) (items : List T) (n : ℕ) → SplitsAt (λ x. t (key x)) items n → find_item key t items ≡ slice_get items n
first_passing key t items n s = find_from (λ x. t (key x)) items n (λ k d a b. s.before k d b) (λ lt d. s.behind n d (omega arith) lt)

-- the last element that passes
pub last_before : {X : Type 0} (q : X → Bool) (xs : List X) (n : ℕ) → EndsAt q xs n → 0 < n → slice_get (filter q xs) (length (filter q xs) - 1) ≡ slice_get xs (n - 1)
last_before q [] n s some = absurd (omega (arith, s.within))
last_before q (x ∷ xs) n s some =
    let fits : n ≤ length (x ∷ xs) = s.within in
    let long = length-take-le n (x ∷ xs) fits in
    ap (λ l. slice_get l (length l - 1)) (between_places (λ _. true) q (x ∷ xs) 0 n (split_start (x ∷ xs)) s)
    ∙ (slice_get-get_or (take n (x ∷ xs)) (length (take n (x ∷ xs)) - 1) x (omega arith)
    ∙ (ap Some (get_or-take n (x ∷ xs) (length (take n (x ∷ xs)) - 1) x (omega arith))
    ∙ (ap (λ k. Some (get_or (x ∷ xs) (k - 1) x)) long
    ∙ sym (slice_get-get_or (x ∷ xs) (n - 1) x (omega arith)))))

pub last_none : {X : Type 0} (q : X → Bool) (xs : List X) (n : ℕ) → EndsAt q xs n → n ≡ 0 → slice_get (filter q xs) (length (filter q xs) - 1) ≡ None
last_none q xs n s e = ap (λ l. slice_get l (length l - 1)) (between_places (λ _. true) q xs 0 n (split_start xs) s ∙ ap (λ k. take k xs) e)

-- the tests of an order, turned
pub gt_turned : (o : Ordering) → is_gt o ≡ not (is_le o)
gt_turned Less = refl
gt_turned Equal = refl
gt_turned Greater = refl

pub ge_turned : (o : Ordering) → is_ge o ≡ not (is_lt o)
ge_turned Less = refl
ge_turned Equal = refl
ge_turned Greater = refl

-- how many items are less than a query
pub rank_is : {T K : Type 0} (key : T → K) (compare : K → Ordering) (items : List T) (i : ℕ) → SplitsAt (λ x. is_le (compare (key x))) items i → i ≡ count_by (λ x. is_gt (compare (key x))) items
rank_is key compare items i s =
    let ends = ends_where (λ x. is_le (compare (key x))) (λ x. is_gt (compare (key x))) (λ x. gt_turned (compare (key x))) items i s in
    sym (length-take-le i items s.within)
    ∙ ap length (sym (between_places (λ _. true) (λ x. is_gt (compare (key x))) items 0 i (split_start items) ends))
    ∙ length-filter (λ x. is_gt (compare (key x))) items
