-- Many items are put in, one after the other, up to the first that is not.
--     stays_on      what two calls after one another leave
--     absent_before      of items that differ in their keys, none before x has its key
--     as_many      as many were put in as there are more
--     takes_none, takes_last, stops_here      none, one more, and the one that is not
--     spare_first      before one finds no room, at least as many were put in as were spare
--     Ends, extended_same      the items alone, in any order, say what an unrefused extension returns and leaves
use Rattle.std.proofs.Common.{◌≡◌, ℕ, zero, suc, ◌+◌, ◌-◌, ◌<◌, ◌≤◌, ◌⊎◌, Bool, false, cond, List, [], ◌∷◌, ◌++◌, length, take, map, Option, Some, None, refl, sym, ap, ap₂, ◌∙◌, subst, arith, inl, inr, ⊎_elim, IsPermutation}
use Rattle.std.specs.Prelude.{slice_get, IfNone, IfSome}
use Rattle.std.specs.Cmp.{IsEquivalence}
use Rattle.std.specs.Global.{Vec}
use Rattle.std.specs.List.{AllByRecursion, IsDistinct}
use Rattle.std.proofs.Math.Nat.{le_of_suc-le-suc, lt_of_not-le}
use Rattle.std.proofs.Math.Seq.{take-append_seam, take-length}
use Rattle.std.proofs.lemmas.List.{append_assoc, length-append, length-take-le}
use Rattle.std.proofs.lemmas.List.Edits.{length-insert}
use Rattle.std.proofs.lemmas.List.Sorted.{IsPermutation-append_left, IsPermutation-sym, IsPermutation-trans, length_permutation}
use Rattle.std.proofs.lemmas.Option.{slice_get_within}
use Rattle.iddqd.specs.Collecting.{AddsAll, room_to_reserve}
use Rattle.iddqd.specs.Contents.{NoTwoAkin, OverwritesItem, find_item}
use Rattle.iddqd.proofs.AddingLemmas.{adds_last, adds_none, by_one_key, conflicts_first}
use Rattle.iddqd.proofs.OrderLemmas.{differ_moved, find_moved}
use Rattle.iddqd.specs.Errors.{duplicates_of, new_item_of}
use Rattle.iddqd.specs.Refusal.{FindsNoRoom, IsOnly}
use Rattle.iddqd.specs.declared.errors.ExtendUniqueError.TheVariants as unique_error
use Rattle.idtable_commands.specs.KeyedMap.{RefusesAmong, RefusesOne, StaysKeyed, StopsExtension}
use Rattle.idtable_commands.specs.SameReplies.{HoldSameItems, IsUnrefused}
use Rattle.idtable_commands.specs.Step.{Answers, FindsFull, FitsLikely, Hashed, KeepsRoom, MapRule, MapState, MeetsAkin, Ordered, RefusesRoom, StopsAt, InsertsAll}
use Rattle.idtable_commands.specs.declared.commands.Command.TheVariants.{ExtendUnique}
use Rattle.idtable_commands.specs.declared.keyed_map.extend.NotInserted.{NotInserted}
use Rattle.idtable_commands.specs.declared.keyed_map.extend.NotInserted.TheVariants.{Akin, Refused}
use Rattle.idtable_commands.specs.declared.commands.Reply.{Reply}
use Rattle.idtable_commands.specs.declared.commands.Reply.TheVariants.{Extended, Conflict, Stopped}

not_below : {a b : ℕ} → (a < b → ⊥) → b ≤ a
not_below {a} {b} never = let more : b < suc a = lt_of_not-le never in omega (arith, more)

pub stays_on : {M T K : Type 0} (state : M → MapState T) (limit_of : M → ℕ) (rule : MapRule K) (IsKeyed : M → Type 0) (old middle new : M) → StaysKeyed state limit_of rule IsKeyed old middle → StaysKeyed state limit_of rule IsKeyed middle new → StaysKeyed state limit_of rule IsKeyed old new
stays_on state limit_of rule IsKeyed old middle new one other = record {
  keyed = other.keyed;
  limit = other.limit ∙ one.limit;
  room = room_on rule (limit_of old) (limit_of middle) (state old) (state middle) (state new) one.limit one.room other.room;
}
  where
    room_on : {T K : Type 0} (rule : MapRule K) (limit between : ℕ) (old middle new : MapState T) → between ≡ limit → KeepsRoom rule limit old middle → KeepsRoom rule between middle new → KeepsRoom rule limit old new
    room_on (Ordered compare) limit between old middle new e a b = (a.0, b.1)
    room_on Hashed limit between old middle new e a b = record { at_least = omega (arith, a.at_least, b.at_least); in_limit = omega (arith, b.in_limit, e) }

module _ {T : Type 0} where
  -- a list is cut before the place of x
  pub cut_at : (xs : List T) (n m : ℕ) (x : T) → slice_get xs n ≡ Some x → n < m → (rest : List T) × (take m xs ≡ take n xs ++ x ∷ rest)
  cut_at [] n m x e lt = cc
  cut_at (y ∷ xs) zero zero x e lt = absurd (omega (arith, lt))
  cut_at (y ∷ xs) zero (suc m) x e lt = (take m xs, (let same : y ≡ x = cc in ap (λ z. z ∷ take m xs) same))
  cut_at (y ∷ xs) (suc n) zero x e lt = absurd (omega (arith, lt))
  cut_at (y ∷ xs) (suc n) (suc m) x e lt = let more = cut_at xs n m x e (le_of_suc-le-suc lt) in (more.0, ap (λ zs. y ∷ zs) more.1)

  -- the element behind the front
  pub get_behind : (front rest : List T) (x : T) → slice_get (front ++ x ∷ rest) (length front) ≡ Some x
  get_behind [] rest x = refl
  get_behind (y ∷ front) rest x = get_behind front rest x

module _ {T K : Type 0} (key : T → K) {eq : K → K → Bool} (equivalence : IsEquivalence eq) where
  apart_from : (y : T) (ys zs : List T) (x : T) → AllByRecursion (λ k. eq (key y) k ≡ false) (map key (ys ++ x ∷ zs)) → eq (key y) (key x) ≡ false
  apart_from y [] zs x all = all.0
  apart_from y (w ∷ ys) zs x all = apart_from y ys zs x all.1

  pub absent_before : (ys zs : List T) (x : T) → NoTwoAkin key eq (ys ++ x ∷ zs) → find_item key (eq (key x)) ys ≡ None
  unfolding IsDistinct
  absent_before [] zs x differ = refl
  absent_before (y ∷ ys) zs x differ =
      let apart : eq (key x) (key y) ≡ false = equivalence.symm (key x) (key y) ∙ apart_from y ys zs x differ.0 in
      ap (λ b. cond b (Some y) (find_item key (eq (key x)) ys)) apart ∙ absent_before ys zs x differ.1

  -- among items that differ in their keys, none before x has its key
  none_yet : (old xs : List T) (n m : ℕ) (x : T) → slice_get xs n ≡ Some x → n < m → NoTwoAkin key eq (old ++ take m xs) → find_item key (eq (key x)) (old ++ take n xs) ≡ None
  none_yet old xs n m x e lt differ =
      let at = cut_at xs n m x e lt in
      absent_before (old ++ take n xs) at.0 x (subst (NoTwoAkin key eq) (ap (λ zs. old ++ zs) at.1 ∙ sym (append_assoc old (take n xs) (x ∷ at.0))) differ)

  pub as_many : (xs old new : List T) → AddsAll key eq xs old new → length new ≡ length old + length xs
  as_many xs old new adds = length_permutation (old ++ xs) new adds.same ∙ length-append old xs

  pub as_many_before : (xs old new : List T) (x : T) (after : ℕ) → slice_get xs after ≡ Some x → AddsAll key eq (take after xs) old new → length new ≡ length old + after
  as_many_before xs old new x after e adds =
      as_many (take after xs) old new adds ∙ ap (λ n. length old + n) (length-take-le after xs (let within = slice_get_within xs after x e in omega (arith, within)))

  module _ (limit : ℕ) where
    pub takes_none : (old new : List T) → new ≡ old → NoTwoAkin key eq old → InsertsAll key eq limit [] old new
    takes_none old new same differ = subst (InsertsAll key eq limit [] old) (sym same) (record { added = adds_none (by_one_key key equivalence) old differ; room = λ some. absurd (omega (arith, some)) })

    pub takes_last : (xs old middle new : List T) (x : T) → InsertsAll key eq limit xs old middle → OverwritesItem key eq x limit middle None new → InsertsAll key eq limit (xs ++ x ∷ []) old new
    takes_last xs old middle new x takes put = record {
      added = adds_last (by_one_key key equivalence) xs old middle takes.added x new put.0 put.2;
      room = λ _. omega (arith, put.1, ap length put.2.put, length-insert middle put.2.place x put.2.within);
    }

    -- x comes after those that were put in
    pub stops_here : (front rest xs old new : List T) (x : T) → xs ≡ front ++ x ∷ rest → InsertsAll key eq limit front old new → StopsAt key eq limit xs x (length front) old new
    stops_here front rest xs old new x is takes = record {
      next = ap (λ zs. slice_get zs (length front)) is ∙ get_behind front rest x;
      taken = subst (λ zs. InsertsAll key eq limit zs old new) (sym (ap (take (length front)) is ∙ take-append_seam front (x ∷ rest))) takes;
    }

    pub meets_here : (front rest xs old new : List T) (x there : T) → xs ≡ front ++ x ∷ rest → InsertsAll key eq limit front old new → find_item key (eq (key x)) new ≡ Some there → MeetsAkin key eq limit xs x there (length front) old new
    meets_here front rest xs old new x there is takes found =
        let stops = stops_here front rest xs old new x is takes in
        record { stops = stops; first = conflicts_first (by_one_key key equivalence) (take (length front) xs) old new stops.taken.added x (there ∷ []) found }

    pub spare_first : (rule : MapRule K) (xs : List T) (old new : MapState T) → InsertsAll key eq limit xs old.items new.items → KeepsRoom rule limit old new → new.spare ≡ 0 → old.spare ≤ length xs
    spare_first (Ordered compare) xs old new takes room none = omega (arith, room.0)
    spare_first Hashed xs old new takes room none = omega (arith, room.at_least, none, as_many xs old.items new.items takes.added)

    -- why the item after those that were put in was not
    pub refuses_among : (rule : MapRule K) (front rest xs : List T) (x : T) → xs ≡ front ++ x ∷ rest → (old middle : MapState T) (new : List T) → new ≡ middle.items → InsertsAll key eq limit front old.items middle.items → KeepsRoom rule limit old middle → (e : NotInserted T) → RefusesOne key eq limit middle x e → RefusesAmong key eq limit xs old new e
    refuses_among rule front rest xs x is old middle new same takes room (Akin back) (itself, y, found) =
        let there : find_item key (eq (key x)) new ≡ Some y = ap (find_item key (eq (key x))) same ∙ found in
        let meets = meets_here front rest xs old.items new x y is (subst (InsertsAll key eq limit front old.items) (sym same) takes) there in
        (y, length front, subst (λ z. MeetsAkin key eq limit xs z y (length front) old.items new) (sym itself) meets, subst (λ z. find_item key (eq (key z)) new ≡ Some y) (sym itself) there)
    refuses_among rule front rest xs x is old middle new same takes room (Refused r) (itself, finds, none) =
        let stops = stops_here front rest xs old.items new x is (subst (InsertsAll key eq limit front old.items) (sym same) takes) in (
          length front,
          subst (λ z. FindsFull key eq limit xs z r.error (length front) old new) (sym itself) (record {
            stops = stops;
            refused = subst (λ items. FindsNoRoom key eq limit items x r.error) (sym same) finds;
            spare_first = spare_first rule front old middle takes room none;
          }),
        )

    -- the reply of `run` to an extension that stops: the number of items says how many were inserted
    module _ (xs : List T) (old : MapState T) (new : List T) (before now : ℕ) (b : before ≡ length old.items) (n : now ≡ length new) where
      pub counted : (x : T) (after : ℕ) → StopsAt key eq limit xs x after old.items new → (before ≤ now) × (now - before ≡ after)
      counted x after stops =
          let long = as_many_before xs old.items new x after stops.next stops.taken.added in
          (omega (arith, b, n, long), omega (arith, b, n, long))

      pub conflict_more : (d : _) → StopsExtension key eq limit xs old new (unique_error.Duplicate d) → before ≤ now
      conflict_more d told = (counted (new_item_of d) told.3 told.4.stops).0

      pub conflict_answered : (d : _) → StopsExtension key eq limit xs old new (unique_error.Duplicate d) → (x : T) → x ≡ new_item_of d → (existing : Option T) → ((y : T) → IsOnly (duplicates_of d) y → IfSome existing (λ e. e ≡ y))
          → (y : T) × FitsLikely key eq limit xs old.items × MeetsAkin key eq limit xs x y (now - before) old.items new × IfSome existing (λ e. e ≡ y)
      conflict_answered d (y, lent, fits, after, meets) x is existing clone =
          let told = subst (λ m. MeetsAkin key eq limit xs (new_item_of d) y m old.items new) (sym (counted (new_item_of d) after meets.stops).1) meets in
          (y, fits, subst (λ z. MeetsAkin key eq limit xs z y (now - before) old.items new) (sym is) told, clone y lent)

      pub refused_more : (e : _) → StopsExtension key eq limit xs old new (unique_error.Refused e) → before ≤ now
      refused_more e told = by e.item told.0 told.1
        where
          by : (item : Option T) → IfSome item (λ x. FitsLikely key eq limit xs old.items × (after : ℕ) × FindsFull key eq limit xs x e.error after old new) → IfNone item (RefusesRoom limit (room_to_reserve (length old.items) (length xs)) old e.error × (new ≡ old.items)) → before ≤ now
          by (Some x) some none = (counted x some.1 some.2.stops).0
          by None some none = omega (arith, b, n, ap length none.1)

      pub refused_answered : {V : Type 0} (visits : V → T → V × T × Bool) (rule : MapRule K) (items : Vec T) → items.items ≡ xs → (item : Option T) (kind : _) → IfSome item (λ x. FitsLikely key eq limit xs old.items × (after : ℕ) × FindsFull key eq limit xs x kind after old new) → IfNone item (RefusesRoom limit (room_to_reserve (length old.items) (length xs)) old kind × (new ≡ old.items)) → Answers key eq visits limit rule (ExtendUnique items) old (Stopped item kind (now - before)) new
      refused_answered visits rule items is (Some x) kind some none =
          let told = subst (λ m. FindsFull key eq limit xs x kind m old new) (sym (counted x some.1 some.2.stops).1) some.2 in
          (subst (λ zs. FitsLikely key eq limit zs old.items) (sym is) some.0, subst (λ zs. FindsFull key eq limit zs x kind (now - before) old new) (sym is) told)
      refused_answered visits rule items is None kind some none =
          (subst (λ zs. RefusesRoom limit (room_to_reserve (length old.items) (length zs)) old kind) (sym is) none.0, omega (arith, b, n, ap length none.1), none.1)

  -- one item has the key of an existing one, if the items of another map of the same items are inserted past it
  clash : (xs one other : List T) (n m : ℕ) (x y : T) → IsPermutation one other → slice_get xs n ≡ Some x → n < m → NoTwoAkin key eq (other ++ take m xs) → NoTwoAkin key eq (one ++ take n xs) → find_item key (eq (key x)) (one ++ take n xs) ≡ Some y → ⊥
  clash xs one other n m x y same e lt differ differ_one found =
      let none = none_yet other xs n m x e lt differ in
      let moved = find_moved key equivalence (eq (key x)) (equivalence.congr (key x)) (one ++ take n xs) (other ++ take n xs) (IsPermutation-append_left (take n xs) one other same) differ_one in
      cc

  -- where an unrefused extension ends: behind all items, or at one whose key an existing item has
  pub record Ends (xs old : List T) (reply : Reply T) (new : List T) : Type 0 where
    pub after : ℕ
    pub added : AddsAll key eq (take after xs) old new
    pub told : ((after ≡ length xs) × (reply ≡ Extended after)) ⊎ ((x y : T) × (slice_get xs after ≡ Some x) × (find_item key (eq (key x)) (old ++ take after xs) ≡ Some y) × (reply ≡ Conflict x (Some y) after))

  module _ {V : Type 0} (visits : V → T → V × T × Bool) (limit : ℕ) (rule : MapRule K) (xs : _) (old : MapState T) (new : List T) where
    pub extended_ends : (reply : Reply T) → Answers key eq visits limit rule (ExtendUnique xs) old reply new → IsUnrefused reply → Ends xs.items old.items reply new
    extended_ends (Extended n) a u = record {
      after = length xs.items;
      added = subst (λ zs. AddsAll key eq zs old.items new) (sym (take-length xs.items)) a.2.added;
      told = inl (refl, ap Extended a.0);
    }
    extended_ends (Conflict x (Some e) after) a u = record {
      after = after;
      added = a.2.stops.taken.added;
      told = inr (x, a.0, a.2.stops.next, a.2.first.akin, ap (λ y. Conflict x (Some y) after) a.3);
    }
    extended_ends (Conflict x None after) a u = cc
    extended_ends (Stopped back kind after) a u = absurd u
    extended_ends reply a u = absurd a

  module _ (xs old1 old2 : List T) (reply1 reply2 : Reply T) (new1 new2 : List T) (h : HoldSameItems key eq old1 old2) (a : Ends xs old1 reply1 new1) (b : Ends xs old2 reply2 new2) where
    held_same : a.after ≡ b.after → HoldSameItems key eq new1 new2
    held_same e =
        let one = take a.after xs in
        let adds = subst (λ n. AddsAll key eq (take n xs) old2 new2) (sym e) b.added in
        record {
          same = IsPermutation-trans new1 (old1 ++ one) new2 (IsPermutation-sym (old1 ++ one) new1 a.added.same)
              (IsPermutation-trans (old1 ++ one) (old2 ++ one) new2 (IsPermutation-append_left one old1 old2 h.same) adds.same);
          differ = differ_moved key equivalence (old1 ++ one) new1 a.added.same a.added.differ;
        }

    back : IsPermutation old2 old1
    back = IsPermutation-sym old1 old2 h.same

    both : (x y : T) → slice_get xs a.after ≡ Some x → find_item key (eq (key x)) (old1 ++ take a.after xs) ≡ Some y → reply1 ≡ Conflict x (Some y) a.after
        → (z w : T) → slice_get xs b.after ≡ Some z → find_item key (eq (key z)) (old2 ++ take b.after xs) ≡ Some w → reply2 ≡ Conflict z (Some w) b.after
        → a.after ≡ b.after → reply1 ≡ reply2
    both x y at found is z w at2 found2 is2 e =
        let one : x ≡ z = (let there = ap (slice_get xs) e in cc) in
        let moved = find_moved key equivalence (eq (key x)) (equivalence.congr (key x)) (old1 ++ take a.after xs) (old2 ++ take a.after xs) (IsPermutation-append_left (take a.after xs) old1 old2 h.same) a.added.differ in
        let found3 : find_item key (eq (key x)) (old2 ++ take a.after xs) ≡ Some w = subst (λ n. find_item key (eq (key x)) (old2 ++ take n xs) ≡ Some w) (sym e) (subst (λ v. find_item key (eq (key v)) (old2 ++ take b.after xs) ≡ Some w) (sym one) found2) in
        let other : y ≡ w = cc in
        is ∙ ap₂ (λ v u. Conflict v (Some u) a.after) one other ∙ ap (λ n. Conflict z (Some w) n) e ∙ sym is2

    pub extended_same : (reply1 ≡ reply2) × HoldSameItems key eq new1 new2
    extended_same = ⊎_elim
        (λ all. ⊎_elim
        (λ all2. let e : a.after ≡ b.after = all.0 ∙ sym all2.0 in (all.1 ∙ ap Extended e ∙ sym all2.1, held_same e))
        (λ met2. absurd (clash xs old2 old1 b.after a.after met2.0 met2.1 back met2.2 (let within = slice_get_within xs b.after met2.0 met2.2 in omega (arith, within, all.0)) a.added.differ b.added.differ met2.3))
        b.told)
        (λ met. ⊎_elim
        (λ all2. absurd (clash xs old1 old2 a.after b.after met.0 met.1 h.same met.2 (let within = slice_get_within xs a.after met.0 met.2 in omega (arith, within, all2.0)) b.added.differ a.added.differ met.3))
        (λ met2.
        let no_less : b.after ≤ a.after = not_below (λ lt. clash xs old1 old2 a.after b.after met.0 met.1 h.same met.2 lt b.added.differ a.added.differ met.3) in
        let no_more : a.after ≤ b.after = not_below (λ lt. clash xs old2 old1 b.after a.after met2.0 met2.1 back met2.2 lt a.added.differ b.added.differ met2.3) in
        let e : a.after ≡ b.after = omega (arith, no_less, no_more) in
        (both met.0 met.1 met.2 met.3 met.4 met2.0 met2.1 met2.2 met2.3 met2.4 e, held_same e))
        b.told)
        a.told
