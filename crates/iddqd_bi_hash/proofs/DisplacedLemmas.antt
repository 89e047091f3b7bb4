-- Removing what passes one test, and then what passes another.
--     unmet_twice      what is left
--     none_left      none of it passes
--     never_more, one_less      how many are left
--     displaced_absent      no key of an item that was removed finds another
--     there_by_key1, there_by_key2, gone_by_key1, gone_by_key2      what either key finds once an item is inserted beside what is left
--     at_some, at_none, as_many, as_vacant      what was removed, as one or two values
use Rattle.std.proofs.Common.{◌≡◌, ℕ, ◌+◌, ◌≤◌, Bool, true, false, cond, not, List, [], ◌∷◌, ◌++◌, length, filter, find, Option, Some, None, IfNone, IfSome, OnSome, is_some, refl, sym, ap, ◌∙◌, arith, length-append, map, true≢false}
use Rattle.std.specs.Cmp.{IsEquivalence}
use Rattle.std.specs.List.{AllByRecursion, IsDistinct}
use Rattle.iddqd_store.specs.Contents.{AddsItem, NoTwoAkin, find_item}
use Rattle.iddqd_store.specs.Errors.{values_of}
use Rattle.iddqd_store.specs.declared.errors.Few.{Few}
use Rattle.iddqd_store.specs.declared.errors.Few.TheVariants.{One, Two, Three}
use Rattle.iddqd_bi_hash.specs.BiHashMap.{LosesKey}
use Rattle.iddqd_bi_hash.specs.TwoKeys.{as_list, has_one_of_keys, items_unmet}
use Rattle.iddqd_hash_parts.specs.SlotsFound.{values_if_any}
use Rattle.iddqd_store.proofs.ChangeLemmas.{find_beside_inserted, find_inserted, found_passes, still_absent_removed}
use Rattle.iddqd_bi_hash.proofs.MetLemmas.{neither_found}

module _ {T : Type 0} (p q : T → Bool) where
  abbrev either : T → Bool
  either y = cond (p y) true (q y)

  pub unmet_twice : (xs : List T) → filter (λ x. not (q x)) (filter (λ x. not (p x)) xs) ≡ filter (λ x. not (either x)) xs
  unmet_twice [] = refl
  unmet_twice (x ∷ xs) = by (p x) (q x) refl refl (unmet_twice xs)
    where
      by : (a b : Bool) → p x ≡ a → q x ≡ b → filter (λ x. not (q x)) (filter (λ x. not (p x)) xs) ≡ filter (λ x. not (either x)) xs → filter (λ x. not (q x)) (filter (λ x. not (p x)) (x ∷ xs)) ≡ filter (λ x. not (either x)) (x ∷ xs)
      by true b e f rest = rw e rest
      by false true e f rest = rw (e, f) rest
      by false false e f rest = rw (e, f) (ap (λ ys. x ∷ ys) rest)

module _ {T : Type 0} (p : T → Bool) where
  -- none of what is left passes
  pub none_left : (xs : List T) → filter p (filter (λ x. not (p x)) xs) ≡ []
  none_left [] = refl
  none_left (x ∷ xs) = by (p x) refl (none_left xs)
    where
      by : (b : Bool) → p x ≡ b → filter p (filter (λ x. not (p x)) xs) ≡ [] → filter p (filter (λ x. not (p x)) (x ∷ xs)) ≡ []
      by true e rest = rw e rest
      by false e rest = rw e (rw e rest)

  pub never_more : (xs : List T) → length (filter (λ x. not (p x)) xs) ≤ length xs
  never_more [] = omega arith
  never_more (x ∷ xs) = by (p x) refl (never_more xs)
    where
      by : (b : Bool) → p x ≡ b → length (filter (λ x. not (p x)) xs) ≤ length xs → length (filter (λ x. not (p x)) (x ∷ xs)) ≤ length (x ∷ xs)
      by true e rest = rw e (omega (arith, rest))
      by false e rest = rw e (omega (arith, rest))

  pub one_less : (xs : List T) → is_some (find p xs) ≡ true → length (filter (λ x. not (p x)) xs) + 1 ≤ length xs
  one_less [] some = cc
  one_less (x ∷ xs) some = by (p x) refl (one_less xs)
    where
      behind : p x ≡ false → is_some (find p xs) ≡ true
      behind e = sym (ap (λ b. is_some (cond b (Some x) (find p xs))) e) ∙ some

      by : (b : Bool) → p x ≡ b → (is_some (find p xs) ≡ true → length (filter (λ x. not (p x)) xs) + 1 ≤ length xs) → length (filter (λ x. not (p x)) (x ∷ xs)) + 1 ≤ length (x ∷ xs)
      by true e rest = rw e (omega (arith, never_more xs))
      by false e rest = let less = rest (behind e) in rw e (omega (arith, less))

module _ {T K : Type 0} (key : T → K) {eq : K → K → Bool} (laws : IsEquivalence eq) where
  abbrev Apart : T → List T → Type 0
  Apart z zs = AllByRecursion (λ k. eq (key z) k ≡ false) (map key zs)

  none_equal : (z : T) (zs : List T) → Apart z zs → find (λ u. eq (key z) (key u)) zs ≡ None
  none_equal z [] apart = refl
  none_equal z (u ∷ zs) apart = rw apart.0 (none_equal z zs apart.1)

  module _ (p keeps : T → Bool) (y : T) (goes : keeps y ≡ false) where
    apart_found : (z : T) (zs : List T) → Apart z zs → find p zs ≡ Some y → eq (key z) (key y) ≡ false
    apart_found z [] apart found = absurd (true≢false (sym (ap is_some found)))
    apart_found z (u ∷ zs) apart found = by (p u) found (apart_found z zs apart.1)
      where
        by : (b : Bool) → cond b (Some u) (find p zs) ≡ Some y → (find p zs ≡ Some y → eq (key z) (key y) ≡ false) → eq (key z) (key y) ≡ false
        by true found rest = let same : u ≡ y = cc in ap (λ v. eq (key z) (key v)) (sym same) ∙ apart.0
        by false found rest = rest found

    abbrev q : T → Bool
    q z = eq (key y) (key z)

    -- y is found and does not stay
    pub displaced_absent : (items : List T) → NoTwoAkin key eq items → find p items ≡ Some y → find q (filter keeps items) ≡ None
    unfolding IsDistinct
    displaced_absent [] differ found = absurd (true≢false (sym (ap is_some found)))
    displaced_absent (z ∷ zs) differ found = by (p z) (keeps z) refl found (displaced_absent zs differ.1)
      where
        by : (b c : Bool) → keeps z ≡ c → cond b (Some z) (find p zs) ≡ Some y → (find p zs ≡ Some y → find q (filter keeps zs) ≡ None) → find q (cond c (z ∷ filter keeps zs) (filter keeps zs)) ≡ None
        by true true e found rest = let same : z ≡ y = cc in absurd (true≢false (sym e ∙ ap keeps same ∙ goes))
        by true false e found rest =
            let same : z ≡ y = cc in
            still_absent_removed q keeps zs (filter keeps zs) refl (ap (λ v. find (λ u. eq (key v) (key u)) zs) (sym same) ∙ none_equal z zs differ.0)
        by false true e found rest = rw (laws.symm (key y) (key z) ∙ apart_found z zs differ.0 found) (rest found)
        by false false e found rest = rest found

other_goes : (a b : Bool) → b ≡ true → not (cond a true b) ≡ false
other_goes true b e = refl
other_goes false b e = ap not e

module _ {T K L : Type 0} (key1 : T → K) (key2 : T → L) {eq1 : K → K → Bool} {eq2 : L → L → Bool} (laws1 : IsEquivalence eq1) (laws2 : IsEquivalence eq2) (x : T) (old new : List T) (put : AddsItem x (items_unmet key1 key2 eq1 eq2 x old) new) where
  abbrev has1 : T → Bool
  has1 y = eq1 (key1 x) (key1 y)

  abbrev has2 : T → Bool
  has2 y = eq2 (key2 x) (key2 y)

  abbrev meets : T → Bool
  meets = has_one_of_keys key1 key2 eq1 eq2 x

  abbrev unmet : List T
  unmet = items_unmet key1 key2 eq1 eq2 x old

  pub there_by_key1 : find_item key1 (eq1 (key1 x)) new ≡ Some x
  there_by_key1 = find_inserted has1 unmet new x put (neither_found has1 has2 unmet (none_left meets old)).0 (laws1.refl (key1 x))

  pub there_by_key2 : find_item key2 (eq2 (key2 x)) new ≡ Some x
  there_by_key2 = find_inserted has2 unmet new x put (neither_found has1 has2 unmet (none_left meets old)).1 (laws2.refl (key2 x))

  pub gone_by_key1 : NoTwoAkin key1 eq1 old → LosesKey key1 eq1 x (find_item key2 (eq2 (key2 x)) old) new
  gone_by_key1 differ y found apart =
      find_beside_inserted (λ z. eq1 (key1 y) (key1 z)) unmet new x put apart
      ∙ displaced_absent key1 laws1 has2 (λ z. not (meets z)) y (other_goes (has1 y) (has2 y) (found_passes has2 old y found)) old differ found

  pub gone_by_key2 : NoTwoAkin key2 eq2 old → LosesKey key2 eq2 x (find_item key1 (eq1 (key1 x)) old) new
  gone_by_key2 differ y found apart =
      find_beside_inserted (λ z. eq2 (key2 y) (key2 z)) unmet new x put apart
      ∙ displaced_absent key2 laws2 has1 (λ z. not (meets z)) y (ap (λ b. not (cond b true (has2 y))) (found_passes has1 old y found)) old differ found

module _ {T : Type 0} where
  pub at_some : {P : Type 0} (r : Option (Few T)) (one other : Option T) → values_if_any r ≡ as_list one ++ as_list other → (is_some one ≡ true → P) → (is_some other ≡ true → P) → OnSome r P
  at_some None one other e f h = tt
  at_some (Some few) (Some x) other e f h = f refl
  at_some (Some few) None (Some y) e f h = h refl
  at_some (Some (One a)) None None e f h = absurd (cc)
  at_some (Some (Two a b)) None None e f h = absurd (cc)
  at_some (Some (Three a b c)) None None e f h = absurd (cc)

  pub at_none : {P : Type 0} (r : Option (Few T)) (one other : Option T) → values_if_any r ≡ as_list one ++ as_list other → (one ≡ None → other ≡ None → P) → IfNone r P
  at_none (Some few) one other e f = tt
  at_none None None None e f = f refl refl
  at_none None None (Some y) e f = absurd (cc)
  at_none None (Some x) other e f = absurd (cc)

  pub as_many : (v v' : ℕ) (o : Option T) → OnSome o (v' ≡ v + 1) → IfNone o (v' ≡ v) → v' ≡ v + length (as_list o)
  as_many v v' None some none = omega (arith, none)
  as_many v v' (Some x) some none = omega (arith, some)

  pub as_vacant : (v w : ℕ) (r : Option (Few T)) (one other : Option T) → values_if_any r ≡ as_list one ++ as_list other → w ≡ v + length (as_list one) + length (as_list other) → IfSome r (λ few. w ≡ v + length (values_of few))
  as_vacant v w None one other e h = tt
  as_vacant v w (Some few) one other e h = omega (arith, h, ap length e, length-append (as_list one) (as_list other))

  pub weaker_none : {P Q : Type 0} (o : Option T) → (P → Q) → IfNone o P → IfNone o Q
  weaker_none None f h = f h
  weaker_none (Some x) f h = tt

  pub if_none : {P : Type 0} (o : Option T) → o ≡ None → IfNone o P → P
  if_none None e h = h
  if_none (Some x) e h = absurd (cc)
