-- How many pairs have a hash, and for how many items it is stored.
--     listed_within_stored      no more pairs have a hash than there are items that it is stored for
--     bound_of      the same, of what a map shows
use Rattle.std.proofs.Common.{◌≡◌, ℕ, suc, ◌+◌, ◌-◌, ◌≤◌, ◌<◌, List, [], ◌∷◌, cond, eqb, Bool, true, false, Option, Some, None, is_some, get_or, count_by, refl, sym, ap, ◌∙◌, arith, ◌⊎◌, inl, inr, ⊎_elim}
use Rattle.std.proofs.Math.Dec.{leb, leb-zero}
use Rattle.std.proofs.lemmas.Bool.{eqb-true, eq-eqb}
use Rattle.std.proofs.lemmas.Bool.Decides.{leb_tells}
use Rattle.std.proofs.lemmas.List.Sums.{sum_by-cons}
use Rattle.std.specs.List.{sum_by}
use Rattle.iddqd_hash_index.specs.HashPairs.{HashPairs, of_hash, of_slot}
use Rattle.iddqd_store.specs.Store.{Store}
use Rattle.iddqd_hash_parts.specs.StoreAndIndex.{PairsOccupied, hash_of_slot, hashes_in, numbers_of, map_of}
use Rattle.iddqd_hash_parts.specs.HashItems.{HashItems, of_stored_hash}
use Rattle.iddqd_hash_parts.proofs.PairLemmas.{either, first_count, first_hash, no_hash}

abbrev is_one : Bool → ℕ
is_one b = cond b 1 0

module _ (hash : ℕ) where
  abbrev ones : ℕ × ℕ → ℕ
  ones p = cond (eqb p.0 hash) 1 0

  -- the pairs of the hash at a slot, and from a slot on
  abbrev here : ℕ → ℕ × ℕ → ℕ
  here slot p = cond (eqb p.1 slot) (ones p) 0

  abbrev onward : ℕ → ℕ × ℕ → ℕ
  onward slot p = cond (leb slot p.1) (ones p) 0

  one_onward : (slot : ℕ) (p : ℕ × ℕ) → onward slot p ≡ here slot p + onward (suc slot) p
  one_onward slot p = by (leb_tells slot p.1) (leb_tells (suc slot) p.1) (either (eqb p.1 slot))
    where
      by : ((leb slot p.1 ≡ true) × (slot ≤ p.1)) ⊎ ((leb slot p.1 ≡ false) × (p.1 < slot)) → ((leb (suc slot) p.1 ≡ true) × (suc slot ≤ p.1)) ⊎ ((leb (suc slot) p.1 ≡ false) × (p.1 < suc slot)) → ((eqb p.1 slot ≡ true) ⊎ (eqb p.1 slot ≡ false)) → onward slot p ≡ here slot p + onward (suc slot) p
      by (inl a) (inl b) (inl e) = absurd (omega (arith, b.1, eqb-true p.1 slot e))
      by (inl a) (inl b) (inr e) = rw (a.0, b.0, e) omega arith
      by (inl a) (inr b) (inl e) = rw (a.0, b.0, e) omega arith
      by (inl a) (inr b) (inr e) = let same = eq-eqb p.1 slot (omega (arith, a.1, b.1)) in cc
      by (inr a) (inl b) e = absurd (omega (arith, a.1, b.1))
      by (inr a) (inr b) (inl e) = absurd (omega (arith, a.1, eqb-true p.1 slot e))
      by (inr a) (inr b) (inr e) = rw (a.0, b.0, e) refl

  split : (slot : ℕ) (pairs : List (ℕ × ℕ)) → sum_by (onward slot) pairs ≡ sum_by (here slot) pairs + sum_by (onward (suc slot)) pairs
  split slot [] = refl
  split slot (p ∷ ps) = omega (arith, split slot ps, one_onward slot p, sum_by-cons (onward slot) p ps, sum_by-cons (here slot) p ps, sum_by-cons (onward (suc slot)) p ps)

  all_onward : (pairs : List (ℕ × ℕ)) → of_hash pairs hash ≡ sum_by (onward 0) pairs
  all_onward [] = refl
  all_onward (p ∷ ps) = omega (arith, all_onward ps, sum_by-cons ones p ps, sum_by-cons (onward 0) p ps, ap (λ b. cond b (ones p) 0) (leb-zero p.1))

  -- a slot that is not listed has no pair of the hash, and one that is listed once has one where its hash is this one
  none_here : (slot : ℕ) (pairs : List (ℕ × ℕ)) → of_slot pairs slot ≡ 0 → sum_by (here slot) pairs ≡ 0
  none_here slot [] none = refl
  none_here slot (p ∷ ps) none = ⊎_elim
      (λ e. absurd (omega (arith, first_count p ps slot true e, none)))
      (λ e. omega (arith, none_here slot ps (omega (arith, first_count p ps slot false e, none)), sum_by-cons (here slot) p ps, ap (λ b. cond b (ones p) 0) e))
      (either (eqb p.1 slot))

  one_here : (slot : ℕ) (pairs : List (ℕ × ℕ)) → of_slot pairs slot ≡ 1 → sum_by (here slot) pairs ≡ cond (eqb (hash_of_slot pairs slot) hash) 1 0
  one_here slot [] once = absurd (omega (arith, once))
  one_here slot (p ∷ ps) once = ⊎_elim
      (λ e. let none : of_slot ps slot ≡ 0 = omega (arith, first_count p ps slot true e, once) in
      let same : hash_of_slot (p ∷ ps) slot ≡ p.0 = omega (arith, first_hash p ps slot true e, no_hash ps slot none) in
      omega (arith, none_here slot ps none, sum_by-cons (here slot) p ps, ap (λ b. cond b (ones p) 0) e, ap (λ h. is_one (eqb h hash)) same))
      (λ e. let rest = one_here slot ps (omega (arith, first_count p ps slot false e, once)) in
      let same : hash_of_slot (p ∷ ps) slot ≡ hash_of_slot ps slot = omega (arith, first_hash p ps slot false e) in
      omega (arith, rest, sum_by-cons (here slot) p ps, ap (λ b. cond b (ones p) 0) e, ap (λ h. is_one (eqb h hash)) same))
      (either (eqb p.1 slot))

  -- no slot from this one on is listed
  none_onward : (slot : ℕ) (pairs : List (ℕ × ℕ)) → ((n : ℕ) → of_slot pairs (slot + n) ≡ 0) → sum_by (onward slot) pairs ≡ 0
  none_onward slot [] none = refl
  none_onward slot (p ∷ ps) none = ⊎_elim
      (λ a. absurd (omega (arith, first_count p ps (slot + (p.1 - slot)) true (eq-eqb p.1 (slot + (p.1 - slot)) (omega (arith, a.1))), none (p.1 - slot))))
      (λ a. omega (arith, none_onward slot ps (λ n. omega (arith, first_count p ps (slot + n) (eqb p.1 (slot + n)) refl, none n)), sum_by-cons (onward slot) p ps, ap (λ b. cond b (ones p) 0) a.0))
      (leb_tells slot p.1)

  -- no more pairs of the slots from one on than there are items in these slots that the hash is stored for; `place` numbers these slots
  within : {T : Type 0} (pairs : List (ℕ × ℕ)) (slot : ℕ) (place : ℕ → ℕ) (slots : List (Option T)) → ((n : ℕ) → place n ≡ slot + n) → ((n : ℕ) → of_slot pairs (place n) ≡ cond (is_some (get_or slots n None)) 1 0) → sum_by (onward slot) pairs ≤ count_by (λ h. eqb h hash) (numbers_of (λ n. hash_of_slot pairs (place n)) slots)
  within pairs slot place [] at once =
      omega (arith, none_onward slot pairs (λ n. ap (of_slot pairs) (sym (at n)) ∙ once n))
  within pairs slot place (None ∷ slots) at once =
      let first : place 0 ≡ slot = omega (arith, at 0) in
      let none = none_here slot pairs (ap (of_slot pairs) (sym first) ∙ once 0) in
      omega (arith, split slot pairs, none, within pairs (suc slot) (λ n. place (suc n)) slots (λ n. omega (arith, at (suc n))) (λ n. once (suc n)))
  within pairs slot place (Some x ∷ slots) at once =
      let first : place 0 ≡ slot = omega (arith, at 0) in
      let one = one_here slot pairs (ap (of_slot pairs) (sym first) ∙ once 0) in
      let same = ap (λ s. is_one (eqb (hash_of_slot pairs s) hash)) first in
      let more = sum_by-cons (λ h. is_one (eqb h hash)) (hash_of_slot pairs (place 0)) (numbers_of (λ n. hash_of_slot pairs (place (suc n))) slots) in
      omega (arith, split slot pairs, one, same, more, within pairs (suc slot) (λ n. place (suc n)) slots (λ n. omega (arith, at (suc n))) (λ n. once (suc n)))

  -- no more pairs have the hash than there are items that it is stored for
  pub listed_within_stored : {T : Type 0} (store : Store T) (pairs : List (ℕ × ℕ)) → PairsOccupied store pairs → of_hash pairs hash ≤ count_by (λ h. eqb h hash) (hashes_in store pairs)
  listed_within_stored store pairs paired = omega (arith, all_onward pairs, within pairs 0 (λ n. n) store.slots (λ n. omega arith) paired.each_once)

  -- .. in a map of these
  pub bound_of : {S T : Type 0} (hasher : S) (store : Store T) (index : HashPairs) → PairsOccupied store index.pairs → (m : HashItems S T) → map_of store index hasher ≡ m → of_hash index.pairs hash ≤ of_stored_hash m hash
  bound_of hasher store index paired m is = omega (arith, listed_within_stored store index.pairs paired, ap (λ v. of_stored_hash v hash) is)
