-- Pairs of a hash and a slot, told by weights.
--     length-weight      a list's length is the sum of ones
--     first_count, first_hash      what the first pair adds to the count and to the hash of a slot
--     listed_some      a slot that is listed is counted
--     listed_hash, hash_listed      a slot that is listed once is listed with its hash
use Rattle.std.proofs.Common.{◌≡◌, ℕ, zero, suc, ◌+◌, ◌<◌, List, [], ◌∷◌, length, get_or, cond, eqb, Bool, true, false, refl, ap, ◌∙◌, arith, ◌⊎◌, inl, inr, ⊎_elim, suc-le-suc}
use Rattle.std.proofs.Math.Nat.{le_of_suc-le-suc}
use Rattle.std.proofs.lemmas.Bool.{eqb-true, eq-eqb}
use Rattle.std.proofs.lemmas.List.Sums.{sum_by-cons}
use Rattle.std.specs.List.{Contains, sum_by}
use Rattle.iddqd_hash_index.specs.HashPairs.{of_slot}
use Rattle.iddqd_hash_parts.specs.StoreAndIndex.{hash_of_slot}

pub length-weight : {X : Type 0} (xs : List X) → sum_by (λ _. 1) xs ≡ length xs
length-weight [] = refl
length-weight (x ∷ xs) = omega (arith, sum_by-cons (λ _. 1) x xs, length-weight xs)

abbrev pub counts : ℕ → ℕ × ℕ → ℕ
counts slot = λ p. cond (eqb p.1 slot) 1 0

abbrev pub tells : ℕ → ℕ × ℕ → ℕ
tells slot = λ p. cond (eqb p.1 slot) p.0 0

module _ (p : ℕ × ℕ) (ps : List (ℕ × ℕ)) (slot : ℕ) where
  -- the first pair is of the slot, or it is not
  pub first_count : (b : Bool) → eqb p.1 slot ≡ b → of_slot (p ∷ ps) slot ≡ cond b 1 0 + of_slot ps slot
  first_count b e = sum_by-cons (counts slot) p ps ∙ ap (λ c. cond c 1 0 + of_slot ps slot) e

  pub first_hash : (b : Bool) → eqb p.1 slot ≡ b → hash_of_slot (p ∷ ps) slot ≡ cond b p.0 0 + hash_of_slot ps slot
  first_hash b e = sum_by-cons (tells slot) p ps ∙ ap (λ c. cond c p.0 0 + hash_of_slot ps slot) e

pub either : (b : Bool) → (b ≡ true) ⊎ (b ≡ false)
either true = inl refl
either false = inr refl

-- a slot that is not listed has no hash
pub no_hash : (pairs : List (ℕ × ℕ)) (slot : ℕ) → of_slot pairs slot ≡ 0 → hash_of_slot pairs slot ≡ 0
no_hash [] slot none = refl
no_hash (p ∷ ps) slot none = ⊎_elim
    (λ e. absurd (omega (arith, first_count p ps slot true e, none)))
    (λ e. omega (arith, first_hash p ps slot false e, no_hash ps slot (omega (arith, first_count p ps slot false e, none))))
    (either (eqb p.1 slot))

-- a slot that is listed is counted
counted_at : (pairs : List (ℕ × ℕ)) (hash slot k : ℕ) → k < length pairs → get_or pairs k (hash, slot) ≡ (hash, slot) → 0 < of_slot pairs slot
counted_at [] hash slot k within at = absurd (omega (arith, within))
counted_at (p ∷ ps) hash slot zero within at = omega (arith, first_count p ps slot true (eq-eqb p.1 slot (ap (λ q. q.1) at)))
counted_at (p ∷ ps) hash slot (suc k) within at = omega (arith, counted_at ps hash slot k (le_of_suc-le-suc within) at, first_count p ps slot (eqb p.1 slot) refl)

pub listed_some : (pairs : List (ℕ × ℕ)) (hash slot : ℕ) → Contains pairs (hash, slot) → 0 < of_slot pairs slot
listed_some pairs hash slot c = counted_at pairs hash slot c.0 c.1 c.2

-- a slot that is listed once is listed with its hash
pub listed_hash : (pairs : List (ℕ × ℕ)) (slot : ℕ) → of_slot pairs slot ≡ 1 → Contains pairs (hash_of_slot pairs slot, slot)
listed_hash [] slot once = absurd (omega (arith, once))
listed_hash (p ∷ ps) slot once = ⊎_elim
    (λ e. let none = no_hash ps slot (omega (arith, first_count p ps slot true e, once)) in
    let hash : hash_of_slot (p ∷ ps) slot ≡ p.0 = omega (arith, first_hash p ps slot true e, none) in
    (zero, omega arith, rw (hash, ← eqb-true p.1 slot e) refl))
    (λ e. let rest = listed_hash ps slot (omega (arith, first_count p ps slot false e, once)) in
    let hash : hash_of_slot (p ∷ ps) slot ≡ hash_of_slot ps slot = omega (arith, first_hash p ps slot false e) in
    rw hash (suc rest.0, suc-le-suc rest.1, rest.2))
    (either (eqb p.1 slot))

hash_at : (pairs : List (ℕ × ℕ)) (hash slot k : ℕ) → of_slot pairs slot ≡ 1 → k < length pairs → get_or pairs k (hash, slot) ≡ (hash, slot) → hash_of_slot pairs slot ≡ hash
hash_at [] hash slot k once within at = absurd (omega (arith, within))
hash_at (p ∷ ps) hash slot zero once within at =
    let here = eq-eqb p.1 slot (ap (λ q. q.1) at) in
    let none = no_hash ps slot (omega (arith, first_count p ps slot true here, once)) in
    omega (arith, first_hash p ps slot true here, none, ap (λ q. q.0) at)
hash_at (p ∷ ps) hash slot (suc k) once within at =
    let more = counted_at ps hash slot k (le_of_suc-le-suc within) at in
    ⊎_elim
    (λ e. absurd (omega (arith, first_count p ps slot true e, once, more)))
    (λ e. omega (arith, first_hash p ps slot false e, hash_at ps hash slot k (omega (arith, first_count p ps slot false e, once)) (le_of_suc-le-suc within) at))
    (either (eqb p.1 slot))

pub hash_listed : (pairs : List (ℕ × ℕ)) (hash slot : ℕ) → of_slot pairs slot ≡ 1 → Contains pairs (hash, slot) → hash_of_slot pairs slot ≡ hash
hash_listed pairs hash slot once c = hash_at pairs hash slot c.0 once c.1 c.2
