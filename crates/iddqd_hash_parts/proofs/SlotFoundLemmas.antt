-- What a search finds: the one slot whose item passes.
--     only_slot      where the keys differ, two slots whose items pass are one
--     told      an item that is there and passes
--     search_slot      what a search of the index says of the slots
use Rattle.std.proofs.Common.{◌≡◌, ℕ, zero, suc, Bool, true, false, List, [], ◌∷◌, map, Option, Some, None, IfSome, IfNone, IsSomeAnd, is_some, refl, sym, ap, ◌∙◌, subst, true≢false}
use Rattle.std.specs.List.{AllByRecursion, Contains, IsDistinct}
use Rattle.iddqd_store.specs.Contents.{IsKeyTest, NoTwoAkin}
use Rattle.iddqd_store.specs.Store.{Store, item_at}
use Rattle.iddqd_hash_index.specs.HashPairs.{IsMatch}
use Rattle.iddqd_hash_parts.specs.StoreAndIndex.{IsOnlySlot, PairsOccupied, hash_of_slot, items_in}
use Rattle.iddqd_hash_parts.proofs.PairLemmas.{listed_hash}
use Rattle.iddqd_hash_parts.proofs.StoreAndIndexLemmas.{occupied_listed}
use Rattle.iddqd_hash_parts.proofs.SlotItemLemmas.{at, items_of}

pub told : {T : Type 0} (p : T → Bool) (o : Option T) → IsSomeAnd o (λ x. p x ≡ true) → (x : T) × (o ≡ Some x) × (p x ≡ true)
told p None passes = absurd passes
told p (Some x) passes = (x, refl, passes)

module _ {T K : Type 0} (key : T → K) (eq : K → K → Bool) where
  -- no slot has an item whose key is equal to one that differs from all
  apart_slot : (xs : List (Option T)) (k : K) → AllByRecursion (λ l. eq k l ≡ false) (map key (items_of xs)) → (slot : ℕ) (y : T) → at xs slot ≡ Some y → eq k (key y) ≡ false
  apart_slot [] k apart slot y there = cc
  apart_slot (None ∷ xs) k apart zero y there = cc
  apart_slot (None ∷ xs) k apart (suc slot) y there = apart_slot xs k apart slot y there
  apart_slot (Some z ∷ xs) k apart zero y there = let same : z ≡ y = cc in ap (λ v. eq k (key v)) (sym same) ∙ apart.0
  apart_slot (Some z ∷ xs) k apart (suc slot) y there = apart_slot xs k apart.1 slot y there

module _ {T K : Type 0} (key : T → K) {eq : K → K → Bool} where
  module _ (test : K → Bool) (tests : IsKeyTest eq test) where
    pub only_slot : (xs : List (Option T)) → NoTwoAkin key eq (items_of xs) → (s t : ℕ) (x y : T) → at xs s ≡ Some x → at xs t ≡ Some y → test (key x) ≡ true → test (key y) ≡ true → s ≡ t
    unfolding IsDistinct
    only_slot [] differ s t x y here there px py = cc
    only_slot (None ∷ xs) differ zero t x y here there px py = cc
    only_slot (None ∷ xs) differ (suc s) zero x y here there px py = cc
    only_slot (None ∷ xs) differ (suc s) (suc t) x y here there px py = ap suc (only_slot xs differ s t x y here there px py)
    only_slot (Some z ∷ xs) differ zero zero x y here there px py = refl
    only_slot (Some z ∷ xs) differ zero (suc t) x y here there px py =
        let same : z ≡ x = cc in
        let akin : eq (key x) (key y) ≡ true = sym (tests (key x) (key y) px) ∙ py in
        absurd (true≢false (sym akin ∙ ap (λ v. eq (key v) (key y)) (sym same) ∙ apart_slot key eq xs (key z) differ.0 t y there))
    only_slot (Some z ∷ xs) differ (suc s) zero x y here there px py =
        let same : z ≡ y = cc in
        let akin : eq (key y) (key x) ≡ true = sym (tests (key y) (key x) py) ∙ px in
        absurd (true≢false (sym akin ∙ ap (λ v. eq (key v) (key x)) (sym same) ∙ apart_slot key eq xs (key z) differ.0 s x here))
    only_slot (Some z ∷ xs) differ (suc s) (suc t) x y here there px py = ap suc (only_slot xs differ.1 s t x y here there px py)

    module _ (store : Store T) (pairs : List (ℕ × ℕ)) (hash : ℕ) (paired : PairsOccupied store pairs) (differ : NoTwoAkin key eq (items_in store)) (under : (slot : ℕ) (x : T) → item_at store slot ≡ Some x → test (key x) ≡ true → hash_of_slot pairs slot ≡ hash) where
      abbrev passes_at : ℕ → Type 0
      passes_at slot = IsSomeAnd (item_at store slot) (λ x. test (key x) ≡ true)

      matched : (slot : ℕ) → passes_at slot → IsMatch store pairs hash (λ x. test (key x)) slot
      matched slot passes =
          let t = told (λ x. test (key x)) (item_at store slot) passes in
          let listed = listed_hash pairs slot (occupied_listed store pairs paired slot (ap is_some t.1)) in
          (subst (λ h. Contains pairs (h, slot)) (under slot t.0 t.1 t.2) listed, passes)

      pub search_slot : (found : Option ℕ) → IfSome found (IsMatch store pairs hash (λ x. test (key x))) → IfNone found ((slot : ℕ) → ¬ IsMatch store pairs hash (λ x. test (key x)) slot) → IsOnlySlot key test store found
      search_slot None found absent slot = (λ e. cc, λ passes. absurd (absent slot (matched slot passes)))
      search_slot (Some s) found absent slot = (
        λ e. (let same : s ≡ slot = cc in subst passes_at same found.1),
        λ passes.
            let a = told (λ x. test (key x)) (item_at store s) found.1 in
            let b = told (λ x. test (key x)) (item_at store slot) passes in
            ap Some (only_slot store.slots differ s slot a.0 b.0 a.1 b.1 a.2 b.2),
      )
