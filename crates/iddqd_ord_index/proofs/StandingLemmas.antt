-- How a query stands to slots whose items ascend.
use Rattle.std.proofs.Common.{◌≡◌, ℕ, ◌<◌, List, length, map, get_or, Option, Some, None, IsSome, IsTrue, Result, Ok, Err, refl, sym, ap, ◌∙◌, arith, true≢false, Ordering, Less, Equal, Greater}
use Rattle.std.proofs.lemmas.List.{get_or-map, length-map}
use Rattle.std.specs.Cmp.{IsTotalOrder}
use Rattle.std.specs.List.{HoldsAt}
use Rattle.std.specs.Ordering.{is_le, is_ge}
use Rattle.iddqd_ord_index.specs.Listed.{listed_items, AreOccupied}
use Rattle.iddqd_ord_index.specs.Search.{IsPlaceAmong}
use Rattle.iddqd_ord_index.specs.Standing.{slot_standing, standing, IsMonotone, IsPlace}
use Rattle.iddqd_ord_index.proofs.ListedLemmas.{length-listed, key-listed, read-listed}
use Rattle.iddqd_store.proofs.SearchLemmas.{greater_before, less_behind}
use Rattle.iddqd_store.specs.Contents.{Ascends}
use Rattle.iddqd_store.specs.Store.{Store, item_at}

some_item : {T : Type 0} (o : Option T) → IsSome o → (x : T) × (o ≡ Some x)
some_item (Some x) s = (x, refl)
some_item None s = absurd (true≢false (sym s))

module _ {T K : Type 0} (key : T → K) (compare : K → Ordering) (store : Store T) (slots : List ℕ) (occupied : AreOccupied store slots) where
  -- from a slot to the key at its place, and back
  pub to_key : (o : Ordering) (k : ℕ) → k < length slots → slot_standing key compare store (get_or slots k 0) ≡ o → HoldsAt (λ y. compare y ≡ o) (map key (listed_items store slots)) k
  to_key o k lt e =
      let x = some_item (item_at store (get_or slots k 0)) (occupied k 0 lt) in
      key-listed key (λ y. compare y ≡ o) store slots k x.0 occupied lt x.1 (sym (ap (standing key compare) x.1) ∙ e)

  pub from_key : (o : Ordering) (k : ℕ) → k < length slots → HoldsAt (λ y. compare y ≡ o) (map key (listed_items store slots)) k → slot_standing key compare store (get_or slots k 0) ≡ o
  from_key o k lt h =
      let x = some_item (item_at store (get_or slots k 0)) (occupied k 0 lt) in
      let r = read-listed store slots occupied k x.0 lt x.1 in
      let m = get_or-map key (listed_items store slots) k x.0 (key x.0) (omega (arith, length-listed store slots occupied)) in
      ap (standing key compare) x.1 ∙ (ap (λ y. compare (key y)) r ∙ (sym (ap compare m) ∙ h (key x.0)))

  -- the place among the slots is the place among the keys
  pub placed : (r : Result ℕ ℕ) → IsPlace (slot_standing key compare store) slots r → IsPlaceAmong compare (map key (listed_items store slots)) r
  placed (Ok i) p =
      let n = length-listed store slots occupied in
      let m = length-map (listed_items store slots) key in
      (omega (arith, p.0), to_key Equal i p.0 p.1)
  placed (Err i) p =
      let n = length-listed store slots occupied in
      let m = length-map (listed_items store slots) key in
      (omega (arith, p.0), λ k d a b. to_key Greater k (omega (arith, p.0)) (p.1 k b) d, λ k d a b. to_key Less k (omega arith) (p.2 k a (omega arith)) d)

  pub monotone : {cmp : K → K → Ordering} → IsTotalOrder cmp → ((x y : K) → IsTrue (is_le (compare x)) → cmp x y ≡ Less → compare y ≡ Less) → ((x y : K) → IsTrue (is_ge (compare x)) → cmp x y ≡ Greater → compare y ≡ Greater)
      → Ascends key cmp (listed_items store slots) → IsMonotone (slot_standing key compare store) slots
  monotone total above below sorted =
      let n = length-listed store slots occupied in
      let m = length-map (listed_items store slots) key in
      record {
        above = λ j k lt in' e. from_key Greater j (omega arith) (λ d. greater_before total compare (map key (listed_items store slots)) sorted below k (omega arith) (to_key Greater k in' e) j d (omega arith) (omega arith));
        below = λ j k lt in' e. from_key Less k in' (λ d. less_behind total compare (map key (listed_items store slots)) sorted above j (to_key Less j (omega arith) e) k d (omega arith) (omega arith));
      }
