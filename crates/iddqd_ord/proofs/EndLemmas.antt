-- The end of a list.
--     last_listed      the last item is that of the last listed slot
--     remove_end      a list without its last element
use Rattle.std.proofs.Common.{◌≡◌, ℕ, zero, suc, ◌+◌, ◌-◌, ◌≤◌, List, [], ◌∷◌, length, take, refl, ap, ◌∙◌, arith}
use Rattle.std.specs.List.{remove, slice_get}
use Rattle.std.specs.Option.{option_and_then}
use Rattle.iddqd_ord_index.specs.Listed.{listed_items, AreOccupied}
use Rattle.iddqd_store.specs.Store.{Store, item_at}
use Rattle.iddqd_ord_index.proofs.ListedLemmas.{length-listed, get-listed}

pub last_listed : {T : Type 0} (store : Store T) (slots : List ℕ) → AreOccupied store slots → slice_get (listed_items store slots) (length (listed_items store slots) - 1) ≡ option_and_then (item_at store) (slice_get slots (length slots - 1))
last_listed store slots occupied =
    ap (λ n. slice_get (listed_items store slots) (n - 1)) (length-listed store slots occupied) ∙ get-listed store slots occupied (length slots - 1)

pub remove_end : {X : Type 0} (xs : List X) (n : ℕ) → length xs ≤ n + 1 → remove xs n ≡ take n xs
remove_end [] zero le = refl
remove_end [] (suc n) le = refl
remove_end (x ∷ []) zero le = refl
remove_end (x ∷ y ∷ ys) zero le = absurd (omega (arith, le))
remove_end (x ∷ xs) (suc n) le = ap (λ l. x ∷ l) (remove_end xs n (omega (arith, le)))
