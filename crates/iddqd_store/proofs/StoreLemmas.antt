-- A write to an occupied slot of a store, and the move of its last item.
--     updates-set      what it changes
--     vacant_lent, len_lent      a write to an occupied slot leaves as many slots vacant, and as many items
--     len_left      how many items there are without that of one slot
--     given      what is there has a value
--     last_moves      the item that moves into a vacant slot is that of the last slot
use Rattle.std.proofs.Common.{Bool, true, false, cond, List, get_or, is_none, count_by, arith, ◌≡◌, ℕ, ◌+◌, ◌-◌, ◌<◌, ⊎_elim, length, set, Option, Some, None, IsSome, is_some, refl, sym, ap, ◌∙◌, true≢false}
use Rattle.std.proofs.lemmas.Bool.{cases_lt}
use Rattle.std.proofs.lemmas.List.{get_or-set_same, get_or-set_other, get_or_past}
use Rattle.std.proofs.lemmas.List.Sums.{sum_by-set}
use Rattle.iddqd_store.specs.Store.{Store, EndsOccupied, IsOccupied, MovesLast, Updates, store_len, vacant, with_item}

module _ {T : Type 0} where
  -- an occupied slot is one of the slots
  occupied_within : (store : Store T) (slot : ℕ) → IsOccupied store slot → slot < length store.slots
  occupied_within store slot some = ⊎_elim
      (λ l. l)
      (λ l. absurd (true≢false (sym some ∙ ap is_some (get_or_past store.slots slot None l))))
      (cases_lt slot (length store.slots))

  pub updates-set : (store : Store T) (slot : ℕ) (o : Option T) → IsOccupied store slot → Updates store (record store { slots = set store.slots slot o }) slot o
  updates-set store slot o some = record {
    changed = get_or-set_same store.slots slot o None (occupied_within store slot some);
    others = λ other n. get_or-set_other store.slots slot other o None n;
  }

  count_kept : (p : Option T → Bool) (xs : List (Option T)) (i : ℕ) (o : Option T) → i < length xs → p (get_or xs i None) ≡ p o → count_by p (set xs i o) ≡ count_by p xs
  count_kept p xs i o within same =
      omega (arith, sum_by-set (λ o. cond (p o) 1 0) xs i o None within, ap {B = ℕ} (λ b. cond b 1 0) same)

  -- without the item of one slot there is one item less
  pub len_left : (store : Store T) (slot : ℕ) → IsOccupied store slot → store_len (record store { slots = set store.slots slot None }) + 1 ≡ store_len store
  len_left store slot some =
      omega (arith, sum_by-set (λ o. cond (is_some o) 1 0) store.slots slot None None (occupied_within store slot some), ap {B = ℕ} (λ b. cond b 1 0) some)

  some_not_none : (o : Option T) → is_some o ≡ true → is_none o ≡ false
  some_not_none None e = absurd (true≢false (sym e))
  some_not_none (Some x) e = refl

  pub given : (o : Option T) → IsSome o → (x : T) × (o ≡ Some x)
  given None some = absurd (true≢false (sym some))
  given (Some x) some = (x, refl)

  module _ (store : Store T) (slot : ℕ) (w : T) (some : IsOccupied store slot) where
    pub vacant_lent : vacant (with_item store slot w) ≡ vacant store
    vacant_lent = count_kept is_none store.slots slot (Some w) (occupied_within store slot some) (some_not_none _ some)

    pub len_lent : store_len (with_item store slot w) ≡ store_len store
    len_lent = count_kept is_some store.slots slot (Some w) (occupied_within store slot some) some

-- the item that moves is that of the last slot, where that is occupied
pub last_moves : {T : Type 0} (old new : List (Option T)) (last hole : ℕ) → EndsOccupied old → MovesLast old new last hole → last ≡ length old - 1
last_moves old new last hole ends moves =
    let within : last < length old = ⊎_elim (λ l. l) (λ l. absurd (true≢false (sym moves.was_occupied ∙ ap is_some (get_or_past old last None l)))) (cases_lt last (length old)) in
    ⊎_elim
    (λ l. absurd (true≢false (sym (ends (omega (arith, within))) ∙ ap is_some (moves.greatest (length old - 1) l))))
    (λ l. omega (arith, within, l))
    (cases_lt last (length old - 1))
