-- A walk over the listed slots, one step on.
--     rest_occupied      the slots that are left are occupied still
--     front_occupied, lends_last      the same from the back, and the item of the last slot
--     front_distinct, front_there, front_listed      what is left where the item of the last slot has been taken out
--     rest_distinct, rest_there, rest_listed      what is left where the item of the first slot has been taken out
use Rattle.std.proofs.Common.{◌≡◌, ◌≢◌, subst, ℕ, zero, suc, List, [], ◌∷◌, ◌++◌, Option, Some, None, IsSome, MatchOption, refl, sym, ap, ◌∙◌, nat_eq, suc-le-suc, is_some, option_copied, true≢false, length, length-append, arith}
use Rattle.std.specs.Borrow.{Bor}
use Rattle.std.proofs.lemmas.List.Elements.{All-pop}
use Rattle.std.specs.Iterator.{MakesProgress, at_most}
use Rattle.std.specs.List.{All, IsDistinct, cons_option, remove, slice_get}
use Rattle.iddqd_store.proofs.DistinctLemmas.{distinct_remove}
use Rattle.iddqd_ord_index.specs.Listed.{listed_items, AreOccupied}
use Rattle.iddqd_store.specs.Store.{Store, item_at, Updates}
use Rattle.iddqd_ord_index.proofs.ListedLemmas.{listed-same, listed-last}
use Rattle.iddqd_ord.proofs.StoreAndIndexLemmas.{all-removed}

remove_last : {X : Type 0} (xs : List X) (y : X) → remove (xs ++ y ∷ []) (length xs) ≡ xs
remove_last [] y = refl
remove_last (x ∷ xs) y = ap (λ l. x ∷ l) (remove_last xs y)

get_last : {X : Type 0} (xs : List X) (y : X) → slice_get (xs ++ y ∷ []) (length xs) ≡ Some y
get_last [] y = refl
get_last (x ∷ xs) y = get_last xs y

module _ {T : Type 0} where
  -- the slots that are left are occupied still
  pub rest_occupied : (store : Store T) (slot : ℕ) (rest : List ℕ) → AreOccupied store (slot ∷ rest) → AreOccupied store rest
  rest_occupied store slot rest occupied k d within = occupied (suc k) d (suc-le-suc within)

  -- the slots before the last one are occupied still, and so is that one
  pub front_occupied : (store : Store T) (slot : ℕ) (rest : List ℕ) → AreOccupied store (rest ++ slot ∷ []) → AreOccupied store rest × IsSome (item_at store slot)
  front_occupied store slot rest occupied = All-pop (λ s. IsSome (item_at store s)) (rest ++ slot ∷ []) rest (Some slot) refl occupied

  -- the item of the last slot is lent
  pub lends_last : (store : Store T) (slot : ℕ) (rest : List ℕ) (items : List T) → items ≡ listed_items store (rest ++ slot ∷ []) → (r : Option (Bor T)) → option_copied r ≡ item_at store slot → IsSome (item_at store slot) → MatchOption r ((items ≡ []) × (listed_items store rest ≡ [])) (λ x. items ≡ listed_items store rest ++ x.now ∷ [])
  lends_last store slot rest items is None e some = absurd (true≢false (sym some ∙ ap is_some (sym e)))
  lends_last store slot rest items is (Some x) e some = is ∙ listed-last store rest slot x.now (sym e)

  -- so fewer are left
  pub last_goes : (xs ys : List T) (r : Option (Bor T)) → MatchOption r ((xs ≡ []) × (ys ≡ [])) (λ x. xs ≡ ys ++ x.now ∷ []) → MakesProgress (λ _. Unit {0}) (λ l. at_most (length l)) xs r ys
  last_goes xs ys None h = record { on = λ _. tt; keeps = tt; rests = λ _. tt }
  last_goes xs ys (Some x) h = record { on = λ _. (tt, tt, omega (arith, ap length h, length-append ys (x.now ∷ []))); keeps = tt; rests = λ _. tt }

  -- of different slots that are occupied the last has given its item
  module _ (old new : Store T) (slot : ℕ) (rest : List ℕ) (occupied : AreOccupied old (rest ++ slot ∷ [])) (once : IsDistinct nat_eq (rest ++ slot ∷ [])) (updates : Updates old new slot None) where
    kept : (P : ℕ → Type 0) → All (λ s. s ≢ slot → P s) (rest ++ slot ∷ []) → All P rest
    kept P all = subst (All P) (remove_last rest slot) (all-removed (rest ++ slot ∷ []) (length rest) slot (get_last rest slot) once P all)

    pub front_distinct : IsDistinct nat_eq rest
    front_distinct = subst (IsDistinct nat_eq) (remove_last rest slot) (distinct_remove nat_eq (rest ++ slot ∷ []) (length rest) once)

    pub front_there : AreOccupied new rest
    front_there = kept (λ s. is_some (item_at new s) ≡ is_some (Some slot)) (λ k d h n. ap is_some (updates.others _ n) ∙ occupied k d h)

    pub front_listed : (x : T) → item_at old slot ≡ Some x → listed_items old (rest ++ slot ∷ []) ≡ listed_items new rest ++ x ∷ []
    front_listed x here =
        listed-last old rest slot x here
        ∙ ap (λ xs. xs ++ x ∷ []) (sym (listed-same old new rest (kept (λ s. item_at new s ≡ item_at old s) (λ k d h n. updates.others _ n))))

  -- of different slots that are occupied the first has given its item
  module _ (old new : Store T) (slot : ℕ) (rest : List ℕ) (occupied : AreOccupied old (slot ∷ rest)) (once : IsDistinct nat_eq (slot ∷ rest)) (updates : Updates old new slot None) where
    pub rest_distinct : IsDistinct nat_eq rest
    unfolding IsDistinct
    rest_distinct = once.1

    pub rest_there : AreOccupied new rest
    rest_there = all-removed (slot ∷ rest) zero slot refl once (λ s. is_some (item_at new s) ≡ is_some (Some slot)) (λ k d h n. ap is_some (updates.others _ n) ∙ occupied k d h)

    pub rest_listed : (x : T) → item_at old slot ≡ Some x → listed_items old (slot ∷ rest) ≡ x ∷ listed_items new rest
    rest_listed x here =
        ap (λ o. cons_option o (listed_items old rest)) here
        ∙ ap (λ xs. x ∷ xs) (sym (listed-same old new rest (all-removed (slot ∷ rest) zero slot refl once (λ s. item_at new s ≡ item_at old s) (λ k d h n. updates.others _ n))))
