-- The items at a list of occupied slots, as the list and the store change.
--     length-listed, get-listed, read-listed      one item for each slot, in the slots' order
--     listed-insert, listed-remove, listed-set      what a change of the list makes of the items
--     listed-part, listed-last      what a part of the list makes of them, and its last slot
--     listed-same, listed-updated      what a change of the store does
use Rattle.std.proofs.Common.{◌≡◌, ◌≢◌, ℕ, zero, suc, ◌<◌, List, [], ◌∷◌, ◌++◌, take, drop, length, map, get_or, set, Option, Some, None, IsSome, is_some, refl, sym, ap, ◌∙◌, arith, true≢false, subst, false, nat_eq, suc-le-suc, option_and_then}
use Rattle.std.proofs.Math.Nat.{le_of_suc-le-suc}
use Rattle.std.proofs.lemmas.Bool.{eqb-false}
use Rattle.std.proofs.lemmas.List.Elements.{All-take, filter_map-append}
use Rattle.std.specs.List.{All, AllByRecursion, HoldsAt, IsDistinct, filter_map, cons_option, insert, remove, slice_get}
use Rattle.iddqd_ord_index.specs.Listed.{listed_items, AreOccupied}
use Rattle.iddqd_store.proofs.SearchLemmas.{at_key}
use Rattle.iddqd_store.specs.Store.{Store, item_at}

-- a function that gives a value at each element
module _ {X Y : Type 0} (h : X → Option Y) where
  abbrev Gives : List X → Type 0
  Gives xs = All (λ x. IsSome (h x)) xs

  given : (o : Option Y) → IsSome o → (y : Y) × (o ≡ Some y)
  given (Some y) some = (y, refl)
  given None some = absurd (true≢false (sym some))

  first_given : (x : X) (xs : List X) → Gives (x ∷ xs) → (y : Y) × (h x ≡ Some y)
  first_given x xs all = given (h x) (all zero x (omega arith))

  rest_given : (x : X) (xs : List X) → Gives (x ∷ xs) → Gives xs
  rest_given x xs all k d within = all (suc k) d (suc-le-suc within)

  length-given : (xs : List X) → Gives xs → length (filter_map h xs) ≡ length xs
  length-given [] all = refl
  length-given (x ∷ xs) all =
      let y = first_given x xs all in
      rw y.1 (ap suc (length-given xs (rest_given x xs all)))

  get-given : (xs : List X) (i : ℕ) → Gives xs → slice_get (filter_map h xs) i ≡ option_and_then h (slice_get xs i)
  get-given [] i all = refl
  get-given (x ∷ xs) zero all = let y = first_given x xs all in rw y.1 refl
  get-given (x ∷ xs) (suc i) all = let y = first_given x xs all in rw y.1 (get-given xs i (rest_given x xs all))

  read-given : (xs : List X) (i : ℕ) (d : X) (y e : Y) → Gives xs → i < length xs → h (get_or xs i d) ≡ Some y → get_or (filter_map h xs) i e ≡ y
  read-given [] i d y e all within read = absurd (omega arith)
  read-given (x ∷ xs) zero d y e all within read = rw read refl
  read-given (x ∷ xs) (suc i) d y e all within read =
      let z = first_given x xs all in
      rw z.1 (read-given xs i d y e (rest_given x xs all) (le_of_suc-le-suc within) read)

  insert-given : (xs : List X) (i : ℕ) (x : X) (y : Y) → Gives xs → h x ≡ Some y → filter_map h (insert xs i x) ≡ insert (filter_map h xs) i y
  insert-given xs zero x y all e = rw e refl
  insert-given [] (suc i) x y all e = rw e refl
  insert-given (z ∷ zs) (suc i) x y all e =
      let w = first_given z zs all in
      rw w.1 (ap (λ ys. w.0 ∷ ys) (insert-given zs i x y (rest_given z zs all) e))

  remove-given : (xs : List X) (i : ℕ) → Gives xs → filter_map h (remove xs i) ≡ remove (filter_map h xs) i
  remove-given [] zero all = refl
  remove-given [] (suc i) all = refl
  remove-given (z ∷ zs) zero all = let w = first_given z zs all in rw w.1 refl
  remove-given (z ∷ zs) (suc i) all =
      let w = first_given z zs all in
      rw w.1 (ap (λ ys. w.0 ∷ ys) (remove-given zs i (rest_given z zs all)))

  set-given : (xs : List X) (i : ℕ) (x : X) (y : Y) → Gives xs → h x ≡ Some y → filter_map h (set xs i x) ≡ set (filter_map h xs) i y
  set-given [] i x y all e = refl
  set-given (z ∷ zs) zero x y all e = let w = first_given z zs all in rw (e, w.1) refl
  set-given (z ∷ zs) (suc i) x y all e =
      let w = first_given z zs all in
      rw w.1 (ap (λ ys. w.0 ∷ ys) (set-given zs i x y (rest_given z zs all) e))

drop-given : {X Y : Type 0} (h : X → Option Y) (n : ℕ) (xs : List X) → Gives h xs → filter_map h (drop n xs) ≡ drop n (filter_map h xs)
drop-given h zero xs all = refl
drop-given h (suc n) [] all = refl
drop-given h (suc n) (x ∷ xs) all = let y = first_given h x xs all in rw y.1 (drop-given h n xs (rest_given h x xs all))

take-given : {X Y : Type 0} (h : X → Option Y) (n : ℕ) (xs : List X) → Gives h xs → filter_map h (take n xs) ≡ take n (filter_map h xs)
take-given h zero xs all = refl
take-given h (suc n) [] all = refl
take-given h (suc n) (x ∷ xs) all = let y = first_given h x xs all in rw y.1 (ap (λ ys. y.0 ∷ ys) (take-given h n xs (rest_given h x xs all)))

same-given : {X Y : Type 0} (g h : X → Option Y) (xs : List X) → All (λ x. g x ≡ h x) xs → filter_map g xs ≡ filter_map h xs
same-given g h [] all = refl
same-given g h (x ∷ xs) all =
    rw (all zero x (omega arith)) (ap (cons_option (h x)) (same-given g h xs (λ k d within. all (suc k) d (suc-le-suc within))))

module _ {T : Type 0} (store : Store T) (slots : List ℕ) (occupied : AreOccupied store slots) where
  pub length-listed : length (listed_items store slots) ≡ length slots
  length-listed = length-given (item_at store) slots occupied

  pub get-listed : (i : ℕ) → slice_get (listed_items store slots) i ≡ option_and_then (item_at store) (slice_get slots i)
  get-listed i = get-given (item_at store) slots i occupied

  pub read-listed : (i : ℕ) (x : T) → i < length slots → item_at store (get_or slots i 0) ≡ Some x → x ≡ get_or (listed_items store slots) i x
  read-listed i x within read = sym (read-given (item_at store) slots i 0 x x occupied within read)

  pub listed-insert : (i slot : ℕ) (x : T) → item_at store slot ≡ Some x → listed_items store (insert slots i slot) ≡ insert (listed_items store slots) i x
  listed-insert i slot x e = insert-given (item_at store) slots i slot x occupied e

  pub listed-remove : (i : ℕ) → listed_items store (remove slots i) ≡ remove (listed_items store slots) i
  listed-remove i = remove-given (item_at store) slots i occupied

  pub listed-set : (i slot : ℕ) (x : T) → item_at store slot ≡ Some x → listed_items store (set slots i slot) ≡ set (listed_items store slots) i x
  listed-set i slot x e = set-given (item_at store) slots i slot x occupied e

-- a part of the list lists a part of the items
pub listed-part : {T : Type 0} (store : Store T) (slots : List ℕ) (from to : ℕ) → AreOccupied store slots → listed_items store (drop from (take to slots)) ≡ drop from (take to (listed_items store slots))
listed-part store slots from to occupied =
    drop-given (item_at store) from (take to slots) (All-take (λ s. IsSome (item_at store s)) to slots occupied)
    ∙ ap (λ xs. drop from xs) (take-given (item_at store) to slots occupied)

-- the last slot's item is the last one
pub listed-last : {T : Type 0} (store : Store T) (rest : List ℕ) (slot : ℕ) (x : T) → item_at store slot ≡ Some x → listed_items store (rest ++ slot ∷ []) ≡ listed_items store rest ++ x ∷ []
listed-last store rest slot x there =
    filter_map-append (item_at store) rest (slot ∷ []) ∙ ap (λ o. listed_items store rest ++ cons_option o []) there

-- a store that has the same at each listed slot lists the same items
pub listed-same : {T : Type 0} (old new : Store T) (slots : List ℕ) → All (λ slot. item_at new slot ≡ item_at old slot) slots → listed_items new slots ≡ listed_items old slots
listed-same old new slots same = same-given (item_at new) (item_at old) slots same

-- what holds of the key of the item at a slot holds of the key at its place
pub key-listed : {T K : Type 0} (key : T → K) (P : K → Type 0) (store : Store T) (slots : List ℕ) (i : ℕ) (x : T) → AreOccupied store slots → i < length slots → item_at store (get_or slots i 0) ≡ Some x → P (key x) → HoldsAt P (map key (listed_items store slots)) i
key-listed key P store slots i x occupied within read p =
    at_key key P (listed_items store slots) i x (omega (arith, length-listed store slots occupied)) (read-listed store slots occupied i x within read) p

-- two functions that differ at one element alone
module _ {Y : Type 0} (g h : ℕ → Option Y) (slot : ℕ) (y : Y) (here : g slot ≡ Some y) (others : (other : ℕ) → other ≢ slot → g other ≡ h other) where
  of_place : (P : ℕ → Type 0) (slots : List ℕ) (i : ℕ) → AllByRecursion P slots → slice_get slots i ≡ Some slot → P slot
  of_place P [] i all at = cc
  of_place P (s ∷ ss) zero all at = let e : s ≡ slot = cc in subst P e all.0
  of_place P (s ∷ ss) (suc i) all at = of_place P ss i all.1 at

  same-apart : (slots : List ℕ) → AllByRecursion (λ s. nat_eq slot s ≡ false) slots → filter_map g slots ≡ filter_map h slots
  same-apart [] all = refl
  same-apart (s ∷ ss) all =
      rw (others s (λ e. eqb-false slot s all.0 (sym e))) (ap (cons_option (h s)) (same-apart ss all.1))

  updated-given : (slots : List ℕ) (i : ℕ) → IsDistinct nat_eq slots → Gives h slots → slice_get slots i ≡ Some slot → filter_map g slots ≡ set (filter_map h slots) i y
  unfolding IsDistinct
  updated-given [] i once all at = refl
  updated-given (s ∷ ss) zero once all at =
      let e : s ≡ slot = cc in
      let w = first_given h s ss all in
      let read : g s ≡ Some y = ap g e ∙ here in
      rw (read, w.1) (ap (λ ys. y ∷ ys) (same-apart ss (subst (λ n. AllByRecursion (λ z. nat_eq n z ≡ false) ss) e once.0)))
  updated-given (s ∷ ss) (suc i) once all at =
      let w = first_given h s ss all in
      let apart : nat_eq s slot ≡ false = of_place (λ z. nat_eq s z ≡ false) ss i once.0 at in
      rw (others s (eqb-false s slot apart), w.1) (ap (λ ys. w.0 ∷ ys) (updated-given ss i once.1 (rest_given h s ss all) at))

-- a store that has another item at one listed slot lists that item in its place
pub listed-updated : {T : Type 0} (old new : Store T) (slots : List ℕ) (i slot : ℕ) (x : T) → IsDistinct nat_eq slots → AreOccupied old slots → slice_get slots i ≡ Some slot → item_at new slot ≡ Some x → ((other : ℕ) → other ≢ slot → item_at new other ≡ item_at old other) → listed_items new slots ≡ set (listed_items old slots) i x
listed-updated old new slots i slot x once occupied at here others = updated-given (item_at new) (item_at old) slot x here others slots i once occupied at

-- a store that has an item at one more slot lists it where that slot was put in
pub listed-added : {T : Type 0} (old new : Store T) (slots : List ℕ) (i slot : ℕ) (x : T) → AreOccupied old slots → item_at old slot ≡ None → item_at new slot ≡ Some x → ((other : ℕ) → other ≢ slot → item_at new other ≡ item_at old other) → listed_items new (insert slots i slot) ≡ insert (listed_items old slots) i x
listed-added old new slots i slot x occupied vacant here others =
    let differs : All (λ s. s ≢ slot) slots = λ k d within e. true≢false (sym (occupied k d within) ∙ ap is_some (ap (item_at old) e ∙ vacant)) in
    let same : All (λ s. item_at new s ≡ item_at old s) slots = λ k d within. others _ (differs k d within) in
    let still : AreOccupied new slots = λ k d within. ap is_some (same k d within) ∙ occupied k d within in
    listed-insert new slots still i slot x here ∙ ap (λ items. insert items i x) (listed-same old new slots same)
