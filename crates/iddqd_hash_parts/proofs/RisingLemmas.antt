-- The slots of a hash map rise: where one stands among them, and what is left without it.
--     below_behind      n slots lie below the number behind the n-th
--     first_from, none_from      the first slot from a number on
--     slot_removed      the numbers and the items without a slot
--     below_removed      how many lie below, when one of them has gone
use Rattle.std.proofs.Common.{◌≡◌, ℕ, zero, suc, ◌+◌, ◌<◌, ◌≤◌, true, List, [], ◌∷◌, length, set, get_or, Option, Some, None, refl, sym, ap, ◌∙◌, arith, ⊎_elim, add-one, is_some}
use Rattle.std.proofs.lemmas.Bool.{cases_lt, le-ltb, lt-ltb}
use Rattle.std.proofs.lemmas.Option.{get_or_from_slice_get, slice_get_within}
use Rattle.std.specs.List.{remove, slice_get}
use Rattle.iddqd_store.specs.SlotItems.{HaveSlots, item_of_slot}
use Rattle.iddqd_store.proofs.WrittenLemmas.{listed_slot}
use Rattle.iddqd_hash_parts.specs.StoreAndIndex.{numbers_of}
use Rattle.iddqd_hash_parts.specs.SlotOrder.{behind, slots_below}
use Rattle.iddqd_hash_parts.proofs.GetMutLemmas.{Rises, rises_on}
use Rattle.iddqd_hash_parts.proofs.SlotItemLemmas.{at, items_of}

module _ {T : Type 0} where
  none_below : (number : ℕ → ℕ) (xs : List (Option T)) (n : ℕ) → ((s : ℕ) → n ≤ number s) → slots_below n (numbers_of number xs) ≡ 0
  none_below number [] n above = refl
  none_below number (None ∷ xs) n above = none_below (λ s. number (suc s)) xs n (λ s. above (suc s))
  none_below number (Some x ∷ xs) n above = rw (le-ltb (number 0) n (above 0)) (none_below (λ s. number (suc s)) xs n (λ s. above (suc s)))

  from_first : (number : ℕ → ℕ) (xs : List (Option T)) (n i : ℕ) → ((s : ℕ) → n ≤ number s) → i < length (numbers_of number xs) → n ≤ get_or (numbers_of number xs) i 0
  from_first number [] n i above h = absurd (omega arith)
  from_first number (None ∷ xs) n i above h = from_first (λ s. number (suc s)) xs n i (λ s. above (suc s)) h
  from_first number (Some x ∷ xs) n zero above h = above 0
  from_first number (Some x ∷ xs) n (suc i) above h = from_first (λ s. number (suc s)) xs n i (λ s. above (suc s)) (omega arith)

  pub below_behind : (number : ℕ → ℕ) → Rises number → (xs : List (Option T)) (n : ℕ) → n ≤ length (numbers_of number xs) → slots_below (behind (numbers_of number xs) n) (numbers_of number xs) ≡ n
  below_behind number rises xs zero h = none_below number xs 0 (λ s. omega arith)
  below_behind number rises [] (suc n) h = absurd (omega arith)
  below_behind number rises (None ∷ xs) (suc n) h = below_behind (λ s. number (suc s)) (rises_on number rises) xs (suc n) h
  below_behind number rises (Some x ∷ xs) (suc zero) h =
      rw (lt-ltb (number 0) (number 0 + 1) (omega arith)) (ap suc (none_below (λ s. number (suc s)) xs (number 0 + 1) (λ s. (let r = rises 0 (suc s) (omega arith) in omega arith))))
  below_behind number rises (Some x ∷ xs) (suc (suc n)) h =
      let rest = numbers_of (λ s. number (suc s)) xs in
      let above = from_first (λ s. number (suc s)) xs (number 0 + 1) n (λ s. (let r = rises 0 (suc s) (omega arith) in omega arith)) (omega arith) in
      rw (lt-ltb (number 0) (get_or rest n 0 + 1) (omega (arith, above))) (ap suc (below_behind (λ s. number (suc s)) (rises_on number rises) xs (suc n) (omega arith)))

  pub first_from : (number : ℕ → ℕ) → Rises number → (xs : List (Option T)) (from k : ℕ) (x : T) → at xs k ≡ Some x → from ≤ number k → ((j : ℕ) → j < k → from ≤ number j → at xs j ≡ None) → slice_get (numbers_of number xs) (slots_below from (numbers_of number xs)) ≡ Some (number k)
  first_from number rises [] from k x there h none = cc
  first_from number rises (None ∷ xs) from zero x there h none = cc
  first_from number rises (None ∷ xs) from (suc k) x there h none = first_from (λ s. number (suc s)) (rises_on number rises) xs from k x there h (λ j l. none (suc j) (omega arith))
  first_from number rises (Some y ∷ xs) from zero x there h none =
      rw (le-ltb (number 0) from h) (ap (slice_get (number 0 ∷ numbers_of (λ s. number (suc s)) xs)) (none_below (λ s. number (suc s)) xs from (λ s. (let r = rises 0 (suc s) (omega arith) in omega arith))))
  first_from number rises (Some y ∷ xs) from (suc k) x there h none =
      let rest = first_from (λ s. number (suc s)) (rises_on number rises) xs from k x there h (λ j l. none (suc j) (omega arith)) in
      ⊎_elim
      (λ l. rw (lt-ltb (number 0) from l) rest)
      (λ l. (let gone = none zero (omega arith) l in cc))
      (cases_lt (number 0) from)

  pub none_from : (number : ℕ → ℕ) (xs : List (Option T)) (from : ℕ) → ((j : ℕ) → from ≤ number j → at xs j ≡ None) → slots_below from (numbers_of number xs) ≡ length (numbers_of number xs)
  none_from number [] from none = refl
  none_from number (None ∷ xs) from none = none_from (λ s. number (suc s)) xs from (λ j. none (suc j))
  none_from number (Some y ∷ xs) from none =
      let rest = none_from (λ s. number (suc s)) xs from (λ j. none (suc j)) in
      ⊎_elim
      (λ l. rw (lt-ltb (number 0) from l) (ap suc rest))
      (λ l. (let gone = none zero l in cc))
      (cases_lt (number 0) from)

  read_above : (number : ℕ → ℕ) (xs : List (Option T)) (n i v : ℕ) → ((s : ℕ) → n ≤ number s) → slice_get (numbers_of number xs) i ≡ Some v → n ≤ v
  read_above number [] n i v above e = cc
  read_above number (None ∷ xs) n i v above e = read_above (λ s. number (suc s)) xs n i v (λ s. above (suc s)) e
  read_above number (Some x ∷ xs) n zero v above e = let same : number 0 ≡ v = cc in omega (arith, above 0, same)
  read_above number (Some x ∷ xs) n (suc i) v above e = read_above (λ s. number (suc s)) xs n i v (λ s. above (suc s)) e

  pub slot_removed : (number : ℕ → ℕ) → Rises number → (f : ℕ → ℕ) (xs : List (Option T)) (k i : ℕ) (x : T) → at xs k ≡ Some x → slice_get (numbers_of number xs) i ≡ Some (number k) → (numbers_of f (set xs k None) ≡ remove (numbers_of f xs) i) × (items_of (set xs k None) ≡ remove (items_of xs) i)
  slot_removed number rises f [] k i x there e = cc
  slot_removed number rises f (None ∷ xs) zero i x there e = cc
  slot_removed number rises f (None ∷ xs) (suc k) i x there e = slot_removed (λ s. number (suc s)) (rises_on number rises) (λ s. f (suc s)) xs k i x there e
  slot_removed number rises f (Some y ∷ xs) zero zero x there e = (refl, refl)
  slot_removed number rises f (Some y ∷ xs) zero (suc i) x there e =
      let above = read_above (λ s. number (suc s)) xs (number 0 + 1) i (number 0) (λ s. (let r = rises 0 (suc s) (omega arith) in omega arith)) e in
      absurd (omega (arith, above))
  slot_removed number rises f (Some y ∷ xs) (suc k) zero x there e =
      let same : number 0 ≡ number (suc k) = cc in
      absurd (omega (arith, same, rises 0 (suc k) (omega arith)))
  slot_removed number rises f (Some y ∷ xs) (suc k) (suc i) x there e =
      let rest = slot_removed (λ s. number (suc s)) (rises_on number rises) (λ s. f (suc s)) xs k i x there e in
      (ap (λ ns. f 0 ∷ ns) rest.0, ap (λ ys. y ∷ ys) rest.1)

pub below_removed : (slots : List ℕ) (n i s : ℕ) → slice_get slots i ≡ Some s → s < n → slots_below n (remove slots i) + 1 ≡ slots_below n slots
below_removed [] n i s e h = cc
below_removed (t ∷ slots) n zero s e h =
    let same : t ≡ s = cc in
    let less : t < n = omega (arith, same) in
    rw (lt-ltb t n less) (omega arith)
below_removed (t ∷ slots) n (suc i) s e h =
    let rest = below_removed slots n i s e h in
    ⊎_elim
    (λ l. rw (lt-ltb t n l) (omega (arith, rest)))
    (λ l. rw (le-ltb t n l) rest)
    (cases_lt t n)

pub below_zero : (slots : List ℕ) → slots_below 0 slots ≡ 0
below_zero [] = refl
below_zero (s ∷ slots) = rw (le-ltb s 0 (omega arith)) (below_zero slots)

module _ (slots : List ℕ) (at slot : ℕ) (there : slice_get slots at ≡ Some slot) where
  pub behind_next : slot + 1 ≡ behind slots (at + 1)
  behind_next = sym (ap (behind slots) (add-one at) ∙ ap (λ s. s + 1) (get_or_from_slice_get slots at slot 0 there))

  pub there_listed : {T : Type 0} (items : List T) → HaveSlots slots items → is_some (item_of_slot slots items slot) ≡ true
  there_listed items own = (listed_slot slots items slot own.as_many).1 (at, slice_get_within slots at slot there, get_or_from_slice_get slots at slot slot there)

  module _ (rises : (n : ℕ) → n ≤ length slots → slots_below (behind slots n) slots ≡ n) where
    pub below_next : slots_below (slot + 1) slots ≡ at + 1
    below_next =
        let within = slice_get_within slots at slot there in
        ap (λ n. slots_below n slots) behind_next ∙ rises (at + 1) (omega (arith, within))

    pub below_gone : slots_below (slot + 1) (remove slots at) ≡ at
    below_gone = omega (arith, below_next, below_removed slots (slot + 1) at slot there (omega arith))
