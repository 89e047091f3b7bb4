-- The slots of a map are gone through in order, and items leave the store; the index follows at the end.
--     IsVisiting      how far this is
--     IsVisited      what is kept of a visitor
--     ascends_written      the items still ascend where an equal key was written
--     visits_begin, visits_end      before the first visit, and after the last
--     slot_there, item_there      the slot that is visited next, and its item
--     visit_keeps, visit_drops, visit_writes      an item stays, leaves, or is written
use Rattle.std.proofs.Common.{◌≡◌, ◌+◌, ℕ, suc, Bool, true, false, List, [], ◌∷◌, ◌++◌, length, filter, cond, set, take, drop, Ordering, Equal, Some, None, is_some, refl, sym, ap, ◌∙◌, inl, inr, subst, arith, append_assoc, length-append, true≢false, suc-le-suc}
use Rattle.std.proofs.Math.Seq.{get_or-append_seam}
use Rattle.std.proofs.lemmas.Bool.{cases_eq}
use Rattle.std.proofs.lemmas.List.{append-nil}
use Rattle.std.proofs.lemmas.List.Elements.{filter-append}
use Rattle.std.specs.List.{All, remove, slice_get}
use Rattle.std.specs.Cmp.{IsEquivalence, IsTotalOrder, Equal-is}
use Rattle.std.specs.Option.{option_and_then}
use Rattle.std.specs.Ordering.{is_eq}
use Rattle.std.proofs.lemmas.Option.{get_or_from_slice_get, slice_get_within}
use Rattle.iddqd_store.proofs.KeepsLemmas.{ascends_set}
use Rattle.iddqd_store.proofs.SearchLemmas.{at_key}
use Rattle.iddqd_ord_index.specs.Listed.{listed_items, occupied_slots}
use Rattle.iddqd_ord_index.proofs.ListedLemmas.{get-listed, listed-updated}
use Rattle.iddqd_store.specs.Contents.{Ascends}
use Rattle.iddqd_store.specs.Visiting.{kept_by, visitor_after}
use Rattle.iddqd_store.specs.Store.{Store, IsOccupied, Updates, item_at, store_len, with_item}
use Rattle.iddqd_store.proofs.StoreLemmas.{updates-set}
use Rattle.iddqd_ord.specs.StoreAndIndex.{ListsOccupied}
use Rattle.iddqd_ord.proofs.GetMutLemmas.{written_paired}
use Rattle.iddqd_ord.proofs.TakenOutLemmas.{get_first, remove_first, taken_out}

module _ (p q : ℕ → Bool) where
  -- what passes a test passes a weaker one too
  filter_again : ((x : ℕ) → p x ≡ false → q x ≡ false) → (xs : List ℕ) → filter q xs ≡ filter q (filter p xs)
  filter_again weaker [] = refl
  filter_again weaker (x ∷ xs) = by (filter_again weaker xs) (p x) refl
    where
      by : filter q xs ≡ filter q (filter p xs) → (b : Bool) → p x ≡ b → cond (q x) (x ∷ filter q xs) (filter q xs) ≡ filter q (cond (p x) (x ∷ filter p xs) (filter p xs))
      by rest true e = rw e (ap (λ ys. cond (q x) (x ∷ ys) ys) rest)
      by rest false e = rw (e, weaker x e) rest

filter_all : (p : ℕ → Bool) (xs : List ℕ) → All (λ x. p x ≡ true) xs → filter p xs ≡ xs
filter_all p [] all = refl
filter_all p (x ∷ xs) all = rw (all 0 x (omega arith)) (ap (λ ys. x ∷ ys) (filter_all p xs (λ k d lt. all (suc k) d (suc-le-suc lt))))

-- `kept` are the slots whose items stayed, `rest` those to come; `holds` is of the items of both, and of the place of the next one
pub record IsVisiting {T : Type 0} (holds : List T → ℕ → Type 0) (store : Store T) (all rest : List ℕ) : Type 0 where
  pub kept : List ℕ
  pub left : occupied_slots store all ≡ kept ++ rest
  pub paired : ListsOccupied store (kept ++ rest)
  pub asked : holds (listed_items store (kept ++ rest)) (length kept)

-- what is kept of the visitor, of what it leaves, and of the keys
pub record IsVisited {V T K : Type 0} (visits : V → T → V × T × Bool) (key : T → K) (cmp : K → K → Ordering) (first : V) (old : List T) (now : V) (left : List T) (at : ℕ) : Type 0 where
  pub items : kept_by visits first old ≡ take at left ++ kept_by visits now (drop at left)
  pub visitor : visitor_after visits first old ≡ visitor_after visits now (drop at left)
  pub keyed : Ascends key cmp left

-- an equal key was written
pub ascends_written : {T K : Type 0} (key : T → K) {eq : K → K → Bool} {cmp : K → K → Ordering} → IsEquivalence eq → IsTotalOrder cmp → ((a b : K) → eq a b ≡ is_eq (cmp a b)) → (items : List T) (at : ℕ) (x y : T)
    → slice_get items at ≡ Some x → eq (key x) (key y) ≡ true → Ascends key cmp items → Ascends key cmp (set items at y)
ascends_written key {eq} {cmp} equivalence total ties items at x y there akin sorted =
    let inside = slice_get_within items at x there in
    let equal : cmp (key y) (key x) ≡ Equal = (Equal-is _).0 (sym (ties (key y) (key x)) ∙ (equivalence.symm (key y) (key x) ∙ akin)) in
    ascends_set key total y items at sorted inside (at_key key (λ k. cmp (key y) k ≡ Equal) items at x inside (sym (get_or_from_slice_get items at x x there)) equal)

module _ {T : Type 0} where
  pub visits_begin : (asked : List T → ℕ → Type 0) (store : Store T) (all : List ℕ) → ListsOccupied store all → asked (listed_items store all) 0 → IsVisiting asked store all all
  visits_begin asked store all paired first = record { kept = []; left = filter_all (λ slot. is_some (item_at store slot)) all paired.occupied; paired = paired; asked = first }

  pub visits_end : (asked : List T → ℕ → Type 0) (store : Store T) (all rest : List ℕ) → rest ≡ [] → IsVisiting asked store all rest
      → ListsOccupied store (occupied_slots store all) × asked (listed_items store (occupied_slots store all)) (length (occupied_slots store all))
  visits_end asked store all rest none v =
      let left : occupied_slots store all ≡ v.kept = v.left ∙ (ap (λ l. v.kept ++ l) none ∙ append-nil v.kept) in
      let same : v.kept ++ rest ≡ occupied_slots store all = sym v.left in (
        subst (ListsOccupied store) same v.paired,
        subst (λ n. asked (listed_items store (occupied_slots store all)) n) (ap length (sym left)) (subst (λ l. asked (listed_items store l) (length v.kept)) same v.asked),
      )

  module _ (asked : List T → ℕ → Type 0) (store : Store T) (all rest : List ℕ) (slot : ℕ) (v : IsVisiting asked store all (slot ∷ rest)) where
    pub slot_there : IsOccupied store slot
    slot_there = subst (IsOccupied store) (get_or-append_seam v.kept slot rest 0) (v.paired.occupied (length v.kept) 0 (omega (arith, length-append v.kept (slot ∷ rest))))

    at_place : slice_get (v.kept ++ slot ∷ rest) (length v.kept) ≡ Some slot
    at_place = get_first v.kept slot rest (length v.kept) refl

    pub item_there : (x : T) → item_at store slot ≡ Some x → slice_get (listed_items store (v.kept ++ slot ∷ rest)) (length v.kept) ≡ Some x
    item_there x there = get-listed store (v.kept ++ slot ∷ rest) v.paired.occupied (length v.kept) ∙ (ap (option_and_then (item_at store)) at_place ∙ there)

    pub visit_keeps : (next : List T → ℕ → Type 0) → next (listed_items store (v.kept ++ slot ∷ rest)) (length v.kept + 1) → IsVisiting next store all rest
    visit_keeps next holds =
        let on : (v.kept ++ slot ∷ []) ++ rest ≡ v.kept ++ slot ∷ rest = append_assoc v.kept (slot ∷ []) rest in
        let n : length (v.kept ++ slot ∷ []) ≡ length v.kept + 1 = length-append v.kept (slot ∷ []) in
        record {
          kept = v.kept ++ slot ∷ [];
          left = v.left ∙ sym on;
          paired = subst (ListsOccupied store) (sym on) v.paired;
          asked = subst (λ l. next (listed_items store l) (length (v.kept ++ slot ∷ []))) (sym on) (subst (λ n. next (listed_items store (v.kept ++ slot ∷ rest)) n) (sym n) holds);
        }

    pub visit_drops : (next : List T → ℕ → Type 0) (new : Store T) (x : T) → item_at store slot ≡ Some x → Updates store new slot None → store_len new + 1 ≡ store_len store
        → next (remove (listed_items store (v.kept ++ slot ∷ rest)) (length v.kept)) (length v.kept) → IsVisiting next new all rest
    visit_drops next new x there updates len holds =
        let out = taken_out store new (v.kept ++ slot ∷ rest) (v.kept ++ rest) (length v.kept) slot x v.paired at_place (sym (remove_first v.kept slot rest (length v.kept) refl)) there updates len in
        let was = λ (s : ℕ). is_some (item_at store s) in
        let has = λ (s : ℕ). is_some (item_at new s) in
        let gone : has slot ≡ false = ap is_some updates.changed in
        let weaker : (s : ℕ) → was s ≡ false → has s ≡ false = λ s none. elim (cases_eq s slot) [ inl e ↦ ap has e ∙ gone | inr other ↦ ap is_some (updates.others s other) ∙ none ] in
        let some = filter_all has (v.kept ++ rest) out.paired.occupied in
        record {
          kept = v.kept;
          left = filter_again was has weaker all ∙ (ap (filter has) v.left ∙ (filter-append has v.kept (slot ∷ rest)
              ∙ (ap (λ b. filter has v.kept ++ cond b (slot ∷ filter has rest) (filter has rest)) gone ∙ (sym (filter-append has v.kept rest) ∙ some))));
          paired = out.paired;
          asked = subst (λ l. next l (length v.kept)) (sym out.items) holds;
        }

    pub visit_writes : (next : List T → ℕ → Type 0) (w : T) → next (set (listed_items store (v.kept ++ slot ∷ rest)) (length v.kept) w) (length v.kept) → IsVisiting next (with_item store slot w) all (slot ∷ rest)
    visit_writes next w holds =
        let new = with_item store slot w in
        let updates = updates-set store slot (Some w) slot_there in
        let items = listed-updated store new (v.kept ++ slot ∷ rest) (length v.kept) slot w v.paired.each_once v.paired.occupied at_place updates.changed updates.others in
        let was = λ (s : ℕ). is_some (item_at store s) in
        let has = λ (s : ℕ). is_some (item_at new s) in
        let paired = written_paired store (v.kept ++ slot ∷ rest) slot v.paired slot_there w in
        let weaker : (s : ℕ) → was s ≡ false → has s ≡ false = λ s none. elim (cases_eq s slot) [ inl e ↦ absurd (true≢false (sym slot_there ∙ (ap was (sym e) ∙ none))) | inr other ↦ ap is_some (updates.others s other) ∙ none ] in
        record {
          kept = v.kept;
          left = filter_again was has weaker all ∙ (ap (filter has) v.left ∙ filter_all has (v.kept ++ slot ∷ rest) paired.occupied);
          paired = paired;
          asked = subst (λ l. next l (length v.kept)) (sym items) holds;
        }
