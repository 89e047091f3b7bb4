-- An index and a store belong together still where items move from slot to slot.
--     own_place, has_place      the place of an item's own key is that of its slot, and there is one
--     paired_same      each slot has what it had
--     paired_renamed, listed_renamed      the item of one slot stands in another, which is listed in its stead
--     moved_paired, moved_items      the same, told of the last slot
use Rattle.std.proofs.Common.{false, ◌-◌, ◌≡◌, ◌≢◌, ℕ, zero, suc, ◌<◌, ⊎_elim, Bool, true, List, [], ◌∷◌, length, map, get_or, set, Some, is_some, refl, sym, ap, ◌∙◌, arith, true≢false, nat_eq, subst, suc-le-suc, slice_get}
use Rattle.std.proofs.lemmas.Bool.{cases_lt, cases_eq, eqb-false}
use Rattle.std.proofs.lemmas.List.{get_or_read, get_or-set_same, get_or-set_other, length-set}
use Rattle.std.proofs.lemmas.Map.Keys.{apart_from_distinct}
use Rattle.std.proofs.lemmas.Option.{get_or_from_slice_get, slice_get_read, slice_get_within}
use Rattle.std.specs.declared.cmp.Ordering.{Ordering}
use Rattle.std.specs.declared.cmp.Ordering.TheVariants.{Less, Equal, Greater}
use Rattle.std.specs.Cmp.{IsEquivalence, IsTotalOrder, nat_eq_equiv}
use Rattle.std.specs.List.{AllWithin, Contains, HoldsAt, cons_option}
use Rattle.std.specs.Ordering.{is_eq}
use Rattle.iddqd_store.specs.Contents.{Ascends}
use Rattle.iddqd_ord_index.specs.Listed.{SlotList, listed_items}
use Rattle.iddqd_store.specs.Store.{Store, item_at, store_len, EndsOccupied, MovesLast, SameItems}
use Rattle.iddqd_store.proofs.DistinctLemmas.{absent_apart, distinct_set}
use Rattle.iddqd_ord_index.proofs.ListedLemmas.{length-listed, listed-same, read-listed}
use Rattle.iddqd_store.proofs.QueryLemmas.{none_at, only_at, own_query}
use Rattle.iddqd_store.proofs.StoreLemmas.{last_moves}
use Rattle.iddqd_ord.specs.StoreAndIndex.{ListsOccupied}
use Rattle.iddqd_ord.proofs.StoreAndIndexLemmas.{vacant_absent}

module _ {T K : Type 0} (key : T → K) {eq : K → K → Bool} {cmp : K → K → Ordering} (equivalence : IsEquivalence eq) (total : IsTotalOrder cmp) (ties : (x y : K) → eq x y ≡ is_eq (cmp x y)) (store : Store T) (slots : List ℕ) (paired : ListsOccupied store slots) (sorted : Ascends key cmp (listed_items store slots)) (slot : ℕ) (x : T) (there : item_at store slot ≡ Some x) where
  listed : Contains slots slot
  listed = paired.listed slot (ap is_some there)

  long : length (listed_items store slots) ≡ length slots
  long = length-listed store slots paired.occupied

  within : listed.0 < length (listed_items store slots)
  within = omega (arith, listed.1, long)

  slot_read : (d : ℕ) → get_or slots listed.0 d ≡ slot
  slot_read d = sym (get_or_read slots listed.0 slot listed.1 (sym listed.2) d)

  item_read : (d : T) → get_or (listed_items store slots) listed.0 d ≡ x
  item_read d = sym (get_or_read (listed_items store slots) listed.0 x within (read-listed store slots paired.occupied listed.0 x listed.1 (ap (item_at store) (slot_read 0) ∙ there)) d)

  passes : (d : T) → eq (key x) (key (get_or (listed_items store slots) listed.0 d)) ≡ true
  passes d = ap (λ y. eq (key x) (key y)) (item_read d) ∙ equivalence.refl (key x)

  pub own_place : (i : ℕ) → i < length (map key (listed_items store slots)) → HoldsAt (λ k. cmp (key x) k ≡ Equal) (map key (listed_items store slots)) i → slice_get slots i ≡ Some slot
  own_place i h at =
      let only = only_at key (own_query eq cmp equivalence total ties (key x)) (listed_items store slots) sorted i h at in
      ⊎_elim
      (λ e. subst (λ j. slice_get slots j ≡ Some slot) e (slice_get_read slots (length slots) listed.0 slot refl listed.1 (sym (slot_read slot))))
      (λ n. absurd (true≢false (sym (passes x) ∙ only.elsewhere listed.0 x within n)))
      (cases_eq listed.0 i)

  pub has_place : (i : ℕ) → AllWithin (λ k. cmp (key x) k ≡ Greater) (map key (listed_items store slots)) 0 i → AllWithin (λ k. cmp (key x) k ≡ Less) (map key (listed_items store slots)) i (length (map key (listed_items store slots))) → ⊥
  has_place i before behind =
      true≢false (sym (passes x) ∙ none_at key (own_query eq cmp equivalence total ties (key x)) (listed_items store slots) sorted i before behind listed.0 x within)

module _ {T : Type 0} (old new : Store T) (slots : List ℕ) (paired : ListsOccupied old slots) (len : store_len new ≡ store_len old) where
  module _ (same : SameItems old new) where
    pub paired_same : ListsOccupied new slots
    paired_same = record {
      each_once = paired.each_once;
      occupied = λ k d h. ap is_some (same _) ∙ paired.occupied k d h;
      listed = λ slot some. paired.listed slot (ap is_some (sym (same slot)) ∙ some);
      counted = paired.counted ∙ sym len;
    }

  module _ (last hole i : ℕ) (at : slice_get slots i ≡ Some last) (moves : MovesLast old.slots new.slots last hole) where
    inside : i < length slots
    inside = slice_get_within slots i last at

    place_read : (d : ℕ) → get_or slots i d ≡ last
    place_read d = get_or_from_slice_get slots i last d at

    -- another listed slot is neither of the two
    not_last : (k d : ℕ) → k < length slots → k ≢ i → get_or slots k d ≢ last
    not_last k d h n e = ⊎_elim
        (λ l. eqb-false (get_or slots k d) (get_or slots i d) (apart_from_distinct nat_eq slots k i d paired.each_once l inside) (e ∙ sym (place_read d)))
        (λ l. eqb-false (get_or slots i d) (get_or slots k d) (apart_from_distinct nat_eq slots i k d paired.each_once (omega arith) h) (place_read d ∙ sym e))
        (cases_lt k i)

    not_hole : (k d : ℕ) → k < length slots → get_or slots k d ≢ hole
    not_hole k d h e = true≢false (sym (paired.occupied k d h) ∙ ap is_some (ap (item_at old) e ∙ moves.was_vacant))

    kept : (k d : ℕ) → k < length slots → k ≢ i → item_at new (get_or slots k d) ≡ item_at old (get_or slots k d)
    kept k d h n = moves.others (get_or slots k d) (not_hole k d h) (not_last k d h n)

    hole_there : item_at new hole ≡ item_at old last
    hole_there = moves.moved

    pub hole_absent : ¬ Contains slots hole
    hole_absent = vacant_absent old new slots paired hole moves.was_vacant

    pub paired_renamed : ListsOccupied new (set slots i hole)
    paired_renamed =
        let size = length-set slots i hole in
        record {
          each_once = distinct_set nat_eq nat_eq_equiv.symm hole slots i (absent_apart slots hole hole_absent) paired.each_once;
          occupied = λ k d h. ⊎_elim
              (λ e. ap (λ s. is_some (item_at new s)) (ap (λ j. get_or (set slots i hole) j d) e ∙ get_or-set_same slots i hole d inside) ∙ ap is_some hole_there ∙ moves.was_occupied)
              (λ n. ap (λ s. is_some (item_at new s)) (get_or-set_other slots i k hole d n) ∙ ap is_some (kept k d (omega arith) n) ∙ paired.occupied k d (omega arith))
              (cases_eq k i);
          listed = λ slot some. ⊎_elim
              (λ e. (i, omega (arith, size, inside), ap (λ s. get_or (set slots i hole) i s) e ∙ get_or-set_same slots i hole hole inside ∙ sym e))
              (λ n. ⊎_elim
              (λ e. absurd (true≢false (sym some ∙ ap (λ s. is_some (item_at new s)) e ∙ ap is_some moves.left)))
              (λ m.
              let was = paired.listed slot (ap is_some (sym (moves.others slot n m)) ∙ some) in
              let k = was.0 in
              let apart : k ≢ i = λ e. m (sym was.2 ∙ ap (λ j. get_or slots j slot) e ∙ place_read slot) in
              (k, omega (arith, size, was.1), get_or-set_other slots i k hole slot apart ∙ was.2))
              (cases_eq slot last))
              (cases_eq slot hole);
          counted = size ∙ paired.counted ∙ sym len;
        }

-- a slot is replaced by another that has the same item
pub renamed : {T : Type 0} (old new : Store T) (slots : List ℕ) (i last hole : ℕ) → slice_get slots i ≡ Some last → item_at new hole ≡ item_at old last → ((k d : ℕ) → k < length slots → k ≢ i → item_at new (get_or slots k d) ≡ item_at old (get_or slots k d)) → listed_items new (set slots i hole) ≡ listed_items old slots
renamed old new [] i last hole at moved kept = refl
renamed old new (s ∷ ss) zero last hole at moved kept =
    let e : s ≡ last = cc in
    let first : item_at new hole ≡ item_at old s = moved ∙ ap (item_at old) (sym e) in
    rw first (ap (cons_option (item_at old s)) (listed-same old new ss (λ k d h. kept (suc k) d (suc-le-suc h) (omega arith))))
renamed old new (s ∷ ss) (suc i) last hole at moved kept =
    rw (kept zero s (omega arith) (omega arith)) (ap (cons_option (item_at old s)) (renamed old new ss i last hole at moved (λ k d h n. kept (suc k) d (suc-le-suc h) (λ e. n (omega arith)))))

pub listed_renamed : {T : Type 0} (old new : Store T) (slots : List ℕ) (paired : ListsOccupied old slots) (len : store_len new ≡ store_len old) (last hole i : ℕ) (at : slice_get slots i ≡ Some last) (moves : MovesLast old.slots new.slots last hole) → listed_items new (set slots i hole) ≡ listed_items old slots
listed_renamed old new slots paired len last hole i at moves = renamed old new slots i last hole at moves.moved (kept old new slots paired len last hole i at moves)

-- the two facts of a move, told of the last slot and of the index after it
module _ {T : Type 0} (old new : Store T) (slots : List ℕ) (after : SlotList) (count place last hole : ℕ) (paired : ListsOccupied old slots) (ends : EndsOccupied old.slots) (counted : count ≡ length old.slots) (at : slice_get slots place ≡ Some (count - 1)) (moves : MovesLast old.slots new.slots last hole) (len : store_len new ≡ store_len old) (is : after ≡ record { slots = set slots place hole; prepared = false }) where
  last_at : slice_get slots place ≡ Some last
  last_at = at ∙ ap (λ n. Some (n - 1)) counted ∙ ap Some (sym (last_moves old.slots new.slots last hole ends moves))

  pub moved_paired : ListsOccupied new after.slots
  moved_paired = subst (ListsOccupied new) (sym (ap (λ i. i.slots) is)) (paired_renamed old new slots paired len last hole place last_at moves)

  pub moved_items : listed_items new after.slots ≡ listed_items old slots
  moved_items = ap (λ i. listed_items new i.slots) is ∙ listed_renamed old new slots paired len last hole place last_at moves
