-- Items are put in a map of two keys one after the other.
--     both_differ      in a keyed map no two items have a key in common
--     halts      one is not put in
--     by_two_keys      the items that a new one meets are the same in any order of the items, and one that meets none may be inserted
use Rattle.std.proofs.Common.{◌≡◌, ℕ, Bool, cond, not, List, [], ◌++◌, Option, Some, None, sym, ap, ◌∙◌, subst, IsPermutation}
use Rattle.std.specs.Cmp.{IsEquivalence}
use Rattle.std.specs.Hash.{HashWrites}
use Rattle.std.specs.List.{filter_map}
use Rattle.std.specs.Option.{option_and_then}
use Rattle.iddqd_store.specs.Contents.{IsAbsent, NoTwoAkin, find_item, items_without}
use Rattle.iddqd_store.specs.Errors.{values_of}
use Rattle.iddqd_store.specs.Holding.{KeepsItems}
use Rattle.iddqd_store.specs.Refusal.{refusal_kind}
use Rattle.iddqd_store.specs.SlotItems.{item_of_slot}
use Rattle.iddqd_store.specs.Unique.{AddsAll}
use Rattle.iddqd_store.proofs.AddingLemmas.{UniqueLaws, conflicts_first}
use Rattle.iddqd_store.proofs.KeepsLemmas.{differ_insert}
use Rattle.iddqd_store.proofs.OrderLemmas.{differ_moved, find_moved}
use Rattle.iddqd_hash_parts.proofs.FoundLemmas.{without_absent}
use Rattle.iddqd_bi_hash.specs.Extending.{HaltsAdding, HaltsAt}
use Rattle.iddqd_bi_hash.specs.BiHashItems.{BiHashItems, IsKeyedByBoth, differ_by_key1, differ_by_key2, holding_of}
use Rattle.iddqd_bi_hash.specs.Collecting.{DifferInBoth, Meets, MeetsNone, OwnDiffer}
use Rattle.iddqd_bi_hash.specs.TwoKeys.{as_list, items_displaced}
use Rattle.iddqd_bi_hash.specs.declared.both.Both as both
use Rattle.iddqd_bi_hash.specs.declared.bi_hash_map.extend_unique.Halted.{Halted}
use Rattle.iddqd_bi_hash.specs.declared.bi_hash_map.extend_unique.Halted.TheVariants.{Met, NoRoom}
use Rattle.iddqd_bi_hash.proofs.DisplacedLemmas.{at_none}
use Rattle.iddqd_bi_hash.proofs.SlotsLemmas.{find_kept}
use Rattle.iddqd_bi_hash.proofs.UniqueLemmas.{both_found}

pub both_differ : {S T K L : Type 0} (key1 : T → K) (key2 : T → L) (eq1 : K → K → Bool) (eq2 : L → L → Bool) (input1 : K → HashWrites) (input2 : L → HashWrites) (hash : S → HashWrites → ℕ) (m : BiHashItems S T)
    → IsKeyedByBoth key1 key2 eq1 eq2 input1 input2 hash m → DifferInBoth key1 key2 eq1 eq2 m.items
both_differ key1 key2 eq1 eq2 input1 input2 hash m keyed = record {
  one = differ_by_key1 key1 key2 eq1 eq2 input1 input2 hash m keyed;
  other = differ_by_key2 key1 key2 eq1 eq2 input1 input2 hash m keyed;
}

module _ {T K L : Type 0} (key1 : T → K) (key2 : T → L) {eq1 : K → K → Bool} {eq2 : L → L → Bool} (equivalence1 : IsEquivalence eq1) (equivalence2 : IsEquivalence eq2) where
  module _ (x : T) where
    abbrev one : List T → Option T
    one ys = find_item key1 (eq1 (key1 x)) ys

    abbrev other : List T → Option T
    other ys = find_item key2 (eq2 (key2 x)) ys

    abbrev apart : T → Option T
    apart y = cond (not (eq1 (key1 x) (key1 y))) (Some y) None

    -- the second item is the one of the second key, if it has not the first too
    second : (ys : List T) → NoTwoAkin key2 eq2 ys → other (items_without key1 (eq1 (key1 x)) ys) ≡ option_and_then apart (other ys)
    second ys differ =
        find_kept (λ y. eq2 (key2 x) (key2 y)) (λ y. not (eq1 (key1 x) (key1 y))) ys
        ∙ both_found key2 key1 (eq2 (key2 x)) (equivalence2.congr (key2 x)) (λ k. not (eq1 (key1 x) k)) ys differ

    -- an item that meets none has neither key of one
    neither_key : (ys : List T) → Meets key1 key2 eq1 eq2 x ys [] → IsAbsent key1 (eq1 (key1 x)) ys × IsAbsent key2 (eq2 (key2 x)) ys
    neither_key ys none =
        let left = items_without key1 (eq1 (key1 x)) ys in
        let absent = at_none {P = (one ys ≡ None) × (other left ≡ None)} None (one ys) (other left) none (λ a b. (a, b)) in
        (absent.0, ap other (without_absent key1 (eq1 (key1 x)) ys absent.0) ∙ absent.1)

  module _ (xs ys : List T) (moved : IsPermutation xs ys) (differ : DifferInBoth key1 key2 eq1 eq2 xs) where
    both_moved : DifferInBoth key1 key2 eq1 eq2 ys
    both_moved = record {
      one = differ_moved key1 equivalence1 xs ys moved differ.one;
      other = differ_moved key2 equivalence2 xs ys moved differ.other;
    }

    displaced_moved : (x : T) → items_displaced key1 key2 eq1 eq2 x xs ≡ items_displaced key1 key2 eq1 eq2 x ys
    displaced_moved x =
        let first = find_moved key1 equivalence1 (eq1 (key1 x)) (equivalence1.congr (key1 x)) xs ys moved differ.one in
        let then = second x xs differ.other ∙ ap (option_and_then (apart x)) (sym (find_moved key2 equivalence2 (eq2 (key2 x)) (equivalence2.congr (key2 x)) xs ys moved differ.other)) ∙ sym (second x ys both_moved.other) in
        ap (λ o. as_list o ++ as_list (other x (items_without key1 (eq1 (key1 x)) xs))) (sym first)
        ∙ ap (λ o. as_list (one x ys) ++ as_list o) then

  pub by_two_keys : UniqueLaws (DifferInBoth key1 key2 eq1 eq2) (Meets key1 key2 eq1 eq2)
  by_two_keys = record {
    differ_moved = both_moved;
    meets_moved = λ xs ys moved differ x met meets. meets ∙ displaced_moved xs ys moved differ x;
    differ_insert = λ x items place none differ.
        let absent = neither_key x items none in
        record {
          one = differ_insert key1 equivalence1 x items place absent.0 differ.one;
          other = differ_insert key2 equivalence2 x items place absent.1 differ.other;
        };
  }

module _ {S T K L : Type 0} (keys : both.Ghosts T K L) (equivalence1 : IsEquivalence keys.eq1) (equivalence2 : IsEquivalence keys.eq2) (gives : List T → T → Type 0) (old middle new : BiHashItems S T) (before : List T) (adds : AddsAll (OwnDiffer keys) before old.items middle.items) (limit : middle.limit ≡ old.limit) (kept : KeepsItems (holding_of middle) (holding_of new)) (x : T) (came : gives before x) where
  moved_on : AddsAll (OwnDiffer keys) before old.items new.items
  moved_on = subst (AddsAll (OwnDiffer keys) before old.items) (sym kept.items) adds

  pub halts : (h : Halted T) → HaltsAt keys x middle h → HaltsAdding keys gives old new h
  halts (Met y slots) at =
      let met = filter_map (item_of_slot middle.slots middle.items) (values_of slots) in
      rw (kept.slots, kept.items, at.0) (
        at.1,
        (before, came, conflicts_first (by_two_keys keys.key1 keys.key2 equivalence1 equivalence2) before old.items middle.items adds x met at.2, adds),
      )
  halts (NoRoom e) at =
      let none = subst (MeetsNone keys x) (sym kept.items) at.1.0 in
      let kind = at.1.1 ∙ ap (λ l. refusal_kind l middle.items) limit ∙ ap (refusal_kind old.limit) (sym kept.items) in
      rw at.0 ((before, came, moved_on, (none, kind)), tt)
