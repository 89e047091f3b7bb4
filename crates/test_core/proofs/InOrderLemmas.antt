-- An index and a store stay in order as slots come and go.
use Rattle.std.proofs.Common.{◌≡◌, ◌≢◌, ℕ, suc, ◌-◌, List, [], ◌++◌, length, map, take, set, Option, Some, None, Err, Ok, is_some, sym, ap, ◌∙◌, subst, arith, true≢false}
use Rattle.std.proofs.lemmas.List.{append-nil, drop_all, length-map}
use Rattle.std.proofs.lemmas.List.Elements.{All-append, All-cons, All-take, All-drop, All-set}
use Rattle.std.specs.List.{All, Contains, insert, remove}
use Rattle.std.specs.List.Sorted.{IsStrictlySortedBy}
use Rattle.std.specs.declared.cmp.Ordering.{Ordering}
use Rattle.std.specs.Cmp.{IsTotalOrder}
use Rattle.iddqd_ord_index.specs.Listed.{SlotList, listed_items, AreOccupied}
use Rattle.iddqd_ord_index.specs.Removal.{RemovesSlot}
use Rattle.iddqd_ord_index.specs.Search.{IsPlaceAmong}
use Rattle.iddqd_store.specs.Contents.{Ascends}
use Rattle.iddqd_store.specs.Store.{Store, item_at, IsOccupied, Updates}
use Rattle.iddqd_store.proofs.KeepsLemmas.{ascends_insert, ascends_remove, ascends_set}
use Rattle.iddqd_ord_index.proofs.ListedLemmas.{listed-added, listed-remove, listed-same, listed-set}
use Rattle.test_core.specs.InOrder.{InOrder}

module _ {T K : Type 0} (key : T → K) (cmp : K → K → Ordering) where
  differs : (store : Store T) (slots : List ℕ) (slot : ℕ) → AreOccupied store slots → item_at store slot ≡ None → All (λ s. s ≢ slot) slots
  differs store slots slot occupied vacant = λ k d h e. true≢false (sym (occupied k d h) ∙ ap is_some (ap (item_at store) e ∙ vacant))

  -- a vacant slot is not listed
  pub vacant_absent : (store : Store T) (slots : List ℕ) (slot : ℕ) → InOrder key cmp store slots → item_at store slot ≡ None → ¬ Contains slots slot
  vacant_absent store slots slot o vacant c = differs store slots slot o.occupied vacant c.0 slot c.1 c.2

  still : (old new : Store T) (slots : List ℕ) (slot : ℕ) (x : T) → AreOccupied old slots → item_at old slot ≡ None → Updates old new slot (Some x) → AreOccupied new slots
  still old new slots slot x occupied vacant u = λ k d h. ap is_some (u.others _ (differs old slots slot occupied vacant k d h)) ∙ occupied k d h

  pub in_order_empty : (store : Store T) (slots : List ℕ) → slots ≡ [] → InOrder key cmp store slots
  unfolding IsStrictlySortedBy
  in_order_empty store slots e = rw e (record { occupied = λ k d h. absurd (omega arith); ascending = tt })

  -- room in the store changes nothing
  pub in_order_roomier : (old new : Store T) (slots : List ℕ) (room : ℕ) → new ≡ record old { capacity = room } → InOrder key cmp old slots → InOrder key cmp new slots
  in_order_roomier old new slots room e o = rw e (record { occupied = o.occupied; ascending = o.ascending })

  pub in_order_added : IsTotalOrder cmp → (old new : Store T) (slots : List ℕ) (slot i : ℕ) (x : T) → InOrder key cmp old slots → item_at old slot ≡ None
      → Updates old new slot (Some x) → IsPlaceAmong (cmp (key x)) (map key (listed_items old slots)) (Err i) → InOrder key cmp new (insert slots i slot)
  in_order_added total old new slots slot i x o vacant u at =
      let more = still old new slots slot x o.occupied vacant u in
      record {
        occupied = All-append (IsOccupied new) (take i slots) _ (All-take (IsOccupied new) i slots more) (All-cons (IsOccupied new) slot _ (ap is_some u.changed) (All-drop (IsOccupied new) i slots more));
        ascending = subst (Ascends key cmp) (sym (listed-added old new slots i slot x o.occupied vacant u.changed u.others)) (ascends_insert key total x (listed_items old slots) i o.ascending at.0 at.1 at.2);
      }

  pub in_order_removed : (store : Store T) (slots : List ℕ) (i : ℕ) → InOrder key cmp store slots → InOrder key cmp store (remove slots i)
  in_order_removed store slots i o =
      record {
        occupied = All-append (IsOccupied store) (take i slots) _ (All-take (IsOccupied store) i slots o.occupied) (All-drop (IsOccupied store) (suc i) slots o.occupied);
        ascending = subst (Ascends key cmp) (sym (listed-remove store slots o.occupied i)) (ascends_remove key cmp (listed_items store slots) i o.ascending);
      }

  -- a removal by key leaves the list as it was, or without a slot
  pub in_order_removed_by : (compare : K → Ordering) (store : Store T) (old : SlotList) (slot : Option ℕ) (new : SlotList) → InOrder key cmp store old.slots → RemovesSlot key compare store old slot new → InOrder key cmp store new.slots
  in_order_removed_by compare store old None new o r = subst (InOrder key cmp store) (sym (ap (λ i. i.slots) r.1)) o
  in_order_removed_by compare store old (Some slot) new o r = subst (InOrder key cmp store) (sym (ap (λ i. i.slots) r.3)) (in_order_removed store old.slots r.0 o)

  pub in_order_last : (store : Store T) (slots : List ℕ) → InOrder key cmp store slots → InOrder key cmp store (take (length slots - 1) slots)
  in_order_last store slots o =
      let e : remove slots (length slots - 1) ≡ take (length slots - 1) slots = ap (λ l. take (length slots - 1) slots ++ l) (drop_all (suc (length slots - 1)) slots (omega arith)) ∙ append-nil (take (length slots - 1) slots) in
      subst (InOrder key cmp store) e (in_order_removed store slots (length slots - 1) o)

  pub in_order_renamed : IsTotalOrder cmp → (old new : Store T) (slots : List ℕ) (slot i : ℕ) (x : T) → InOrder key cmp old slots → item_at old slot ≡ None
      → Updates old new slot (Some x) → IsPlaceAmong (cmp (key x)) (map key (listed_items old slots)) (Ok i) → InOrder key cmp new (set slots i slot)
  in_order_renamed total old new slots slot i x o vacant u at =
      let more = still old new slots slot x o.occupied vacant u in
      let same : listed_items new slots ≡ listed_items old slots = listed-same old new slots (λ k d h. u.others _ (differs old slots slot o.occupied vacant k d h)) in
      let e : listed_items new (set slots i slot) ≡ set (listed_items old slots) i x = listed-set new slots more i slot x u.changed ∙ ap (λ l. set l i x) same in
      record {
        occupied = All-set (IsOccupied new) slots i slot (ap is_some u.changed) more;
        ascending = subst (Ascends key cmp) (sym e) (ascends_set key total x (listed_items old slots) i o.ascending (omega (arith, at.0, length-map (listed_items old slots) key)) at.1);
      }
