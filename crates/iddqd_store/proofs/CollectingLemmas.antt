-- One item more is put in.
--     overwrites_last      the list of the items that were overwritten into another grows at its end
--     collects_last      so does the list of the items of different keys that were inserted
--     fills_kept, fills_taken, fills_on      what a reservation, one new item, and two calls after one another leave besides the items
--     overwritten      one item is put in
--     gives_all, gives_then      an iterator that gave these items, and then none or one more
use Rattle.std.proofs.Common.{◌≡◌, ℕ, Bool, List, [], ◌∷◌, ◌++◌, Option, Some, None, IfNone, OnSome, length, nat_eq, refl, sym, ap, ◌∙◌, subst, arith, IsPermutation}
use Rattle.std.proofs.lemmas.List.{length-map}
use Rattle.std.proofs.lemmas.List.Edits.{length-insert}
use Rattle.std.proofs.lemmas.List.Sorted.{IsPermutation-cons, IsPermutation-insert, IsPermutation-to_front, IsPermutation-trans}
use Rattle.std.proofs.iter.runs.Consumers.{total_runs}
use Rattle.std.specs.Iterator.{Drains, YieldsThen}
use Rattle.std.specs.List.{IsDistinct}
use Rattle.iddqd_store.specs.Collecting.{GivesAll, GivesThen, OverwritesAll}
use Rattle.iddqd_store.specs.Contents.{AddsItem, OverwritesItem, find_item, items_overwritten}
use Rattle.iddqd_store.specs.Holding.{FillsSlots, Holding, KeepsItems, InsertsItem}
use Rattle.iddqd_store.specs.SlotItems.{HaveSlots}

module _ {T K : Type 0} (key : T → K) (eq : K → K → Bool) (limit : ℕ) (x : T) where
  pub overwrites_last : (xs old between : List T) (back : Option T) (new : List T) → OverwritesAll key eq limit xs old between → OverwritesItem key eq x limit between back new → OverwritesAll key eq limit (xs ++ x ∷ []) old new
  overwrites_last [] old between back new same last = (new, back, subst (λ ys. OverwritesItem key eq x limit ys back new) same last, refl)
  overwrites_last (y ∷ xs) old between back new all last = (all.0, all.1, all.2, overwrites_last xs all.0 between back new all.3 last)

pub collects_last : {T : Type 0} (x : T) (xs items new : List T) → IsPermutation xs items → AddsItem x items new → IsPermutation (xs ++ x ∷ []) new
collects_last x xs items new same added =
    IsPermutation-trans (xs ++ x ∷ []) (x ∷ xs) new (IsPermutation-to_front xs x)
    (IsPermutation-trans (x ∷ xs) (x ∷ items) new (IsPermutation-cons x xs items same)
    (subst (λ l. IsPermutation (x ∷ items) l) (sym added.put) (IsPermutation-insert items added.place x)))

pub gives_all : {U S T : Type 0} (becomes : U → S → Type 0) (steps : S → Option T → S → Type 0) (iter : U) (xs : List T) → (it : S) × becomes iter it × Drains steps it xs → GivesAll becomes steps iter xs
gives_all becomes steps iter xs gave = (gave.0, gave.1, total_runs steps gave.0 Unit (λ ys. ys ≡ xs) (xs, (λ _. gave.2), refl) tt)

pub gives_then : {U S T : Type 0} (becomes : U → S → Type 0) (steps : S → Option T → S → Type 0) (iter : U) (xs : List T) (x : T) → (it : S) × (rest : S) × becomes iter it × YieldsThen steps it xs (Some x) rest → GivesThen becomes steps iter xs x
unfolding GivesThen
gives_then becomes steps iter xs x gave = gave

module _ {T : Type 0} where
  pub fills_kept : (old new : Holding T) → HaveSlots old.slots old.items → KeepsItems old new → FillsSlots old new
  fills_kept old new own kept = record {
    slots = rw (kept.slots, kept.items) own;
    never_fewer = omega (arith, ap length kept.items);
    vacant = omega (arith, kept.vacant, ap length kept.items);
    capacity = kept.capacity;
    limit = kept.limit;
  }

  pub fills_on : (old between new : Holding T) → FillsSlots old between → FillsSlots between new → FillsSlots old new
  fills_on old between new one other = record {
    slots = other.slots;
    never_fewer = omega (arith, one.never_fewer, other.never_fewer);
    vacant = omega (arith, one.vacant, other.vacant, one.never_fewer, other.never_fewer);
    capacity = omega (arith, one.capacity, other.capacity);
    limit = other.limit ∙ one.limit;
  }

  pub fills_taken : (x : T) (old new : Holding T) → InsertsItem x old new → FillsSlots old new
  fills_taken x old new took =
      let longer = length-insert old.items took.added.place x took.added.within in
      record {
        slots = took.slots;
        never_fewer = omega (arith, ap length took.added.put, longer);
        vacant = omega (arith, took.vacant, ap length took.added.put, longer);
        capacity = took.capacity;
        limit = took.limit;
      }

-- Same and Takes are what a call says if an item of an equal key was there, and if none was
module _ {T K Same Takes : Type 0} (key : T → K) (eq : K → K → Bool) (x : T) (old new : Holding T) (own : HaveSlots old.slots old.items) (swaps : Same → new ≡ record old { items = items_overwritten key (eq (key x)) x old.items }) (takes : Takes → InsertsItem x old new) where
  pub overwritten : (found : Option T) → found ≡ find_item key (eq (key x)) old.items → OnSome found Same → IfNone found Takes → OverwritesItem key eq x old.limit old.items found new.items × FillsSlots old new
  overwritten None told some none =
      let took = takes none in
      ((sym told, took.room, took.added), fills_taken x old new took)
  overwritten (Some y) told some none =
      let same = swaps some in
      let long : length new.items ≡ length old.items = ap (λ m. length m.items) same ∙ length-map old.items _ in (
        (sym told, ap (λ m. m.items) same),
        record {
          slots = record { as_many = ap (λ m. length m.slots) same ∙ own.as_many ∙ sym long; each_once = subst (λ m. IsDistinct nat_eq m.slots) (sym same) own.each_once };
          never_fewer = omega (arith, long);
          vacant = omega (arith, ap (λ m. m.vacant) same, long);
          capacity = omega (arith, ap (λ m. m.capacity) same);
          limit = ap (λ m. m.limit) same;
        },
      )
