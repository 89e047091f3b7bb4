-- One item of a keyed map: what its keys find once it was removed, or written.
--     taken      what is left once the item of a slot is gone
--     written_read      what the item's key finds once another item of an equal key is written in its place
use Rattle.std.proofs.Common.{◌≡◌, ℕ, zero, suc, ◌≤◌, Bool, true, cond, not, List, [], ◌∷◌, length, Some, refl, sym, ap, ◌∙◌, arith}
use Rattle.std.proofs.lemmas.List.Edits.{length-remove}
use Rattle.std.proofs.lemmas.Option.{get_or_from_slice_get, slice_get_within}
use Rattle.std.specs.Cmp.{IsEquivalence}
use Rattle.std.specs.List.{insert, remove, slice_get}
use Rattle.iddqd_store.specs.Contents.{AddsItem, IsAbsent, NoTwoAkin, find_item}
use Rattle.iddqd_store.specs.SlotItems.{item_of_slot, without_slot, written_to_slot}
use Rattle.iddqd_store.proofs.ChangeLemmas.{find_removed, find_replaced}
use Rattle.iddqd_store.proofs.ContentsLemmas.{find_at, only_place}
use Rattle.iddqd_store.proofs.WrittenLemmas.{others_without, slot_place, written_replaced}
use Rattle.iddqd_bi_hash.specs.BiHashItems.{BiHashItems}
use Rattle.iddqd_bi_hash.specs.BiHashMap.{LosesPlaceOf}

put_back : {T : Type 0} (xs : List T) (i : ℕ) (y : T) → slice_get xs i ≡ Some y → xs ≡ insert (remove xs i) i y
put_back [] i y there = cc
put_back (x ∷ xs) zero y there = let same : x ≡ y = cc in ap (λ z. z ∷ xs) same
put_back (x ∷ xs) (suc i) y there = ap (λ zs. x ∷ zs) (put_back xs i y there)

-- y was removed, and no other: with y inserted, the items are those from before
pub record Taken {T K L : Type 0} (key1 : T → K) (key2 : T → L) (eq1 : K → K → Bool) (eq2 : L → L → Bool) (old new : List T) (y : T) : Type 0 where
  pub alone : AddsItem y new old
  pub gone1 : IsAbsent key1 (eq1 (key1 y)) new
  pub gone2 : IsAbsent key2 (eq2 (key2 y)) new

gone : {T K : Type 0} (key : T → K) {eq : K → K → Bool} → IsEquivalence eq → (slots : List ℕ) (old new : List T) → NoTwoAkin key eq old → (slot : ℕ) (y : T) → item_of_slot slots old slot ≡ Some y → new ≡ without_slot slots old slot → IsAbsent key (eq (key y)) new
gone key {eq} laws slots old new differ slot y there left =
    find_removed (λ z. eq (key y) (key z)) (λ z. not (eq (key y) (key z))) old new (left ∙ others_without key laws (eq (key y)) (laws.congr (key y)) slots old differ slot y there (laws.refl (key y))) refl

module _ {S T K L : Type 0} (key1 : T → K) (key2 : T → L) {eq1 : K → K → Bool} {eq2 : L → L → Bool} (laws1 : IsEquivalence eq1) (laws2 : IsEquivalence eq2) (old new : BiHashItems S T) (slot : ℕ) (y : T) (there : item_of_slot old.slots old.items slot ≡ Some y) (leaves : LosesPlaceOf slot old new) (differ1 : NoTwoAkin key1 eq1 old.items) (differ2 : NoTwoAkin key2 eq2 old.items) where
  pub taken : Taken key1 key2 eq1 eq2 old.items new.items y
  taken =
      let p = slot_place old.slots old.items slot y there in
      let left : new.items ≡ remove old.items p.place = (leaves p.place p.slot_there).0 in
      let inside = slice_get_within old.items p.place y p.item_there in
      let fewer = length-remove old.items p.place inside in
      let within : p.place ≤ length new.items = omega (arith, inside, fewer, ap length left) in
      record {
        alone = record { place = p.place; within = within; put = put_back old.items p.place y p.item_there ∙ ap (λ xs. insert xs p.place y) (sym left) };
        gone1 = gone key1 laws1 old.slots old.items new.items differ1 slot y there (left ∙ sym p.others);
        gone2 = gone key2 laws2 old.slots old.items new.items differ2 slot y there (left ∙ sym p.others);
      }

pub written_read : {T K : Type 0} (key : T → K) {eq : K → K → Bool} → IsEquivalence eq → (slots : List ℕ) (items : List T) → NoTwoAkin key eq items → (slot : ℕ) (x w : T) → item_of_slot slots items slot ≡ Some x → eq (key x) (key w) ≡ true → find_item key (eq (key x)) (written_to_slot slots items slot w) ≡ Some w
written_read key {eq} laws slots items differ slot x w there akin =
    let p = slot_place slots items slot x there in
    let only = only_place key laws (eq (key x)) (laws.congr (key x)) items differ p.place (slice_get_within items p.place x p.item_there) (λ d. ap (λ z. eq (key x) (key z)) (get_or_from_slice_get items p.place x d p.item_there) ∙ laws.refl (key x)) in
    let found = find_at (λ z. eq (key x) (key z)) items p.place only ∙ p.item_there in
    let put = written_replaced key laws (eq (key x)) (laws.congr (key x)) slots items differ slot x w there (laws.refl (key x)) in
    find_replaced (λ z. eq (key x) (key z)) (λ z. cond (eq (key x) (key z)) w z) items (written_to_slot slots items slot w) w x put refl found akin
