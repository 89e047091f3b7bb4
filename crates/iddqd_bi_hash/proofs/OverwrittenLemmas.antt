-- Items are put in one after the other, each in place of those that have one of its keys.
--     overwritten      one is put in
--     overwrites_last, overwrites_kept      the list of those that were put in grows at its end, and the room grows
--     refills_kept, refills_put, refills_refused      what a reservation, one more item and a refusal leave besides the items
--     meets_none, met_none      an item that has no key of another, said by either word
use Rattle.std.proofs.Common.{◌≡◌, ◌+◌, ◌-◌, Bool, true, false, cond, List, [], ◌∷◌, ◌++◌, length, filter, find, Option, Some, None, refl, sym, ap, ◌∙◌, arith, subst}
use Rattle.iddqd_store.specs.Contents.{AddsItem, find_item, items_without}
use Rattle.iddqd_store.specs.Errors.{values_of}
use Rattle.iddqd_store.specs.Holding.{Holding, KeepsItems}
use Rattle.iddqd_store.specs.SlotItems.{HaveSlots}
use Rattle.iddqd_store.specs.declared.errors.Few.{Few}
use Rattle.iddqd_store.specs.declared.errors.Few.TheVariants.{One, Two, Three}
use Rattle.iddqd_hash_parts.proofs.FoundLemmas.{without_absent}
use Rattle.iddqd_bi_hash.specs.BiHashItems.{BiHashItems, holding_of}
use Rattle.iddqd_bi_hash.specs.BiHashMap.{BiKeeps, BiOverwrites, BiRefills, BiStays}
use Rattle.iddqd_bi_hash.specs.Collecting.{Meets, OverwritesAll, OverwritesItem}
use Rattle.iddqd_bi_hash.specs.TwoKeys.{as_list, items_displaced, items_met, items_unmet}
use Rattle.iddqd_bi_hash.specs.declared.both.Both as both
use Rattle.iddqd_bi_hash.proofs.BothLemmas.{stays_on}
use Rattle.iddqd_bi_hash.proofs.DisplacedLemmas.{at_none}
use Rattle.iddqd_bi_hash.proofs.MetLemmas.{neither_found}

some_value : {T : Type 0} (few : Few T) → values_of few ≡ [] → ⊥
some_value (One a) e = cc
some_value (Two a b) e = cc
some_value (Three a b c) e = cc

keeps_all : {T : Type 0} (m : Holding T) → KeepsItems m m
keeps_all m = record { items = refl; slots = refl; vacant = refl; capacity = omega arith; limit = refl }

keeps_on : {T : Type 0} (old between new : Holding T) → KeepsItems old between → KeepsItems between new → KeepsItems old new
keeps_on old between new first then = record {
  items = then.items ∙ first.items;
  slots = then.slots ∙ first.slots;
  vacant = then.vacant ∙ first.vacant;
  capacity = omega (arith, then.capacity, first.capacity);
  limit = then.limit ∙ first.limit;
}

-- where neither test passes, none passes either of them
none_either : {T : Type 0} (p q : T → Bool) (xs : List T) → find p xs ≡ None → find q xs ≡ None → filter (λ y. cond (p y) true (q y)) xs ≡ []
none_either p q [] none1 none2 = refl
none_either p q (x ∷ xs) none1 none2 = by (p x) (q x) refl refl none1 none2 (none_either p q xs)
  where
    by : (a b : Bool) → p x ≡ a → q x ≡ b → cond a (Some x) (find p xs) ≡ None → cond b (Some x) (find q xs) ≡ None → (find p xs ≡ None → find q xs ≡ None → filter (λ y. cond (p y) true (q y)) xs ≡ []) → filter (λ y. cond (p y) true (q y)) (x ∷ xs) ≡ []
    by true b e f none1 none2 rest = absurd (cc)
    by false true e f none1 none2 rest = absurd (cc)
    by false false e f none1 none2 rest = rw (e, f) (rest none1 none2)

module _ {S T K L : Type 0} (keys : both.Ghosts T K L) (x : T) where
  pub overwritten : (old new : BiHashItems S T) (back : Option (Few T)) → BiOverwrites keys x old new back → OverwritesItem keys.key1 keys.key2 keys.eq1 keys.eq2 x (holding_of old) (holding_of new)
  overwritten old new None did = record {
    put = did.put;
    room = λ none. did.inserted.room;
    slots = did.slots;
    vacant = omega (arith, did.inserted.vacant, ap length did.displaced);
    capacity = did.inserted.capacity;
    limit = did.limit;
  }
  overwritten old new (Some few) did = record {
    put = did.put;
    room = λ none. absurd (some_value few (did.displaced ∙ sym none));
    slots = did.slots;
    vacant = omega (arith, did.vacant, ap length did.displaced);
    capacity = omega (arith, did.capacity);
    limit = did.limit;
  }

module _ {T K L : Type 0} (key1 : T → K) (key2 : T → L) (eq1 : K → K → Bool) (eq2 : L → L → Bool) (x : T) where
  abbrev has1 : T → Bool
  has1 y = eq1 (key1 x) (key1 y)

  abbrev has2 : T → Bool
  has2 y = eq2 (key2 x) (key2 y)

  pub meets_none : (items : List T) → items_met key1 key2 eq1 eq2 x items ≡ [] → Meets key1 key2 eq1 eq2 x items []
  meets_none items none =
      let absent = neither_found has1 has2 items none in
      sym (
      ap (λ o. as_list o ++ as_list (find_item key2 (eq2 (key2 x)) (items_without key1 (eq1 (key1 x)) items))) absent.0
      ∙ ap (λ ys. as_list (find_item key2 (eq2 (key2 x)) ys)) (sym (without_absent key1 (eq1 (key1 x)) items absent.0))
      ∙ ap as_list absent.1
      )

  pub met_none : (items : List T) → Meets key1 key2 eq1 eq2 x items [] → items_met key1 key2 eq1 eq2 x items ≡ []
  met_none items none =
      let left = items_without key1 (eq1 (key1 x)) items in
      let absent = at_none {P = (find has1 items ≡ None) × (find has2 left ≡ None)} None (find has1 items) (find has2 left) none (λ a b. (a, b)) in
      none_either has1 has2 items absent.0 (ap (find has2) (without_absent key1 (eq1 (key1 x)) items absent.0) ∙ absent.1)

  module _ {S : Type 0} where
    pub refills_put : (IsKeyed : BiHashItems S T → Type 0) (old between new : BiHashItems S T) → BiRefills IsKeyed old between → OverwritesItem key1 key2 eq1 eq2 x (holding_of between) (holding_of new) → BiStays IsKeyed between new → BiRefills IsKeyed old new
    refills_put IsKeyed old between new first put stays = record {
      slots = put.slots;
      capacity = omega (arith, first.capacity, put.capacity);
      limit = put.limit ∙ first.limit;
      stays = stays_on IsKeyed old between new first.stays stays;
    }

  -- after a reservation
  put_after : (old between new : Holding T) → KeepsItems old between → OverwritesItem key1 key2 eq1 eq2 x between new → OverwritesItem key1 key2 eq1 eq2 x old new
  put_after old between new kept put = record {
    put = subst (λ items. AddsItem x (items_unmet key1 key2 eq1 eq2 x items) new.items) kept.items put.put;
    room = λ none. (let room = put.room (subst (λ items. Meets key1 key2 eq1 eq2 x items []) (sym kept.items) none) in omega (arith, room, ap length kept.items, kept.limit));
    slots = put.slots;
    vacant = subst (λ items. new.vacant ≡ between.vacant + length (items_displaced key1 key2 eq1 eq2 x items) - 1) kept.items put.vacant ∙ ap (λ n. n + length (items_displaced key1 key2 eq1 eq2 x old.items) - 1) kept.vacant;
    capacity = omega (arith, kept.capacity, put.capacity);
    limit = put.limit ∙ kept.limit;
  }

  pub overwrites_last : (xs : List T) (old between new : Holding T) → OverwritesAll key1 key2 eq1 eq2 xs old between → OverwritesItem key1 key2 eq1 eq2 x between new → OverwritesAll key1 key2 eq1 eq2 (xs ++ x ∷ []) old new
  overwrites_last [] old between new kept put = (new, put_after old between new kept put, keeps_all new)
  overwrites_last (y ∷ xs) old between new all put = (all.0, all.1, overwrites_last xs all.0 between new all.2 put)

pub overwrites_kept : {T K L : Type 0} (key1 : T → K) (key2 : T → L) (eq1 : K → K → Bool) (eq2 : L → L → Bool) (xs : List T) (old between new : Holding T) → OverwritesAll key1 key2 eq1 eq2 xs old between → KeepsItems between new → OverwritesAll key1 key2 eq1 eq2 xs old new
overwrites_kept key1 key2 eq1 eq2 [] old between new first then = keeps_on old between new first then
overwrites_kept key1 key2 eq1 eq2 (x ∷ xs) old between new all kept = (all.0, all.1, overwrites_kept key1 key2 eq1 eq2 xs all.0 between new all.2 kept)

pub refills_kept : {S T : Type 0} (IsKeyed : BiHashItems S T → Type 0) (old new : BiHashItems S T) → HaveSlots old.slots old.items → BiKeeps IsKeyed old new → BiRefills IsKeyed old new
refills_kept IsKeyed old new own kept = record {
  slots = rw (kept.keeps.slots, kept.keeps.items) own;
  capacity = kept.keeps.capacity;
  limit = kept.keeps.limit;
  stays = kept.stays;
}

-- a refused item changes nothing but the room
pub refills_refused : {S T : Type 0} (IsKeyed : BiHashItems S T → Type 0) (old between new : BiHashItems S T) → BiRefills IsKeyed old between → BiKeeps IsKeyed between new → BiRefills IsKeyed old new
refills_refused IsKeyed old between new first kept = record {
  slots = rw (kept.keeps.slots, kept.keeps.items) first.slots;
  capacity = omega (arith, first.capacity, kept.keeps.capacity);
  limit = kept.keeps.limit ∙ first.limit;
  stays = stays_on IsKeyed old between new first.stays kept.stays;
}
