-- What a hash map of two keys shows, as its store and its two indexes change together. Each fact is that of a map of one key, twice. In
-- each, v is what the map of this store, these indexes and this hasher shows.
--     fits, held      the room and the items fit the limit and the memory
--     differ1, differ2, hashed1, hashed2      what a search by either key asks
--     stored1, stored2      the hashes that are stored for a slot's item
--     written_akin, written_same      a write under equal keys, or the same, leaves the map keyed
--     read1, read2      ... and either key finds what was written
--     emptied, emptied_stays      without items
--     unchanged, kept, inserted, inserted_after      what an insertion leaves, refused or not
--     taken_stays      what a removal leaves
--     stays_on      what stays in two calls, one after the other
use Rattle.std.proofs.Common.{◌≡◌, ℕ, ◌+◌, ◌-◌, ◌<◌, ◌≤◌, min, Bool, true, [], length, Some, None, refl, sym, ap, ◌∙◌, arith, subst}
use Rattle.std.specs.Cmp.{IsEquivalence}
use Rattle.std.specs.Hash.{HashWrites}
use Rattle.iddqd_store.specs.Contents.{AddsItem, IsAbsent, NoTwoAkin, find_item}
use Rattle.iddqd_store.specs.SlotItems.{item_of_slot, written_to_slot}
use Rattle.iddqd_store.specs.Store.{Store, item_at, store_len, vacant, Updates}
use Rattle.iddqd_store.proofs.WrittenLemmas.{told_of_slot}
use Rattle.iddqd_hash_index.specs.HashPairs.{HashPairs, HasOneMore}
use Rattle.iddqd_hash_parts.specs.StoreAndIndex.{AreHashed, GrowsRoom, KeepsBounds, items_in}
use Rattle.iddqd_hash_parts.proofs.GetMutLemmas.{keyed_akin_written, keyed_written}
use Rattle.iddqd_hash_parts.proofs.MapLemmas.{emptied_keyed, emptied_spare, listed_under_query, map_inserted, map_kept, same_spare, spare_fits, spare_held, taken_keyed, taken_spare}
use Rattle.iddqd_hash_parts.proofs.SlotItemLemmas.{length-items}
use Rattle.iddqd_bi_hash.specs.BiHashItems.{BiHashItems, IsKeyedByBoth, KeyedByBoth, by_key1, by_key2}
use Rattle.iddqd_bi_hash.specs.BiHashMap.{BiInserts, BiKeeps, BiStays, KeepsSpare, SpareFits}
use Rattle.iddqd_bi_hash.specs.StoreAndIndexes.{ArePaired, beside, bi_map_of}
use Rattle.iddqd_bi_hash.proofs.TakenLemmas.{written_read}

module _ {S T : Type 0} (hasher : S) (store : Store T) (i j : HashPairs) (paired : ArePaired store i.pairs j.pairs) (v : BiHashItems S T) (is : bi_map_of store i j hasher ≡ v) where
  pub fits : SpareFits v
  fits = subst SpareFits is (spare_fits hasher store (beside i.pairs i j) paired.one)

  pub held : v.spare + length v.items ≤ v.capacity
  held = subst (λ w. w.spare + length w.items ≤ w.capacity) is (spare_held hasher store (beside i.pairs i j) paired.one)

  pub keeps_spare : KeepsSpare v v
  keeps_spare = subst (λ w. KeepsSpare w w) is (same_spare hasher store (beside i.pairs i j) paired.one)

module _ {S T K L : Type 0} (key1 : T → K) (key2 : T → L) (eq1 : K → K → Bool) (eq2 : L → L → Bool) (input1 : K → HashWrites) (input2 : L → HashWrites) (hash : S → HashWrites → ℕ) where
  pub emptied : (hasher : S) (store : Store T) (i j : HashPairs) → store.slots ≡ [] → IsKeyedByBoth key1 key2 eq1 eq2 input1 input2 hash (bi_map_of store i j hasher)
  unfolding IsKeyedByBoth
  emptied hasher store i j none = record {
    one = emptied_keyed key1 eq1 input1 hash hasher store (beside i.pairs i j) none;
    other = emptied_keyed key2 eq2 input2 hash hasher store (beside j.pairs i j) none;
  }

  module _ (hasher : S) (store : Store T) (i j : HashPairs) (v : BiHashItems S T) (is : bi_map_of store i j hasher ≡ v) (keyed : IsKeyedByBoth key1 key2 eq1 eq2 input1 input2 hash v) where
    inside : KeyedByBoth key1 key2 eq1 eq2 input1 input2 hash (bi_map_of store i j hasher)
    unfolding IsKeyedByBoth
    inside = subst (IsKeyedByBoth key1 key2 eq1 eq2 input1 input2 hash) (sym is) keyed

    pub differ1 : NoTwoAkin key1 eq1 (items_in store)
    differ1 = inside.one.differ

    pub differ2 : NoTwoAkin key2 eq2 (items_in store)
    differ2 = inside.other.differ

    pub hashed1 : (test : K → Bool) (h : ℕ) → ((k : K) → test k ≡ true → hash v.hasher (input1 k) ≡ h) → AreHashed key1 test store i.pairs h
    hashed1 test h hashes = listed_under_query key1 eq1 input1 hash hasher store (beside i.pairs i j) inside.one test h (λ k p. ap (λ w. hash w.hasher (input1 k)) is ∙ hashes k p)

    pub hashed2 : (test : L → Bool) (h : ℕ) → ((k : L) → test k ≡ true → hash v.hasher (input2 k) ≡ h) → AreHashed key2 test store j.pairs h
    hashed2 test h hashes = listed_under_query key2 eq2 input2 hash hasher store (beside j.pairs i j) inside.other test h (λ k p. ap (λ w. hash w.hasher (input2 k)) is ∙ hashes k p)

    module _ (paired : ArePaired store i.pairs j.pairs) where
      pub unchanged : BiKeeps (IsKeyedByBoth key1 key2 eq1 eq2 input1 input2 hash) v v
      unchanged = record {
        keeps = record { items = refl; slots = refl; vacant = refl; capacity = omega arith; limit = refl };
        stays = record { keyed = keyed; spare = keeps_spare hasher store i j paired v is; hasher = refl };
      }

  -- the hash that is stored for a slot's item
  module _ (v : BiHashItems S T) (keyed : IsKeyedByBoth key1 key2 eq1 eq2 input1 input2 hash v) (slot : ℕ) (x : T) (there : item_of_slot v.slots v.items slot ≡ Some x) where
    pub stored1 : item_of_slot v.slots v.hashes1 slot ≡ Some (hash v.hasher (input1 (key1 x)))
    unfolding IsKeyedByBoth
    stored1 =
        let tell : T → ℕ = λ y. hash v.hasher (input1 (key1 y)) in
        ap (λ hashes. item_of_slot v.slots hashes slot) keyed.one.stored ∙ told_of_slot tell v.slots v.items slot ∙ (let here = there in cc)

    pub stored2 : item_of_slot v.slots v.hashes2 slot ≡ Some (hash v.hasher (input2 (key2 x)))
    unfolding IsKeyedByBoth
    stored2 =
        let tell : T → ℕ = λ y. hash v.hasher (input2 (key2 y)) in
        ap (λ hashes. item_of_slot v.slots hashes slot) keyed.other.stored ∙ told_of_slot tell v.slots v.items slot ∙ (let here = there in cc)

    -- either key of the slot's item finds what is written under an equal key
    pub read1 : (w : T) → IsEquivalence eq1 → eq1 (key1 x) (key1 w) ≡ true → find_item key1 (eq1 (key1 x)) (written_to_slot v.slots v.items slot w) ≡ Some w
    unfolding IsKeyedByBoth
    read1 w equivalence akin = written_read key1 equivalence v.slots v.items keyed.one.differ slot x w there akin

    pub read2 : (w : T) → IsEquivalence eq2 → eq2 (key2 x) (key2 w) ≡ true → find_item key2 (eq2 (key2 x)) (written_to_slot v.slots v.items slot w) ≡ Some w
    unfolding IsKeyedByBoth
    read2 w equivalence akin = written_read key2 equivalence v.slots v.items keyed.other.differ slot x w there akin

    -- a write of an item of equal keys, or of the same
    module _ (w : T) (equivalence1 : IsEquivalence eq1) (equivalence2 : IsEquivalence eq2) (respects1 : (a b : K) → eq1 a b ≡ true → input1 a ≡ input1 b) (respects2 : (a b : L) → eq2 a b ≡ true → input2 a ≡ input2 b) where
      pub written_akin : eq1 (key1 x) (key1 w) ≡ true → eq2 (key2 x) (key2 w) ≡ true → IsKeyedByBoth key1 key2 eq1 eq2 input1 input2 hash (record v { items = written_to_slot v.slots v.items slot w })
      unfolding IsKeyedByBoth
      written_akin akin1 akin2 = record {
        one = keyed_akin_written key1 input1 hash (by_key1 v) keyed.one slot x w there equivalence1 respects1 akin1;
        other = keyed_akin_written key2 input2 hash (by_key2 v) keyed.other slot x w there equivalence2 respects2 akin2;
      }

      pub written_same : key1 w ≡ key1 x → key2 w ≡ key2 x → IsKeyedByBoth key1 key2 eq1 eq2 input1 input2 hash (record v { items = written_to_slot v.slots v.items slot w })
      unfolding IsKeyedByBoth
      written_same same1 same2 = record {
        one = keyed_written key1 input1 hash (by_key1 v) keyed.one slot x w there equivalence1 respects1 same1;
        other = keyed_written key2 input2 hash (by_key2 v) keyed.other slot x w there equivalence2 respects2 same2;
      }

  module _ (hasher : S) (old new : Store T) (i j i' j' : HashPairs) (was : ArePaired old i.pairs j.pairs) (now : ArePaired new i'.pairs j'.pairs) where
    -- nothing has changed but the room
    kept_inside : IsKeyedByBoth key1 key2 eq1 eq2 input1 input2 hash (bi_map_of old i j hasher) → GrowsRoom old new i i' → GrowsRoom old new j j' → BiKeeps (IsKeyedByBoth key1 key2 eq1 eq2 input1 input2 hash) (bi_map_of old i j hasher) (bi_map_of new i' j' hasher)
    unfolding IsKeyedByBoth
    kept_inside keyed grows1 grows2 =
        let least : min i.spare j.spare ≤ min i'.spare j'.spare = omega (arith, grows1.spare, grows2.spare) in
        let one = map_kept key1 eq1 input1 hash hasher old new (beside i.pairs i j) (beside i'.pairs i' j') was.one now.one keyed.one grows1.store grows1.capacity grows1.pairs least in
        let other = map_kept key2 eq2 input2 hash hasher old new (beside j.pairs i j) (beside j'.pairs i' j') was.other now.other keyed.other grows2.store grows2.capacity grows2.pairs least in
        record {
          keeps = one.keeps;
          stays = record { keyed = record { one = one.stays.keyed; other = other.stays.keyed }; spare = one.stays.spare; hasher = refl };
        }

    pub kept : (v : BiHashItems S T) → (bi_map_of old i j hasher) ≡ v → IsKeyedByBoth key1 key2 eq1 eq2 input1 input2 hash v → GrowsRoom old new i i' → GrowsRoom old new j j' → BiKeeps (IsKeyedByBoth key1 key2 eq1 eq2 input1 input2 hash) v (bi_map_of new i' j' hasher)
    kept v is keyed grows1 grows2 = subst (λ w. BiKeeps (IsKeyedByBoth key1 key2 eq1 eq2 input1 input2 hash) w (bi_map_of new i' j' hasher)) is (kept_inside (subst (IsKeyedByBoth key1 key2 eq1 eq2 input1 input2 hash) (sym is) keyed) grows1 grows2)

    -- no item is left
    pub emptied_stays : (v : BiHashItems S T) → (bi_map_of old i j hasher) ≡ v → new.slots ≡ [] → i.spare + length i.pairs ≤ i'.spare → j.spare + length j.pairs ≤ j'.spare → old.capacity ≤ new.capacity → new.limit ≡ old.limit → BiStays (IsKeyedByBoth key1 key2 eq1 eq2 input1 input2 hash) v (bi_map_of new i' j' hasher)
    emptied_stays v is none spare1 spare2 capacity limit = record {
      keyed = emptied hasher new i' j' none;
      spare = subst (λ w. KeepsSpare w (bi_map_of new i' j' hasher)) is
          (emptied_spare key1 eq1 input1 hash hasher old new (beside i.pairs i j) (beside i'.pairs i' j') was.one now.one (omega (arith, spare1, spare2, was.one.counted, was.other.counted)) none capacity limit);
      hasher = ap (λ w. w.hasher) is;
    }

    -- a new item is there
    inserted_inside : IsEquivalence eq1 → IsEquivalence eq2 → IsKeyedByBoth key1 key2 eq1 eq2 input1 input2 hash (bi_map_of old i j hasher) → (x : T) (slot : ℕ) → IsAbsent key1 (eq1 (key1 x)) (items_in old) → IsAbsent key2 (eq2 (key2 x)) (items_in old) → length (items_in old) < old.limit
        → HasOneMore i.pairs i'.pairs (hash hasher (input1 (key1 x)), slot) → HasOneMore j.pairs j'.pairs (hash hasher (input2 (key2 x)), slot) → item_at old slot ≡ None → Updates old new slot (Some x)
        → i.spare ≤ i'.spare + 1 → j.spare ≤ j'.spare + 1 → store_len new ≡ store_len old + 1 → vacant new ≡ vacant old - 1 → KeepsBounds old new → BiInserts (IsKeyedByBoth key1 key2 eq1 eq2 input1 input2 hash) x (bi_map_of old i j hasher) (bi_map_of new i' j' hasher)
    unfolding IsKeyedByBoth
    inserted_inside equivalence1 equivalence2 keyed x slot absent1 absent2 room more1 more2 none updates spare1 spare2 len gone bounds =
        let one = map_inserted key1 eq1 input1 hash hasher old new (beside i.pairs i j) (beside i'.pairs i' j') was.one now.one equivalence1 keyed.one x slot absent1 room more1 none updates (omega (arith, spare1, spare2)) len gone bounds.capacity bounds.limit in
        let other = map_inserted key2 eq2 input2 hash hasher old new (beside j.pairs i j) (beside j'.pairs i' j') was.other now.other equivalence2 keyed.other x slot absent2 room more2 none updates (omega (arith, spare1, spare2)) len gone bounds.capacity bounds.limit in
        record {
          inserts = one.inserts;
          stays = record { keyed = record { one = one.stays.keyed; other = other.stays.keyed }; spare = one.stays.spare; hasher = refl };
        }

    pub inserted : (v : BiHashItems S T) → (bi_map_of old i j hasher) ≡ v → IsEquivalence eq1 → IsEquivalence eq2 → IsKeyedByBoth key1 key2 eq1 eq2 input1 input2 hash v → (x : T) (slot h1 h2 : ℕ) → IsAbsent key1 (eq1 (key1 x)) v.items → IsAbsent key2 (eq2 (key2 x)) v.items → 0 < v.spare
        → h1 ≡ hash v.hasher (input1 (key1 x)) → h2 ≡ hash v.hasher (input2 (key2 x)) → HasOneMore i.pairs i'.pairs (h1, slot) → HasOneMore j.pairs j'.pairs (h2, slot) → item_at old slot ≡ None → Updates old new slot (Some x)
        → i.spare ≤ i'.spare + 1 → j.spare ≤ j'.spare + 1 → store_len new ≡ store_len old + 1 → vacant new ≡ vacant old - 1 → KeepsBounds old new → BiInserts (IsKeyedByBoth key1 key2 eq1 eq2 input1 input2 hash) x v (bi_map_of new i' j' hasher)
    inserted v is equivalence1 equivalence2 keyed x slot h1 h2 absent1 absent2 some is1 is2 more1 more2 none updates spare1 spare2 len gone bounds =
        let told1 = is1 ∙ ap (λ w. hash w.hasher (input1 (key1 x))) (sym is) in
        let told2 = is2 ∙ ap (λ w. hash w.hasher (input2 (key2 x))) (sym is) in
        let room : length (items_in old) < old.limit = omega (arith, some, ap (λ w. w.spare) is, length-items old.slots) in
        subst (λ w. BiInserts (IsKeyedByBoth key1 key2 eq1 eq2 input1 input2 hash) x w (bi_map_of new i' j' hasher)) is
        (inserted_inside equivalence1 equivalence2 (subst (IsKeyedByBoth key1 key2 eq1 eq2 input1 input2 hash) (sym is) keyed) x slot
        (subst (λ w. IsAbsent key1 (eq1 (key1 x)) w.items) (sym is) absent1)
        (subst (λ w. IsAbsent key2 (eq2 (key2 x)) w.items) (sym is) absent2)
        room
        (subst (λ h. HasOneMore i.pairs i'.pairs (h, slot)) told1 more1)
        (subst (λ h. HasOneMore j.pairs j'.pairs (h, slot)) told2 more2)
        none updates spare1 spare2 len gone bounds)

    -- the item of a slot is gone
    pub taken_stays : (v : BiHashItems S T) → (bi_map_of old i j hasher) ≡ v → IsEquivalence eq1 → IsEquivalence eq2 → IsKeyedByBoth key1 key2 eq1 eq2 input1 input2 hash v → (slot : ℕ) (x : T) → item_at old slot ≡ Some x → Updates old new slot None → (h1 h2 : ℕ)
        → HasOneMore i'.pairs i.pairs (h1, slot) → HasOneMore j'.pairs j.pairs (h2, slot) → i.spare + 1 ≤ i'.spare → j.spare + 1 ≤ j'.spare → store_len new + 1 ≡ store_len old → KeepsBounds old new → BiStays (IsKeyedByBoth key1 key2 eq1 eq2 input1 input2 hash) v (bi_map_of new i' j' hasher)
    unfolding IsKeyedByBoth
    taken_stays v is equivalence1 equivalence2 keyed slot x there updates h1 h2 more1 more2 spare1 spare2 len bounds =
        let keyed_before = subst (IsKeyedByBoth key1 key2 eq1 eq2 input1 input2 hash) (sym is) keyed in
        record {
          keyed = record {
            one = taken_keyed key1 eq1 input1 hash hasher old new (beside i.pairs i j) (beside i'.pairs i' j') was.one now.one equivalence1 (eq1 (key1 x)) (equivalence1.congr (key1 x)) keyed_before.one slot x there (equivalence1.refl (key1 x)) h1 more1 updates;
            other = taken_keyed key2 eq2 input2 hash hasher old new (beside j.pairs i j) (beside j'.pairs i' j') was.other now.other equivalence2 (eq2 (key2 x)) (equivalence2.congr (key2 x)) keyed_before.other slot x there (equivalence2.refl (key2 x)) h2 more2 updates;
          };
          spare = subst (λ w. KeepsSpare w (bi_map_of new i' j' hasher)) is
              (taken_spare key1 eq1 input1 hash hasher old new (beside i.pairs i j) (beside i'.pairs i' j') was.one now.one equivalence1 (eq1 (key1 x)) (equivalence1.congr (key1 x)) keyed_before.one slot x there (equivalence1.refl (key1 x)) (omega (arith, spare1, spare2)) len bounds.capacity bounds.limit);
          hasher = ap (λ w. w.hasher) is;
        }

-- what stays in two calls, one after the other
pub stays_on : {S T : Type 0} (IsKeyed : BiHashItems S T → Type 0) (old between new : BiHashItems S T) → BiStays IsKeyed old between → BiStays IsKeyed between new → BiStays IsKeyed old new
stays_on IsKeyed old between new first then = record {
  keyed = then.keyed;
  spare = record { never_less = omega (arith, then.spare.never_less, first.spare.never_less); spare_fits = then.spare.spare_fits };
  hasher = then.hasher ∙ first.hasher;
}

-- an insertion after a growth
pub inserted_after : {S T : Type 0} (IsKeyed : BiHashItems S T → Type 0) (x : T) (old room new : BiHashItems S T) → BiKeeps IsKeyed old room → BiInserts IsKeyed x room new → BiInserts IsKeyed x old new
inserted_after IsKeyed x old room new kept inserted =
    let same = kept.keeps.items in
    record {
      inserts = record {
        room = omega (arith, inserted.inserts.room, ap length same, kept.keeps.limit);
        added = subst (λ items. AddsItem x items new.items) same inserted.inserts.added;
        slots = inserted.inserts.slots;
        vacant = inserted.inserts.vacant ∙ ap (λ n. n - 1) kept.keeps.vacant;
        capacity = omega (arith, inserted.inserts.capacity, kept.keeps.capacity);
        limit = inserted.inserts.limit ∙ kept.keeps.limit;
      };
      stays = stays_on IsKeyed old room new kept.stays inserted.stays;
    }
