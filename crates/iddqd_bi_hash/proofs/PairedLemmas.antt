-- A hash map of two keys, told by what its store and its two indexes hold. Each fact is that of a map of one key, twice.
--     listed1, listed2      in a keyed map each item's slot is listed with the hash of the item's key
--     make_keyed_by_both      it is keyed where they are so listed, and the keys differ
--     both_same, keyed_same      where each slot has what it had, they belong together still, and the map is keyed still
--     keyed_room      so it is where the pairs stand in another order
--     last_listed1, last_listed2, moved_both, moved_keyed      ... and where the last item moves into a vacant slot
--     both_room      what moved items leave of the room
--     moves_on      items have moved twice
--     keyed_copied      so is a map of clones that keep their keys
--     least_room      how many items fit in all
use Rattle.std.proofs.Common.{◌≡◌, ℕ, ◌+◌, ◌-◌, ◌≤◌, min, Bool, true, Some, IsPermutation, sym, ap, ◌∙◌, arith, subst}
use Rattle.std.proofs.lemmas.List.Sorted.{IsPermutation-trans}
use Rattle.std.specs.Hash.{HashWrites}
use Rattle.std.specs.List.{Contains}
use Rattle.std.specs.Cmp.{IsEquivalence}
use Rattle.iddqd_store.specs.Contents.{ClonesKeepKeys, NoTwoAkin}
use Rattle.iddqd_store.specs.Store.{Store, IsStoreClone, MovesLast, SameItems, item_at, store_len}
use Rattle.iddqd_store.proofs.OrderLemmas.{differ_moved}
use Rattle.iddqd_hash_index.specs.HashPairs.{HasInstead, HashPairs, SamePairs}
use Rattle.iddqd_hash_parts.specs.StoreAndIndex.{AreListedUnder, MovesItems, items_in}
use Rattle.iddqd_hash_parts.proofs.CloneLemmas.{copied_keyed}
use Rattle.iddqd_hash_parts.proofs.CompactLemmas.{last_listed, moved_items, moved_paired, moved_under, paired_same, under_kept}
use Rattle.iddqd_hash_parts.proofs.MapLemmas.{keyed_under, make_keyed}
use Rattle.iddqd_hash_parts.proofs.SlotItemLemmas.{same_items}
use Rattle.iddqd_hash_parts.proofs.StoreAndIndexLemmas.{under_same}
use Rattle.iddqd_bi_hash.specs.BiHashItems.{IsKeyedByBoth}
use Rattle.iddqd_bi_hash.specs.StoreAndIndexes.{ArePaired, beside, bi_map_of, room_in_both}

pub least_room : (m a b r n a' b' r' : ℕ) → min m (min a r + n) ≤ min a' r' + n → min m (b + n) ≤ b' + n → min m (min (min a b) r + n) ≤ min (min a' b') r' + n
least_room m a b r n a' b' r' one other = omega (arith, one, other)

pub both_room : {T : Type 0} (old new : Store T) (i j i' j' : HashPairs) → MovesItems old new i i' → MovesItems old new j j' → room_in_both new i' j' ≡ room_in_both old i j
both_room old new i j i' j' moves1 moves2 =
    let room : min (new.capacity - store_len new) (new.limit - store_len new) ≡ min (old.capacity - store_len old) (old.limit - store_len old) = ap (λ n. min (new.capacity - n) (new.limit - n)) moves1.len ∙ ap (λ c. min (c - store_len old) (new.limit - store_len old)) moves1.bounds.capacity ∙ ap (λ l. min (old.capacity - store_len old) (l - store_len old)) moves1.bounds.limit in
    ap (λ n. min (min n j'.spare) (min (new.capacity - store_len new) (new.limit - store_len new)) + store_len new) moves1.spare
    ∙ ap (λ n. min (min i.spare n) (min (new.capacity - store_len new) (new.limit - store_len new)) + store_len new) moves2.spare
    ∙ ap (λ r. min (min i.spare j.spare) r + store_len new) room
    ∙ ap (λ n. min (min i.spare j.spare) (min (old.capacity - store_len old) (old.limit - store_len old)) + n) moves1.len

pub moves_on : {T : Type 0} (old between new : Store T) (i j k : HashPairs) → MovesItems old between i j → MovesItems between new j k → MovesItems old new i k
moves_on old between new i j k first then = record {
  items = IsPermutation-trans (items_in old) (items_in between) (items_in new) first.items then.items;
  len = then.len ∙ first.len;
  spare = then.spare ∙ first.spare;
  bounds = record { capacity = then.bounds.capacity ∙ first.bounds.capacity; limit = then.bounds.limit ∙ first.bounds.limit };
}

module _ {T : Type 0} (old new : Store T) (i j : HashPairs) (same : SameItems old new) where
  pub both_same : ArePaired old i.pairs j.pairs → store_len new ≡ store_len old → new.capacity ≡ old.capacity → new.limit ≡ old.limit → ArePaired new i.pairs j.pairs
  both_same paired len capacity limit = record {
    one = paired_same old new i.pairs same paired.one len capacity limit;
    other = paired_same old new j.pairs same paired.other len capacity limit;
  }

module _ {S T K L : Type 0} (key1 : T → K) (key2 : T → L) (eq1 : K → K → Bool) (eq2 : L → L → Bool) (input1 : K → HashWrites) (input2 : L → HashWrites) (hash : S → HashWrites → ℕ) (hasher : S) where
  abbrev tell1 : T → ℕ
  tell1 x = hash hasher (input1 (key1 x))

  abbrev tell2 : T → ℕ
  tell2 x = hash hasher (input2 (key2 x))

  pub make_keyed_by_both : (store : Store T) (i j : HashPairs) → NoTwoAkin key1 eq1 (items_in store) → NoTwoAkin key2 eq2 (items_in store) → AreListedUnder tell1 store i.pairs → AreListedUnder tell2 store j.pairs → IsKeyedByBoth key1 key2 eq1 eq2 input1 input2 hash (bi_map_of store i j hasher)
  unfolding IsKeyedByBoth
  make_keyed_by_both store i j differ1 differ2 under1 under2 = record {
    one = make_keyed key1 eq1 input1 hash hasher store (beside i.pairs i j) differ1 under1;
    other = make_keyed key2 eq2 input2 hash hasher store (beside j.pairs i j) differ2 under2;
  }

  module _ (store : Store T) (i j : HashPairs) (keyed : IsKeyedByBoth key1 key2 eq1 eq2 input1 input2 hash (bi_map_of store i j hasher)) where
    pub listed1 : AreListedUnder tell1 store i.pairs
    unfolding IsKeyedByBoth
    listed1 = keyed_under key1 eq1 input1 hash hasher store (beside i.pairs i j) keyed.one

    pub listed2 : AreListedUnder tell2 store j.pairs
    unfolding IsKeyedByBoth
    listed2 = keyed_under key2 eq2 input2 hash hasher store (beside j.pairs i j) keyed.other

    -- each slot has what it had
    pub keyed_same : (new : Store T) → SameItems store new → IsKeyedByBoth key1 key2 eq1 eq2 input1 input2 hash (bi_map_of new i j hasher)
    unfolding IsKeyedByBoth
    keyed_same new same =
        let items = same_items new.slots store.slots same in
        make_keyed_by_both new i j (subst (NoTwoAkin key1 eq1) (sym items) keyed.one.differ) (subst (NoTwoAkin key2 eq2) (sym items) keyed.other.differ)
        (under_kept store new i.pairs same tell1 listed1) (under_kept store new j.pairs same tell2 listed2)

    -- the slots are the same, and the pairs may stand in another order
    pub keyed_room : (new : Store T) (i' j' : HashPairs) → new.slots ≡ store.slots → SamePairs i.pairs i'.pairs → SamePairs j.pairs j'.pairs → IsKeyedByBoth key1 key2 eq1 eq2 input1 input2 hash (bi_map_of new i' j' hasher)
    unfolding IsKeyedByBoth
    keyed_room new i' j' slots same1 same2 =
        let items = ap (λ s. items_in (record new { slots = s })) slots in
        make_keyed_by_both new i' j' (subst (NoTwoAkin key1 eq1) (sym items) keyed.one.differ) (subst (NoTwoAkin key2 eq2) (sym items) keyed.other.differ)
        (under_same tell1 store new i.pairs i'.pairs listed1 slots same1) (under_same tell2 store new j.pairs j'.pairs listed2 slots same2)

    -- the item of the last slot moves into a vacant one
    module _ (paired : ArePaired store i.pairs j.pairs) (last : ℕ) (x : T) (there : item_at store last ≡ Some x) where
      pub last_listed1 : Contains i.pairs (tell1 x, last)
      last_listed1 = last_listed tell1 store i.pairs paired.one listed1 last x there

      pub last_listed2 : Contains j.pairs (tell2 x, last)
      last_listed2 = last_listed tell2 store j.pairs paired.other listed2 last x there

      module _ (new : Store T) (hole : ℕ) (i' j' : HashPairs) (moves : MovesLast store.slots new.slots last hole) (instead1 : HasInstead i.pairs i'.pairs (tell1 x, last) (tell1 x, hole)) (instead2 : HasInstead j.pairs j'.pairs (tell2 x, last) (tell2 x, hole)) where
        pub moved : IsPermutation (items_in store) (items_in new)
        moved = moved_items tell1 store new i.pairs i'.pairs paired.one listed1 last hole x there moves

        module _ (len : store_len new ≡ store_len store) (capacity : new.capacity ≡ store.capacity) (limit : new.limit ≡ store.limit) where
          pub moved_both : ArePaired new i'.pairs j'.pairs
          moved_both = record {
            one = moved_paired tell1 store new i.pairs i'.pairs paired.one listed1 last hole x there moves instead1 len capacity limit;
            other = moved_paired tell2 store new j.pairs j'.pairs paired.other listed2 last hole x there moves instead2 len capacity limit;
          }

          pub moved_keyed : IsEquivalence eq1 → IsEquivalence eq2 → IsKeyedByBoth key1 key2 eq1 eq2 input1 input2 hash (bi_map_of new i' j' hasher)
          unfolding IsKeyedByBoth
          moved_keyed laws1 laws2 =
              make_keyed_by_both new i' j' (differ_moved key1 laws1 (items_in store) (items_in new) moved keyed.one.differ) (differ_moved key2 laws2 (items_in store) (items_in new) moved keyed.other.differ)
              (moved_under tell1 store new i.pairs i'.pairs paired.one listed1 last hole x there moves instead1 len capacity limit)
              (moved_under tell2 store new j.pairs j'.pairs paired.other listed2 last hole x there moves instead2 len capacity limit)

    -- clones keep their keys, and the hasher's clone hashes as it does
    pub keyed_copied : (is_clone : T → T → Type 0) (copy : Store T) → IsStoreClone is_clone store copy → (i' j' : HashPairs) → SamePairs i.pairs i'.pairs → SamePairs j.pairs j'.pairs
        → IsEquivalence eq1 → IsEquivalence eq2 → ((a b : K) → eq1 a b ≡ true → input1 a ≡ input1 b) → ((a b : L) → eq2 a b ≡ true → input2 a ≡ input2 b) → ClonesKeepKeys key1 eq1 is_clone → ClonesKeepKeys key2 eq2 is_clone
        → (twin : S) → ((writes : HashWrites) → hash twin writes ≡ hash hasher writes) → IsKeyedByBoth key1 key2 eq1 eq2 input1 input2 hash (bi_map_of copy i' j' twin)
    unfolding IsKeyedByBoth
    keyed_copied is_clone copy clones i' j' same1 same2 laws1 laws2 respects1 respects2 keeps1 keeps2 twin alike = record {
      one = copied_keyed is_clone store copy clones (beside i.pairs i j) (beside i'.pairs i' j') same1 key1 input1 hash laws1 respects1 keeps1 hasher twin alike keyed.one;
      other = copied_keyed is_clone store copy clones (beside j.pairs i j) (beside j'.pairs i' j') same2 key2 input2 hash laws2 respects2 keeps2 hasher twin alike keyed.other;
    }
