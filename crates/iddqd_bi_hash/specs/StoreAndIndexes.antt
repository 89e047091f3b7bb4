-- How the store and the two indexes of a hash map of two keys belong together, and what they hold as lists.
--     beside pairs i j      these pairs, with the room that both indexes have
--     spare_in_both      how many new items fit without memory: in both indexes, in the store, and within the limit
--     room_in_both      how many items fit in all
--     bi_map_of, empty_bi_map_of      what a contract sees of a map of these
--     ArePaired      either index lists exactly the occupied slots
use Rattle.std.specs.Prelude.{ℕ, ◌+◌, [], List, min}
use Rattle.iddqd_hash_index.specs.HashPairs.{HashPairs}
use Rattle.iddqd_store.specs.Store.{Store, store_len, vacant}
use Rattle.iddqd_hash_parts.specs.StoreAndIndex.{PairsOccupied, hashes_in, items_in, slots_in, spare_in}
use Rattle.iddqd_bi_hash.specs.BiHashItems.{BiHashItems}

abbrev pub beside : List (ℕ × ℕ) → HashPairs → HashPairs → HashPairs
beside pairs i j = record { pairs = pairs; spare = min i.spare j.spare }

module _ {T : Type 0} where
  abbrev pub spare_in_both : Store T → HashPairs → HashPairs → ℕ
  spare_in_both store i j = spare_in store (beside i.pairs i j)

  -- the number of items, and of those that are spare
  abbrev pub room_in_both : Store T → HashPairs → HashPairs → ℕ
  room_in_both store i j = spare_in_both store i j + store_len store

  abbrev pub bi_map_of : {S : Type 0} → Store T → HashPairs → HashPairs → S → BiHashItems S T
  bi_map_of store i j hasher = record {
    items = items_in store;
    slots = slots_in store;
    hashes1 = hashes_in store i.pairs;
    hashes2 = hashes_in store j.pairs;
    hasher = hasher;
    spare = spare_in_both store i j;
    vacant = vacant store;
    capacity = store.capacity;
    limit = store.limit;
  }

  -- a map of these, if the store has no slot and the indexes no pair
  abbrev pub empty_bi_map_of : {S : Type 0} → Store T → HashPairs → HashPairs → S → BiHashItems S T
  empty_bi_map_of store i j hasher = record {
    items = [];
    slots = [];
    hashes1 = [];
    hashes2 = [];
    hasher = hasher;
    spare = min (min i.spare j.spare) (min store.capacity store.limit);
    vacant = 0;
    capacity = store.capacity;
    limit = store.limit;
  }

  pub record ArePaired (store : Store T) (ps qs : List (ℕ × ℕ)) : Type 0 where
    pub one : PairsOccupied store ps
    pub other : PairsOccupied store qs
