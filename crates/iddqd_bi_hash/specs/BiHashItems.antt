-- What a contract sees of a hash map of two keys.
--     BiHashItems      the items, each with its slot and its two stored hashes, the hasher, and the numbers
--     holding_of      what it has in common with other maps
--     by_key1, by_key2      the same map, seen as one of one key
--     KeyedByBoth      by either key, no two items have equal keys, and each stored hash is that of its item's key
--     IsKeyedByBoth      the same, as contracts say it: a caller's proof passes it on as one fact, and does not look inside
--     IsKeyedByTexts, IsKeyedByTextAndNumber, IsKeyedByNumberAndText      the same of such keys, with the default hasher
--     IsKeyedByTextsUnder, IsKeyedByTextAndNumberUnder, IsKeyedByNumberAndTextUnder      ... with the hasher of this hash
--     differ_by_key1, differ_by_key2      in a keyed map no two items have equal first keys, or equal second keys
use Rattle.std.specs.Prelude.{ℕ, Bool, List, String, nat_eq}
use Rattle.std.specs.Hash.{HashWrites}
use Rattle.std.specs.String.{string_eq}
use Rattle.std.specs.declared.alloc.Global.{Global}
use Rattle.std.specs.declared.hash.BuildHasherDefault.{BuildHasherDefault}
use Rattle.std.specs.declared.hash.FoldHasher.{FoldHasher}
use Rattle.iddqd_store.specs.Contents.{NoTwoAkin}
use Rattle.iddqd_store.specs.Holding.{Holding}
use Rattle.iddqd_hash_parts.specs.HashItems.{HashItems, KeyedItems, text_writes}
pub use Rattle.iddqd_hash_parts.specs.HashItems.{default_hash, random_hash}

-- The items, in the order of their slots, which a caller cannot rely on. In the same order, the slots, and the hashes that are stored
-- for the first and for the second keys. The hasher, how many new items are accepted without a refusal, how many slots are vacant,
-- how many items fit before memory is needed, and the most items that the map can hold.
pub record BiHashItems (S T : Type 0) : Type 0 where
  pub items : List T
  pub slots : List ℕ
  pub hashes1 : List ℕ
  pub hashes2 : List ℕ
  pub hasher : S
  pub spare : ℕ
  pub vacant : ℕ
  pub capacity : ℕ
  pub limit : ℕ

module _ {S T : Type 0} where
  abbrev pub holding_of : BiHashItems S T → Holding T
  holding_of m = record { items = m.items; slots = m.slots; vacant = m.vacant; capacity = m.capacity; limit = m.limit }

  abbrev pub by_key1 : BiHashItems S T → HashItems S T
  by_key1 m = record {
    items = m.items;
    slots = m.slots;
    hashes = m.hashes1;
    hasher = m.hasher;
    spare = m.spare;
    vacant = m.vacant;
    capacity = m.capacity;
    limit = m.limit;
  }

  abbrev pub by_key2 : BiHashItems S T → HashItems S T
  by_key2 m = record (by_key1 m) { hashes = m.hashes2 }

  module _ {K L : Type 0} (key1 : T → K) (key2 : T → L) (eq1 : K → K → Bool) (eq2 : L → L → Bool) (input1 : K → HashWrites) (input2 : L → HashWrites) (hash : S → HashWrites → ℕ) where
    -- the inputs are what a key writes to a hasher, and hash is the hasher's hash of that
    pub record KeyedByBoth (m : BiHashItems S T) : Type 0 where
      pub one : KeyedItems key1 eq1 input1 hash (by_key1 m)
      pub other : KeyedItems key2 eq2 input2 hash (by_key2 m)

    -- closed, so that a search takes it whole
    unfoldable pub IsKeyedByBoth : (m : BiHashItems S T) → Type 0
    IsKeyedByBoth m = KeyedByBoth m

    pub differ_by_key1 : (m : BiHashItems S T) → IsKeyedByBoth m → NoTwoAkin key1 eq1 m.items
    unfolding IsKeyedByBoth
    differ_by_key1 m keyed = keyed.one.differ

    pub differ_by_key2 : (m : BiHashItems S T) → IsKeyedByBoth m → NoTwoAkin key2 eq2 m.items
    unfolding IsKeyedByBoth
    differ_by_key2 m keyed = keyed.other.differ

-- keyed by both keys, which are texts or numbers, with the hasher of this hash: *random_hash* for a `RandomState`. The writes are what the
-- type of the number writes to a hasher, as `u64` of std's `Hash`. For any other key cite *IsKeyedByBoth*, or `Keyed`
module _ {S T : Type 0} (hash : S → HashWrites → ℕ) where
  abbrev pub IsKeyedByTextsUnder : (key1 key2 : T → String Global) → BiHashItems S T → Type 0
  IsKeyedByTextsUnder key1 key2 m = IsKeyedByBoth key1 key2 string_eq string_eq text_writes text_writes hash m

  abbrev pub IsKeyedByTextAndNumberUnder : (ℕ → HashWrites) → (T → String Global) → (T → ℕ) → BiHashItems S T → Type 0
  IsKeyedByTextAndNumberUnder writes key1 key2 m = IsKeyedByBoth key1 key2 string_eq nat_eq text_writes writes hash m

  abbrev pub IsKeyedByNumberAndTextUnder : (ℕ → HashWrites) → (T → ℕ) → (T → String Global) → BiHashItems S T → Type 0
  IsKeyedByNumberAndTextUnder writes key1 key2 m = IsKeyedByBoth key1 key2 nat_eq string_eq writes text_writes hash m

-- the same with the default hasher
module _ {T : Type 0} where
  abbrev pub IsKeyedByTexts : (key1 key2 : T → String Global) → BiHashItems (BuildHasherDefault FoldHasher) T → Type 0
  IsKeyedByTexts key1 key2 m = IsKeyedByTextsUnder default_hash key1 key2 m

  abbrev pub IsKeyedByTextAndNumber : (ℕ → HashWrites) → (T → String Global) → (T → ℕ) → BiHashItems (BuildHasherDefault FoldHasher) T → Type 0
  IsKeyedByTextAndNumber writes key1 key2 m = IsKeyedByTextAndNumberUnder default_hash writes key1 key2 m

  abbrev pub IsKeyedByNumberAndText : (ℕ → HashWrites) → (T → ℕ) → (T → String Global) → BiHashItems (BuildHasherDefault FoldHasher) T → Type 0
  IsKeyedByNumberAndText writes key1 key2 m = IsKeyedByNumberAndTextUnder default_hash writes key1 key2 m
