-- What a caller of a guard may name for its own proof.
--     read_back, others_written      what was written is there, and the other items are as they were
--     written_twice      a second write leaves what it alone would
--     both_keys_kept      a write under the same keys leaves the map keyed
use Rattle.std.proofs.Common.{◌≡◌, ℕ, Bool, Some}
use Rattle.std.specs.Hash.{HashWrites}
use Rattle.iddqd_store.specs.SlotItems.{item_of_slot, written_to_slot}
use Rattle.iddqd_hash_parts.specs.HashItems.{IsKeyed}
use Rattle.iddqd_hash_parts.proofs.GetMutLemmas.{hash_key_kept}
use Rattle.iddqd_bi_hash.specs.BiHashItems.{BiHashItems, IsKeyedByBoth, by_key1, by_key2}
pub use Rattle.iddqd_store.proofs.WrittenLemmas.{others_written, read_back, written_twice}

pub both_keys_kept : {S T K L : Type 0} (key1 : T → K) (key2 : T → L) (eq1 : K → K → Bool) (eq2 : L → L → Bool) (input1 : K → HashWrites) (input2 : L → HashWrites) (hash : S → HashWrites → ℕ) (m : BiHashItems S T) (slot : ℕ) (x w : T) → item_of_slot m.slots m.items slot ≡ Some x → key1 w ≡ key1 x → key2 w ≡ key2 x → IsKeyedByBoth key1 key2 eq1 eq2 input1 input2 hash m → IsKeyedByBoth key1 key2 eq1 eq2 input1 input2 hash (record m { items = written_to_slot m.slots m.items slot w })
unfolding IsKeyedByBoth IsKeyed
both_keys_kept key1 key2 eq1 eq2 input1 input2 hash m slot x w there same1 same2 keyed = record {
  one = hash_key_kept key1 eq1 input1 hash (by_key1 m) slot x w there same1 keyed.one;
  other = hash_key_kept key2 eq2 input2 hash (by_key2 m) slot x w there same2 keyed.other;
}
