-- What a caller of a guard or an entry may name for its own proof, of either map.
--     read_back, others_written      what was written is there, and the other items are as they were
--     written_twice      a second write leaves what it alone would
--     keys_written, same_key_kept      a write under the same key leaves the keys, and the items of an ordered map ascend still
--     hash_key_kept      ... and a hash map is keyed still
--     others_at_slot, read_at_slot      after a write a lookup finds what it found, or what was written
--     sum_at_slot, slot_in_sum      the sum of a weight after a write; it is no less than that of a slot's item
pub use Rattle.iddqd_store.proofs.WrittenLemmas.{keys_written, others_at_slot, others_written, read_at_slot, read_back, same_key_kept, slot_in_sum, sum_at_slot, written_twice}
pub use Rattle.iddqd_hash.proofs.GetMutLemmas.{hash_key_kept}
