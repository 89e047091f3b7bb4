-- What a caller may cite for its own proof after a change of either map: what a lookup finds then, the number of items, and
-- the sum of a weight.
--     after_changes      all of them, and those of guards; alone, of a lookup by a test p of the items:
--     find_inserted, find_beside_inserted      the item that was inserted, and any other
--     find_removed, find_beside_removed      the item that was removed, and any other
--     still_found_removed, still_absent_removed      where some were left out, one that was found and stays, and one that was not found
--     find_replaced      the item that stands in the place of another
--     still_found_put, still_absent_put      after `insert_overwrite` an item that was found besides, and one that was not
--     found_passes      what is found passes the test
--     same_text      a text equals itself
--     text_apart, text_beside, text_differs      a key of one text is not another
--     key_apart, key_beside      the same of a key of one's own, by the laws of its `Eq`
--     length_inserted, length_replaced, length_removed      how many items there are
--     sum_inserted, sum_removed, hash_sum_removed, sum_retained      the sum of a weight
--     sum_taken, hash_sum_taken      ... after a removal, by the item that was returned
--     found_in_sum, slot_in_sum      it is no less than the weight of an item that is found, or of a slot's
--     kept_in_place      what `retain_mut` leaves, if the visitor stays as it is
use Rattle.iddqd_store.proofs.ChangeLemmas.{after_changes as of_lists}
pub use Rattle.iddqd_store.proofs.ChangeLemmas.{find_beside_inserted, find_beside_removed, find_inserted, find_removed, find_replaced, found_in_sum, found_passes, kept_in_place, key_apart, key_beside, length_inserted, length_removed, length_replaced, same_text, still_absent_put, still_absent_removed, still_found_put, still_found_removed, sum_inserted, sum_removed, sum_retained, sum_taken, text_apart, text_beside, text_differs}
pub use Rattle.iddqd_hash.proofs.ChangeLemmas.{hash_sum_removed, hash_sum_taken}
use Rattle.iddqd.proofs.GuardLemmas.{hash_key_kept, others_at_slot, read_at_slot, same_key_kept, slot_in_sum, sum_at_slot}

pub ruleset after_changes = (of_lists, hash_sum_removed, hash_sum_taken, others_at_slot, read_at_slot, sum_at_slot, slot_in_sum, hash_key_kept, same_key_kept)
