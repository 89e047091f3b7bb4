-- What a caller may cite for its own proof after a change: what lookups by either key find then, and the number of items.
--     after_changes      the lemmas for an insertion and a removal
--     after_writes      those for a guard's write
--     same_number      a number equals itself
--     text_apart, text_beside, text_differs      a key of another text fails the test
--     find_beside_taken      after one item was removed, what is found beside it
--     find_unmet      after `insert_overwrite`, an item that shares neither key with the new one
--     others_at_slot, read_at_slot      after a write to a slot, what is found beside its item, and that item
--     both_keys_kept      a write under the same keys leaves the map keyed
use Rattle.std.proofs.Common.{◌≡◌, ℕ, Bool, true, false, not, nat_eq, List, Some, find, refl, sym}
use Rattle.std.proofs.lemmas.Bool.{eq-eqb}
use Rattle.iddqd_store.specs.Contents.{AddsItem}
use Rattle.iddqd_bi_hash.specs.TwoKeys.{has_one_of_keys, items_unmet}
pub use Rattle.iddqd_store.proofs.ChangeLemmas.{find_beside_inserted, find_inserted, find_removed, find_replaced, found_passes, length_inserted, length_replaced, same_text, still_absent_put, still_absent_removed, still_found_put, still_found_removed, sum_inserted, sum_retained, text_apart, text_beside, text_differs}
pub use Rattle.iddqd_store.proofs.WrittenLemmas.{others_at_slot, read_at_slot}
pub use Rattle.iddqd_bi_hash.proofs.GuardLemmas.{both_keys_kept}

pub same_number : (n : ℕ) → nat_eq n n ≡ true
same_number n = eq-eqb n n refl

-- with x inserted again, the items are the old ones
pub find_beside_taken : {T : Type 0} (p : T → Bool) (old new : List T) (x : T) → AddsItem x new old → p x ≡ false → find p new ≡ find p old
find_beside_taken p old new x adds fails = sym (find_beside_inserted p new old x adds fails)

-- x was put beside the items that have none of its keys
pub find_unmet : {T K L : Type 0} (key1 : T → K) (key2 : T → L) (eq1 : K → K → Bool) (eq2 : L → L → Bool) (p : T → Bool) (old new : List T) (x y : T) → AddsItem x (items_unmet key1 key2 eq1 eq2 x old) new → find p old ≡ Some y → p x ≡ false → eq1 (key1 x) (key1 y) ≡ false → eq2 (key2 x) (key2 y) ≡ false → find p new ≡ Some y
find_unmet key1 key2 eq1 eq2 p old new x y adds found fails one other = still_found_put p (λ z. not (has_one_of_keys key1 key2 eq1 eq2 x z)) old new x y adds found (rw one (rw other refl)) fails

pub ruleset after_changes = (same_text, found_passes, find_inserted, find_beside_inserted, find_removed, find_beside_taken, find_unmet, still_absent_put, length_inserted, text_apart, text_beside, text_differs)

pub ruleset after_writes = (same_text, same_number, found_passes, others_at_slot, read_at_slot, both_keys_kept, text_apart, text_beside, text_differs)
