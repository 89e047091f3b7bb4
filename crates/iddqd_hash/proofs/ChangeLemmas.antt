-- What a caller finds after a removal from a hash map.
--     hash_sum_removed, hash_sum_taken      the sum of a weight: that of the item that was removed has left it
use Rattle.std.proofs.Common.{◌≡◌, ℕ, ◌+◌, Option, Some}
use Rattle.std.specs.List.{sum_by}
use Rattle.std.specs.Option.{option_map, unwrap_or}
use Rattle.iddqd_store.proofs.ChangeLemmas.{sum_removed, sum_taken}
use Rattle.iddqd_store.specs.Holding.{Removes}
use Rattle.iddqd_hash_parts.specs.HashItems.{HashItems, holding_of}

pub hash_sum_removed : {S T : Type 0} (f : T → ℕ) (found : Option T) (old new : HashItems S T) → Removes found (holding_of old) (holding_of new) → sum_by f new.items + unwrap_or (option_map f found) 0 ≡ sum_by f old.items
hash_sum_removed f found old new removes = sum_removed f found (holding_of old) (holding_of new) removes

pub hash_sum_taken : {S T : Type 0} (f : T → ℕ) (found : Option T) (x : T) (old new : HashItems S T) → Removes found (holding_of old) (holding_of new) → found ≡ Some x → sum_by f new.items + f x ≡ sum_by f old.items
hash_sum_taken f found x old new removes is = sum_taken f found x (holding_of old) (holding_of new) removes is
