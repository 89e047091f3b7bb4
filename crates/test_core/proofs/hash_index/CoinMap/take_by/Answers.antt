use Rattle.std.proofs.Common.{◌≡◌, ℕ, Option, Some, None, IfNone, IfSome, subst}
use Rattle.std.specs.List.{Contains}
use Rattle.iddqd_hash_index.specs.HashPairs.{HashPairs, HasOneMore}
use Rattle.iddqd_hash_index.proofs.PairLemmas.{contains-removed}
use Rattle.test_core.proofs.hash_index.CoinMap.take_by.Goals as goal

-- what is left was there
was_listed : (old new : HashPairs) (hash : ℕ) (p : ℕ × ℕ) (found : Option ℕ) → IfSome found (λ slot. HasOneMore new.pairs old.pairs (hash, slot)) → IfNone found (new ≡ old) → Contains new.pairs p → Contains old.pairs p
was_listed old new hash p (Some slot) removed kept held = contains-removed old.pairs new.pairs (hash, slot) p removed held
was_listed old new hash p None removed kept held = subst (λ index. Contains index.pairs p) kept held

pub remove_by_key-slot-requires : goal.remove_by_key-slot-requires
remove_by_key-slot-requires c = record { occupied = c.self.invariant c.args.hash }

pub invariant_of-self : goal.invariant_of-self
invariant_of-self c = λ hash slot held.
    c.self.invariant hash slot (was_listed c.self.inside.index c.remove_by_key-slot.new.self c.args.hash (hash, slot) c.remove_by_key-slot.result c.remove_by_key-slot.ensures.pairs c.remove_by_key-slot.ensures.unchanged held)
