-- What the kind of a refusal says of the items.
use Rattle.std.proofs.Common.{◌≡◌, ℕ, cond, eqb, List, length, ap}
use Rattle.iddqd_store.specs.Refusal.{limit_refused, memory_refused, refusal_kind}

-- the kind of a refusal is told by the number of items
pub kind_by_length : {X Y : Type 0} (limit : ℕ) (xs : List X) (ys : List Y) → length xs ≡ length ys → refusal_kind limit xs ≡ refusal_kind limit ys
kind_by_length limit xs ys e = ap (λ n. cond (eqb n limit) limit_refused memory_refused) e
