use Rattle.std.proofs.Common.{◌≡◌, length}
use Rattle.std.specs.Prelude.{⊤}
use Rattle.std.specs.List.Sorted.{IsPermutation}
use Rattle.iddqd.specs.Hashing.{hash_under}
use Rattle.iddqd.specs.IdHashMap.{IsKeyed}
use Rattle.iddqd_diff.specs.Applying.{IsUnderway}
use Rattle.iddqd_diff.proofs.id_hash_map.applying.apply.Given as goal

abbrev pub invariant-loop-difference : goal.invariant-loop-difference
invariant-loop-difference g l =
    IsKeyed g.T.IdHashItem.key g.T.Key.PartialEq.eq g.T.Key.Hash.hash_input (hash_under g.R.BuildHasher g.R.Hasher.Hasher) l.map ×
    (l.map.limit ≡ l.fn.map.limit) ×
    IsUnderway g.T.IdHashItem.key g.T.Key.PartialEq.eq g.T.Clone.is_clone IsPermutation (λ _. ⊤) l.fn.before.items l.fn.after.items l.fn.map.items l.map.items l.differences

abbrev pub decreases-loop-difference : goal.decreases-loop-difference
decreases-loop-difference g l = length l.differences
