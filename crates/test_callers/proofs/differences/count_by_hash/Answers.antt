use Rattle.std.proofs.Common.{◌∙◌, ap, arith, filter_map, length}
use Rattle.std.proofs.lemmas.List.Sorted.{length_permutation}
use Rattle.iddqd_diff.specs.Difference.{new_item, old_item}
use Rattle.test_callers.proofs.differences.count_by_hash.Goals as goal

-- the items of a hash map's difference are the new map's in some order
pub loop-difference-init : goal.loop-difference-init
loop-difference-init c =
    let d = c.diff-difference-items.ensures in
    let h = c.into_iter-difference-iterator.ensures.into_iter_gives in (
      tt,
      tt,
      omega (arith, ap length (ap (filter_map old_item) h ∙ d.old)),
      omega (arith, ap (λ ds. length (filter_map new_item ds)) h, length_permutation (filter_map new_item c.diff-difference-items.result) c.args.after.now.items d.new),
      omega (arith, ap length h, d.fits),
    )
