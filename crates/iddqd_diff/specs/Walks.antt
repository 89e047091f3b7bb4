-- What the walks over two maps see as the differences to come. No contract cites these.
--     with_next      the items of a walk whose next one is at hand
--     merged      the differences of two lists that ascend, by a merge
--     beside, looked_up      an old item and the new one of its key; the differences of two lists, by lookups
use Rattle.std.specs.Borrow.{Bor}
use Rattle.std.specs.declared.cmp.Ordering.{Ordering}
use Rattle.std.specs.Prelude.{Bool, List, [], ◌∷◌, ◌++◌, filter, map, Option, Some, None}
use Rattle.std.specs.Ordering.{match_ordering}
use Rattle.iddqd.specs.Contents.{find_item}
use Rattle.iddqd_diff.specs.Difference.{lacks}
use Rattle.iddqd_diff.specs.declared.difference.Difference.{Difference}
use Rattle.iddqd_diff.specs.declared.difference.Difference.TheVariants.{Removed, Added, Kept}

-- the next item, and those behind it
abbrev pub with_next : {T : Type 0} → Option (Bor T) → List T → List T
with_next None rest = rest
with_next (Some x) rest = x.now ∷ rest

-- an old item, and the new one that was found by its key
abbrev pub paired : {T : Type 0} → T → Option T → Difference T T
paired x None = Removed x
paired x (Some y) = Kept x y

module _ {T K : Type 0} (key : T → K) where
  module _ (eq : K → K → Bool) (all_old all_new : List T) where
    -- an old item, and the one of its key among all new ones
    abbrev pub beside : T → Difference T T
    beside x = paired x (find_item key (eq (key x)) all_new)

    -- the differences of the old and new items that are to come
    abbrev pub looked_up : List T → List T → List (Difference T T)
    looked_up old new = map beside old ++ map Added (filter (lacks key eq all_old) new)

  module _ (cmp : K → K → Ordering) where
    -- the old item x among the new ones: those below it, itself, and what is behind it
    abbrev pub merged_from : T → (List T → List (Difference T T)) → List T → List (Difference T T)
    merged_from x behind [] = Removed x ∷ behind []
    merged_from x behind (y ∷ new) = match_ordering (cmp (key x) (key y)) (Removed x ∷ behind (y ∷ new)) (Kept x y ∷ behind new) (Added y ∷ merged_from x behind new)

    -- the differences of two lists that ascend
    abbrev pub merged : List T → List T → List (Difference T T)
    merged [] new = map Added new
    merged (x ∷ old) new = merged_from x (merged old) new
