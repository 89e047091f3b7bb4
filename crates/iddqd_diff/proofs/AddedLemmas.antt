-- What the differences say of new items that were all added.
--     none_old, all_new, none_removed, all_added      none of them is an old item, or a removed one; all are new, and added
--     added_akin      no two items are kept
--     all_lacking      an empty list lacks all items
use Rattle.std.proofs.Common.{◌≡◌, Bool, List, [], ◌∷◌, filter, map, filter_map, refl, ap}
use Rattle.std.proofs.lemmas.List.Elements.{All-nil, All-cons}
use Rattle.std.specs.List.{All}
use Rattle.iddqd_diff.specs.declared.difference.Difference.TheVariants.{Added}
use Rattle.iddqd_diff.specs.Difference.{added_item, IsAkin, lacks, new_item, old_item, removed_item}

module _ {T : Type 0} where
  pub none_old : (new : List T) → filter_map old_item (map Added new) ≡ []
  none_old [] = refl
  none_old (y ∷ new) = none_old new

  pub all_new : (new : List T) → filter_map new_item (map Added new) ≡ new
  all_new [] = refl
  all_new (y ∷ new) = ap (λ ys. y ∷ ys) (all_new new)

  pub none_removed : (new : List T) → filter_map removed_item (map Added new) ≡ []
  none_removed [] = refl
  none_removed (y ∷ new) = none_removed new

  pub all_added : (new : List T) → filter_map added_item (map Added new) ≡ new
  all_added [] = refl
  all_added (y ∷ new) = ap (λ ys. y ∷ ys) (all_added new)

module _ {T K : Type 0} (key : T → K) (eq : K → K → Bool) where
  pub added_akin : (new : List T) → All (IsAkin key eq) (map Added new)
  added_akin [] = All-nil (IsAkin key eq)
  added_akin (y ∷ new) = All-cons (IsAkin key eq) (Added y) (map Added new) tt (added_akin new)

  pub all_lacking : (new : List T) → filter (lacks key eq []) new ≡ new
  all_lacking [] = refl
  all_lacking (y ∷ new) = ap (λ ys. y ∷ ys) (all_lacking new)
