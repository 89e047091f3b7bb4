-- Lists that have the same keys.
--     same_keys      the old and the new items, if none was removed and none added
--     in_some_order, order_of      the order in which the keys are equal, place by place
--     clones_have_equal_keys, clones_have_equal_keys_in_some_order      items, and clones of them
--     keys_of_clones      both: what `apply` asks of a map that was cloned
use Rattle.std.proofs.Common.{◌≡◌, Bool, List, [], ◌∷◌, filter_map}
use Rattle.std.proofs.lemmas.List.Elements.{All-head, All-tail}
use Rattle.std.proofs.lemmas.List.Sorted.{IsPermutation-refl}
use Rattle.std.specs.List.{All, AllZip}
use Rattle.std.specs.List.Sorted.{IsPermutation}
use Rattle.iddqd.specs.Contents.{ClonesKeepKeys}
use Rattle.iddqd_diff.specs.Applying.{HaveEqualKeys, HaveEqualKeysInSomeOrder}
use Rattle.iddqd_diff.specs.declared.difference.Difference.{Difference}
use Rattle.iddqd_diff.specs.declared.difference.Difference.TheVariants.{Removed, Added, Kept}
use Rattle.iddqd_diff.specs.Difference.{added_item, IsAkin, new_item, old_item, removed_item}

module _ {T K : Type 0} (key : T → K) (eq : K → K → Bool) where
  pub same_keys : (ds : List (Difference T T)) → filter_map removed_item ds ≡ [] → filter_map added_item ds ≡ [] → All (IsAkin key eq) ds → HaveEqualKeys key eq (filter_map old_item ds) (filter_map new_item ds)
  unfolding HaveEqualKeys
  same_keys [] r a akin = tt
  same_keys (Removed x ∷ ds) r a akin = absurd (cc)
  same_keys (Added y ∷ ds) r a akin = absurd (cc)
  same_keys (Kept x y ∷ ds) r a akin = (All-head (IsAkin key eq) (Kept x y) ds akin, same_keys ds r a (All-tail (IsAkin key eq) (Kept x y) ds akin))

  pub clones_have_equal_keys : (made : T → T → Type 0) (xs ys : List T) → AllZip made xs ys → ClonesKeepKeys key eq made → HaveEqualKeys key eq xs ys
  unfolding HaveEqualKeys
  clones_have_equal_keys made [] [] z keeps = tt
  clones_have_equal_keys made [] (y ∷ ys) z keeps = absurd z
  clones_have_equal_keys made (x ∷ xs) [] z keeps = absurd z
  clones_have_equal_keys made (x ∷ xs) (y ∷ ys) z keeps = (keeps x y z.0, clones_have_equal_keys made xs ys z.1 keeps)

  pub in_some_order : (one other moved : List T) → IsPermutation moved other → HaveEqualKeys key eq one moved → HaveEqualKeysInSomeOrder key eq one other
  unfolding HaveEqualKeysInSomeOrder
  in_some_order one other moved p z = (moved, p, z)

  pub order_of : (one other : List T) → HaveEqualKeysInSomeOrder key eq one other → (moved : List T) × IsPermutation moved other × HaveEqualKeys key eq one moved
  unfolding HaveEqualKeysInSomeOrder
  order_of one other keys = keys

  pub clones_have_equal_keys_in_some_order : (made : T → T → Type 0) (xs ys : List T) → AllZip made xs ys → ClonesKeepKeys key eq made → HaveEqualKeysInSomeOrder key eq xs ys
  clones_have_equal_keys_in_some_order made xs ys z keeps = in_some_order xs ys ys (IsPermutation-refl ys) (clones_have_equal_keys made xs ys z keeps)

-- what `apply` asks of a map that was cloned, of either kind
pub ruleset keys_of_clones = (clones_have_equal_keys, clones_have_equal_keys_in_some_order)
