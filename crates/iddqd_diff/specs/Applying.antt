-- What applying the differences of an old map and a new one leaves of a map of the old one's keys.
--     HaveEqualKeys, HaveEqualKeysInSomeOrder      the keys of two lists are equal, place by place
--     HaveSameKeys      each key of either list is one of the other
--     AreDifferences      what `diff` ensures of a list
--     IsUnderway      the first differences were applied, and these were not
--     AppliesFirstInOrder, AppliesFirstInSomeOrder      the same, of ordered maps; of hash maps
--     HoldsClones      in some order the items are clones of the others
--     PutsClone      a clone was inserted, or replaced the item of an equal key
--     AppliesOne      one difference was applied
--     IsFullAtLimit      a refusal by the limit comes only of a full map
use Rattle.std.specs.declared.cmp.Ordering.{Ordering}
use Rattle.std.specs.Prelude.{◌≡◌, ℕ, Bool, true, List, [], ◌++◌, All, IsSome, filter, length, map, ⊤}
use Rattle.std.specs.List.{AllZip, filter_map}
use Rattle.std.specs.List.Sorted.{IsPermutation, IsStrictlySortedBy}
use Rattle.iddqd.specs.Contents.{AddsItem, IsAbsent, find_item, items_overwritten, items_without}
use Rattle.iddqd.specs.Refusal.{RefusalKind, limit_refused}
use Rattle.iddqd_diff.specs.declared.difference.Difference.{Difference}
use Rattle.iddqd_diff.specs.declared.difference.Difference.TheVariants.{Removed, Added, Kept}
use Rattle.iddqd_diff.specs.Difference.{IsAkin, added_item, key_at, lacks, new_item, old_item, removed_item}

module _ {T K : Type 0} (key : T → K) (eq : K → K → Bool) where
  -- the keys of the two lists are equal, place by place; closed, so that a search takes it whole
  unfoldable pub HaveEqualKeys : List T → List T → Type 0
  HaveEqualKeys one other = AllZip (λ x y. eq (key x) (key y) ≡ true) one other

  -- the keys are equal, place by place, once the second list is put in some order; closed likewise
  unfoldable pub HaveEqualKeysInSomeOrder : List T → List T → Type 0
  HaveEqualKeysInSomeOrder one other = (moved : List T) × IsPermutation moved other × HaveEqualKeys one moved

  -- neither list has an item whose key the other lacks
  abbrev pub HaveSameKeys : List T → List T → Type 0
  HaveSameKeys one other = (filter (lacks key eq other) one ≡ []) × (filter (lacks key eq one) other ≡ [])

  -- what `diff` ensures of the differences of old and new items; lists have the same items by `same_items`
  pub record AreDifferences (same_items : List T → List T → Type 0) (in_order : List K → Type 0) (old new : List T) (ds : List (Difference T T)) : Type 0 where
    pub olds : filter_map old_item ds ≡ old
    pub news : same_items (filter_map new_item ds) new
    pub ascends : in_order (map (key_at key) ds)
    pub akin : All (IsAkin key eq) ds
    pub removed : filter_map removed_item ds ≡ filter (lacks key eq new) old
    pub added : filter_map added_item ds ≡ filter (lacks key eq old) new

  -- the differences before these were applied to the items `before`, and left the items `after`
  pub record IsUnderway (made : T → T → Type 0) (same_items : List T → List T → Type 0) (in_order : List K → Type 0) (old new before after : List T) (rest : List (Difference T T)) : Type 0 where
    pub applied : List (Difference T T)
    pub differ : AreDifferences same_items in_order old new (applied ++ rest)
    -- the items at the old keys that were come to are gone, and the others are left as they were
    pub gone : List T
    pub left : List T
    pub parted : same_items (gone ++ left) before
    pub gone_keys : HaveEqualKeys (filter_map old_item applied) gone
    pub left_keys : HaveEqualKeys (filter_map old_item rest) left
    -- clones of the new items that were come to are in
    pub done : List T
    pub clones : AllZip made (filter_map new_item applied) done
    pub joined : same_items (done ++ left) after

  -- of two ordered maps: the first differences were applied, and the rest not
  abbrev pub AppliesFirstInOrder : (K → K → Ordering) → (T → T → Type 0) → (old new before after : List T) → Type 0
  AppliesFirstInOrder cmp made old new before after =
      (rest : List (Difference T T)) × IsUnderway made (λ xs ys. xs ≡ ys) (IsStrictlySortedBy cmp) old new before after rest

  -- of two hash maps, whose items stand in no order: the first differences were applied, and the rest not
  abbrev pub AppliesFirstInSomeOrder : (T → T → Type 0) → (old new before after : List T) → Type 0
  AppliesFirstInSomeOrder made old new before after =
      (rest : List (Difference T T)) × IsUnderway made IsPermutation (λ _. ⊤) old new before after rest

  -- a clone of x is in the place of the item of an equal key, or was inserted if there was none
  pub record PutsClone (made : T → T → Type 0) (x : T) (old new : List T) : Type 0 where
    pub clone : T
    pub is_made : made x clone
    pub replaced : IsSome (find_item key (eq (key clone)) old) → new ≡ items_overwritten key (eq (key clone)) clone old
    pub inserted : IsAbsent key (eq (key clone)) old → AddsItem clone old new

  -- a removed item's key is gone, or a clone of the new item is in
  abbrev pub AppliesOne : (T → T → Type 0) → Difference T T → (old new : List T) → Type 0
  AppliesOne made (Removed x) old new = new ≡ items_without key (eq (key x)) old
  AppliesOne made (Added y) old new = PutsClone made y old new
  AppliesOne made (Kept x y) old new = PutsClone made y old new

-- in some order the items are clones of the new ones
abbrev pub HoldsClones : {T : Type 0} (made : T → T → Type 0) → (new items : List T) → Type 0
HoldsClones {T} made new items =
    (front done : List T) × IsPermutation front new × AllZip made front done × IsPermutation done items

-- if the limit refused, the map is full
abbrev pub IsFullAtLimit : {T : Type 0} → ℕ → List T → RefusalKind → Type 0
IsFullAtLimit limit items kind = kind ≡ limit_refused → length items ≡ limit
