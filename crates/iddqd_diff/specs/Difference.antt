-- What two maps have at each key, of which the second, the new one, came after the first, the old one.
--     old_item, new_item      the item of the old map; of the new one
--     removed_item, added_item      the same, if the other map has none of an equal key
--     shown      a difference of references, with the items themselves
--     is_change      what `is_changed` returns
--     key_at, IsAkin      the key of a difference; its two items have equal keys
--     lacks      no item of the list has the item's key
use Rattle.std.specs.Borrow.{Bor}
use Rattle.std.specs.Prelude.{◌≡◌, Bool, true, not, List, Option, Some, None, is_none, ⊤}
use Rattle.iddqd.specs.Contents.{find_item}
use Rattle.iddqd_diff.specs.declared.difference.Difference.{Difference}
use Rattle.iddqd_diff.specs.declared.difference.Difference.TheVariants.{Removed, Added, Kept}

module _ {T : Type 0} where
  -- the item of the old map, if it has one
  abbrev pub old_item : Difference T T → Option T
  old_item (Removed x) = Some x
  old_item (Added y) = None
  old_item (Kept x y) = Some x

  -- the item of the new map, if it has one
  abbrev pub new_item : Difference T T → Option T
  new_item (Removed x) = None
  new_item (Added y) = Some y
  new_item (Kept x y) = Some y

  -- the item that the old map alone has
  abbrev pub removed_item : Difference T T → Option T
  removed_item (Removed x) = Some x
  removed_item (Added y) = None
  removed_item (Kept x y) = None

  -- the item that the new map alone has
  abbrev pub added_item : Difference T T → Option T
  added_item (Removed x) = None
  added_item (Added y) = Some y
  added_item (Kept x y) = None

  -- the same difference, with the items in place of references to them
  abbrev pub shown : Difference (Bor T) (Bor T) → Difference T T
  shown (Removed x) = Removed x.now
  shown (Added y) = Added y.now
  shown (Kept x y) = Kept x.now y.now

  -- an item was removed or added, or the two items are not equal
  abbrev pub is_change : (T → T → Bool) → Difference T T → Bool
  is_change eq (Removed x) = true
  is_change eq (Added y) = true
  is_change eq (Kept x y) = not (eq x y)

module _ {T K : Type 0} (key : T → K) where
  -- the key at which the maps differ, as the old item shows it if there is one
  abbrev pub key_at : Difference T T → K
  key_at (Removed x) = key x
  key_at (Added y) = key y
  key_at (Kept x y) = key x

  -- if both maps have an item, the two have equal keys
  abbrev pub IsAkin : (K → K → Bool) → Difference T T → Type 0
  IsAkin eq (Removed x) = ⊤
  IsAkin eq (Added y) = ⊤
  IsAkin eq (Kept x y) = eq (key x) (key y) ≡ true

  -- none of the items has a key equal to that of x
  abbrev pub lacks : (K → K → Bool) → List T → T → Bool
  lacks eq items x = is_none (find_item key (eq (key x)) items)
