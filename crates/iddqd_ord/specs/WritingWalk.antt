-- What a contract sees of a walk that lends the items of an ordered map for writing.
--     walk_map, walk_lender, walk_done      the map as the walk holds it, the name of the reference to it, the number of items that it has lent
--     walk_item      the item that the walk lends next, or none
--     walk_with w x      the map once x is written to the item that the walk lends next
--     walk_lends      the walk ends with the last value written to the item, and one item further
--     WalkKeeps, WalkKeepsAkin      an item of the same key, or of an equal one, may be written
use Rattle.std.specs.Prelude.{◌≡◌, ℕ, ◌+◌, [], Bool, IfSome, IsTrue, Option, slice_get, slice_set}
use Rattle.std.specs.Borrow.{Fml, GName, RattleType, MutBor, LendsIf}
use Rattle.std.specs.declared.cmp.Ordering.{Ordering}
use mir.Syntax.{named}
use Rattle.iddqd_store.specs.Contents.{Ascends}
use Rattle.iddqd_store.specs.Holding.{Holding}
use Rattle.iddqd_ord.specs.declared.id_ord_map.iter_mut.IterMut.{IterMut}
use Rattle.iddqd_ord.specs.contracts.id_ord_map.iter_mut.IterMut as walk

module _ {T : Type 0} where
  abbrev pub walk_map : IterMut T → Holding T
  walk_map w = w.map.now

  abbrev pub walk_lender : IterMut T → GName
  walk_lender w = w.map.ghost_name

  abbrev pub walk_done : IterMut T → ℕ
  walk_done w = w.done

  abbrev pub walk_item : IterMut T → Option T
  walk_item w = slice_get w.map.now.items w.done

  abbrev pub walk_with : IterMut T → T → Holding T
  walk_with w x = record w.map.now { items = slice_set w.map.now.items w.done x }

  -- the walk once x is written to the item that it lent
  abbrev pub with_next : IterMut T → T → IterMut T
  with_next w x = record {
    map = record w.map { now = walk_with w x };
    done = w.done + 1;
  }

module _ (T : RattleType) where
  -- the walk's lifetime is the second of the signature
  abbrev pub walk_lends : MutBor (IterMut T.Denot) → Option (MutBor T.Denot) → Fml
  walk_lends w r = LendsIf (walk.the_row (record { mir = named 1; lft = [] }) T) T w r (with_next w.now) w.now

-- in a keyed map an item of the same key, or of an equal one, may be written in place of the one lent: the map is keyed then
module _ {T K : Type 0} (key : T → K) (cmp : K → K → Ordering) where
  abbrev pub WalkKeeps : IterMut T → Option (MutBor T) → Type 0
  WalkKeeps walk result =
      Ascends key cmp (walk_map walk).items
      → IfSome result (λ lent. (w : T) → key w ≡ key lent.now → Ascends key cmp (walk_with walk w).items)

  abbrev pub WalkKeepsAkin : (K → K → Bool) → IterMut T → Option (MutBor T) → Type 0
  WalkKeepsAkin eq walk result =
      Ascends key cmp (walk_map walk).items
      → IfSome result (λ lent. (w : T) → IsTrue (eq (key lent.now) (key w)) → Ascends key cmp (walk_with walk w).items)
