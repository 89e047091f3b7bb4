-- What a contract sees of a walk that lends the items of a hash map of two keys for writing (`IterMut`).
--     walk_map, walk_lender      the map as the walk holds it, the name of the reference to it
--     walk_done      how many items it has returned
--     walk_item w      the item that it lends next
--     walk_with w x      the map once x is written to the item that the walk lends next
--     walk_lends      the walk ends with the last value written to the item, and one item further
--     WalkKeeps, WalkKeepsAkin      an item of the same keys, or of equal ones, may be written
use Rattle.std.specs.Prelude.{◌≡◌, ℕ, ◌+◌, [], IfSome, Option, slice_get, slice_set}
use Rattle.std.specs.Borrow.{Fml, GName, RattleType, MutBor, LendsIf}
use Rattle.std.proofs.Common.{refl}
use mir.Syntax.{named}
use Rattle.iddqd_hash_parts.specs.SlotOrder.{behind}
use Rattle.iddqd_hash_parts.specs.declared.keyed.Keyed as keyed
use Rattle.iddqd_bi_hash.specs.BiHashItems.{BiHashItems}
use Rattle.iddqd_bi_hash.specs.declared.bi_hash_map.iter_mut.IterMut.{IterMut}
use Rattle.iddqd_bi_hash.specs.contracts.bi_hash_map.iter_mut.IterMut as walk

module _ {S T : Type 0} where
  abbrev pub walk_map : IterMut T S → BiHashItems S T
  walk_map w = w.map.now

  abbrev pub walk_lender : IterMut T S → GName
  walk_lender w = w.map.ghost_name

  abbrev pub walk_done : IterMut T S → ℕ
  walk_done w = w.done

  -- the item that it lends next
  abbrev pub walk_item : IterMut T S → Option T
  walk_item w = slice_get w.map.now.items w.done

  abbrev pub walk_with : IterMut T S → T → BiHashItems S T
  walk_with w x = record w.map.now { items = slice_set w.map.now.items w.done x }

  -- the walk once x is written to the item that it lent
  abbrev pub with_next : IterMut T S → T → IterMut T S
  with_next w x = record {
    map = record w.map { now = walk_with w x };
    done = w.done + 1;
    next = behind w.map.now.slots (w.done + 1);
    from = refl;
  }

module _ (S T : RattleType) where
  -- the walk's lifetime is the second of the signature
  abbrev pub walk_lends : MutBor (IterMut T.Denot S.Denot) → Option (MutBor T.Denot) → Fml
  walk_lends w r = LendsIf (walk.the_row (record { mir = named 1; lft = [] }) T S) T w r (with_next w.now) w.now

-- if the map is keyed, it is so after a write of an item of the same keys, or of equal ones
module _ {S T : Type 0} where
  abbrev pub WalkKeeps : {K L : Type 0} → (T → K) → (T → L) → (BiHashItems S T → Type 0) → IterMut T S → Option (MutBor T) → Type 0
  WalkKeeps key1 key2 IsKeyed walk result =
      IsKeyed (walk_map walk) → IfSome result (λ lent. (w : T) → key1 w ≡ key1 lent.now → key2 w ≡ key2 lent.now → IsKeyed (walk_with walk w))

  abbrev pub WalkKeepsAkin : keyed.Ghosts (BiHashItems S T) T → IterMut T S → Option (MutBor T) → Type 0
  WalkKeepsAkin map walk result =
      map.keyed (walk_map walk) → IfSome result (λ lent. (w : T) → map.akin lent.now w → map.keyed (walk_with walk w))
