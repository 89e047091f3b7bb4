-- The index and the store of a hash map belong together still where items move from slot to slot.
--     paired_same, under_kept      each slot has what it had
--     last_listed      the slot of an item is listed under the hash that is told of it
--     moved_paired, moved_under, moved_items      the item of one slot stands in another, which is listed in its stead
use Rattle.std.proofs.Common.{◌≡◌, ℕ, ◌+◌, ⊎_elim, List, ◌∷◌, Some, None, is_some, cond, remove, set, refl, sym, ap, ◌∙◌, arith, subst, IsPermutation}
use Rattle.std.proofs.lemmas.Bool.{cases_eq}
use Rattle.std.proofs.lemmas.List.Sorted.{IsPermutation-insert, IsPermutation-trans}
use Rattle.std.proofs.lemmas.List.Sums.{sum_by-remove}
use Rattle.std.specs.List.{Contains, sum_by}
use Rattle.iddqd_hash_index.specs.HashPairs.{HasInstead, HasOneMore}
use Rattle.iddqd_store.specs.Store.{Store, item_at, store_len, MovesLast, SameItems, Updates}
use Rattle.iddqd_store.proofs.StoreLemmas.{len_left, updates-set}
use Rattle.iddqd_hash_parts.specs.StoreAndIndex.{AreListedUnder, PairsOccupied, items_in}
use Rattle.iddqd_hash_parts.proofs.PairLemmas.{listed_hash}
use Rattle.iddqd_hash_parts.proofs.StoreAndIndexLemmas.{occupied_listed, paired_added, paired_removed, under_added, under_removed}
use Rattle.iddqd_hash_parts.proofs.SlotItemLemmas.{item_added, item_left}

module _ {T : Type 0} (old new : Store T) (ps : List (ℕ × ℕ)) (same : SameItems old new) where
  pub paired_same : PairsOccupied old ps → store_len new ≡ store_len old → new.capacity ≡ old.capacity → new.limit ≡ old.limit → PairsOccupied new ps
  paired_same paired len capacity limit = record {
    each_once = λ slot. paired.each_once slot ∙ sym (ap (λ o. cond (is_some o) 1 0) (same slot));
    counted = paired.counted ∙ sym len;
    in_memory = omega (arith, len, paired.in_memory, capacity);
    in_limit = omega (arith, len, paired.in_limit, limit);
  }

  pub under_kept : (tell : T → ℕ) → AreListedUnder tell old ps → AreListedUnder tell new ps
  under_kept tell under slot x there = under slot x (sym (same slot) ∙ there)

-- the slot of an item is listed under the hash that is told of it
pub last_listed : {T : Type 0} (tell : T → ℕ) (store : Store T) (ps : List (ℕ × ℕ)) → PairsOccupied store ps → AreListedUnder tell store ps → (slot : ℕ) (x : T) → item_at store slot ≡ Some x → Contains ps (tell x, slot)
last_listed tell store ps paired under slot x there =
    subst (λ h. Contains ps (h, slot)) (under slot x there) (listed_hash ps slot (occupied_listed store ps paired slot (ap is_some there)))

module _ {T : Type 0} (tell : T → ℕ) (old new : Store T) (ps qs : List (ℕ × ℕ)) (paired : PairsOccupied old ps) (under : AreListedUnder tell old ps) (last hole : ℕ) (x : T) (there : item_at old last ≡ Some x) (moves : MovesLast old.slots new.slots last hole) where
  -- the store without the item
  abbrev between : Store T
  between = record old { slots = set old.slots last None }

  left : Updates old between last None
  left = updates-set old last None (ap is_some there)

  put : Updates between new hole (Some x)
  put = record {
    changed = moves.moved ∙ there;
    others = λ other n. ⊎_elim
        (λ e. ap (item_at new) e ∙ moves.left ∙ sym left.changed ∙ ap (item_at between) (sym e))
        (λ m. moves.others other n m ∙ sym (left.others other m))
        (cases_eq other last);
  }

  hole_vacant : item_at between hole ≡ None
  hole_vacant = left.others hole (λ e. omega (arith, moves.lower, e)) ∙ moves.was_vacant

  pub moved_items : IsPermutation (items_in old) (items_in new)
  moved_items =
      let added = item_added between.slots new.slots hole x hole_vacant put.changed put.others in
      IsPermutation-trans (items_in old) (x ∷ items_in between) (items_in new)
      (item_left old.slots between.slots last x there left.changed left.others)
      (subst (λ xs. IsPermutation (x ∷ items_in between) xs) (sym added.put) (IsPermutation-insert (items_in between) added.place x))

  module _ (instead : HasInstead ps qs (tell x, last) (tell x, hole)) (len : store_len new ≡ store_len old) (capacity : new.capacity ≡ old.capacity) (limit : new.limit ≡ old.limit) where
    listed : Contains ps (tell x, last)
    listed = last_listed tell old ps paired under last x there

    -- the pairs without that of the slot
    abbrev rest : List (ℕ × ℕ)
    rest = remove ps listed.0

    taken : HasOneMore rest ps (tell x, last)
    taken weight = sym (sum_by-remove weight ps listed.0 (tell x, last) listed.1) ∙ ap (λ p. sum_by weight rest + weight p) listed.2

    added : HasOneMore rest qs (tell x, hole)
    added weight = omega (arith, instead weight, taken weight)

    fewer : store_len between + 1 ≡ store_len old
    fewer = len_left old last (ap is_some there)

    between_paired : PairsOccupied between rest
    between_paired = paired_removed old between ps rest paired (tell x) last taken listed left fewer refl refl

    pub moved_paired : PairsOccupied new qs
    moved_paired =
        paired_added between new rest qs between_paired (tell x) hole x added hole_vacant put
        (omega (arith, fewer, len)) (omega (arith, fewer, paired.in_memory)) (omega (arith, fewer, paired.in_limit)) capacity limit

    pub moved_under : AreListedUnder tell new qs
    moved_under =
        under_added tell between new rest qs (under_removed tell old between ps rest under (tell x) last taken left) (tell x) hole x between_paired added hole_vacant put refl
