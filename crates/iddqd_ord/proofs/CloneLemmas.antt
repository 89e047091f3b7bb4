-- A store's clone under the same index.
--     paired_copied      they belong together still
--     listed_clones      the items are the clones
use Rattle.std.proofs.Common.{◌≡◌, ℕ, List, [], ◌∷◌, is_some, sym, ◌∙◌}
use Rattle.std.specs.List.{AllZip}
use Rattle.iddqd_ord_index.specs.Listed.{listed_items}
use Rattle.iddqd_store.specs.Store.{Store, item_at, store_len, IsStoreClone}
use Rattle.iddqd_store.proofs.CloneLemmas.{clones_on, occupied_both, clone_at}
use Rattle.iddqd_ord.specs.StoreAndIndex.{ListsOccupied}

module _ {T : Type 0} (is_clone : T → T → Type 0) (store copy : Store T) (clones : IsStoreClone is_clone store copy) where
  same_slots : (slot : ℕ) → is_some (item_at copy slot) ≡ is_some (item_at store slot)
  same_slots slot = occupied_both is_clone (item_at store slot) (item_at copy slot) (clone_at is_clone store.slots copy.slots slot clones.slots)

  pub paired_copied : (slots : List ℕ) → ListsOccupied store slots → store_len copy ≡ store_len store → ListsOccupied copy slots
  paired_copied slots paired len = record {
    each_once = paired.each_once;
    occupied = λ k d within. same_slots _ ∙ paired.occupied k d within;
    listed = λ slot some. paired.listed slot (sym (same_slots slot) ∙ some);
    counted = paired.counted ∙ sym len;
  }

  pub listed_clones : (slots : List ℕ) → AllZip is_clone (listed_items store slots) (listed_items copy slots)
  listed_clones [] = tt
  listed_clones (slot ∷ slots) =
      clones_on is_clone (item_at store slot) (item_at copy slot) (listed_items store slots) (listed_items copy slots)
      (clone_at is_clone store.slots copy.slots slot clones.slots) (listed_clones slots)
