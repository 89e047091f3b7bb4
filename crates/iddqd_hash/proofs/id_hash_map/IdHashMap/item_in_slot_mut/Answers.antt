use Rattle.std.proofs.Common.{◌≡◌, ◌∙◌, Some, sym, ap, refl, is_some, true, min, ◌-◌}
use Rattle.iddqd_store.specs.SlotItems.{item_of_slot, written_to_slot}
use Rattle.iddqd_store.specs.Store.{item_at, with_item}
use Rattle.iddqd_store.proofs.StoreLemmas.{len_lent, updates-set, vacant_lent}
use Rattle.iddqd_hash_parts.specs.StoreAndIndex.{hash_of_slot}
use Rattle.iddqd_hash_parts.proofs.GetMutLemmas.{item_in_slot, items_lent, numbers_lent}
use Rattle.iddqd_hash_parts.proofs.StoreAndIndexLemmas.{paired_kept}
use Rattle.iddqd_hash.proofs.id_hash_map.IdHashMap.item_in_slot_mut.Goals as goal

pub get_mut-requires : goal.get_mut-requires
get_mut-requires g c =
    let m = c.self.inside in
    ap is_some (sym (item_in_slot m.store.slots c.args.slot)) ∙ (rw (← c.self.view_is) at c.requires)

pub invariant_of-self-lent : goal.invariant_of-self-lent
invariant_of-self-lent g c w =
    let m = c.self.inside in
    let slot = c.args.slot in
    let some = ap is_some (sym (item_in_slot m.store.slots slot)) ∙ (rw (← c.self.view_is) at c.requires) in
    paired_kept m.store (with_item m.store slot w) m.index.pairs m.index.pairs c.self.invariant slot w refl some (updates-set m.store slot (Some w) some) (len_lent m.store slot w some) refl refl

pub returns : goal.returns
returns g c =
    let m = c.self.inside in
    let slot = c.args.slot in
    let some : is_some (item_at m.store slot) ≡ true = ap is_some (sym (item_in_slot m.store.slots slot)) ∙ (rw (← c.self.view_is) at c.requires) in (
      (
        refl,
        λ w.
            let items = items_lent m.store.slots slot w some ∙ ap (λ v. written_to_slot v.slots v.items slot w) c.self.view_is in
            let slots = numbers_lent (λ s. s) m.store.slots slot w some ∙ ap (λ v. v.slots) c.self.view_is in
            let hashes = numbers_lent (hash_of_slot m.index.pairs) m.store.slots slot w some ∙ ap (λ v. v.hashes) c.self.view_is in
            let hasher = ap (λ v. v.hasher) c.self.view_is in
            let spare = ap (λ n. min m.index.spare (min (m.store.capacity - n) (m.store.limit - n))) (len_lent m.store slot w some) ∙ ap (λ v. v.spare) c.self.view_is in
            let vacant = vacant_lent m.store slot w some ∙ ap (λ v. v.vacant) c.self.view_is in
            let capacity = ap (λ v. v.capacity) c.self.view_is in
            let limit = ap (λ v. v.limit) c.self.view_is in
            cc,
      ),
      record {
        writes_back = tt;
        value = ap (λ v. item_of_slot v.slots v.items slot) (sym c.self.view_is) ∙ item_in_slot m.store.slots slot ∙ c.get_mut.ensures.item;
      },
    )
