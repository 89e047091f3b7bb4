use Rattle.std.proofs.Common.{◌∙◌, sym, subst, refl, rules}
use Rattle.iddqd_store.specs.Refusal.{IsOnly}
use Rattle.iddqd_hash_parts.proofs.MapLemmas.{unchanged}
use Rattle.iddqd_hash.proofs.id_hash_map.IdHashMap.insert_unique.Goals as goal

pub item_in_slot-requires : goal.item_in_slot-requires
item_in_slot-requires g c = c.in-Some.ensures.slot.there

pub returns-in-Some : goal.returns-in-Some
returns-in-Some g c =
    let existing = c.item_in_slot.result.now in
    let found = sym c.in-Some.ensures.slot.item ∙ c.item_in_slot.ensures in (
      (refl, λ _ h. cc, (unchanged _ c.args.self.now c.requires.keyed c.in-Some.ensures.spare_fits, refl)),
      record { after = tt; absent = tt; refused = (c.internal_new.ensures.new, existing, subst (λ ds. IsOnly ds existing) (sym c.internal_new.ensures.duplicates) refl, found); no_spare = tt },
    )

pub returns-in-Err : goal.returns-in-Err
returns-in-Err g c = search rules
