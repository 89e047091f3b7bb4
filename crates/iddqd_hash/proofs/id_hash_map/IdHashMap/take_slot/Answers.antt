use Rattle.std.proofs.Common.{◌∙◌, Some, sym, ap}
use Rattle.iddqd_hash_parts.specs.HashItems.{IsKeyed}
use Rattle.iddqd_hash_parts.proofs.InSlotLemmas.{stored_in_slot}
use Rattle.iddqd_hash.proofs.id_hash_map.IdHashMap.take_slot.Goals as goal

pub take_hashed-requires-clause-listed : goal.take_hashed-requires-clause-listed
unfolding IsKeyed
take_hashed-requires-clause-listed g c =
    stored_in_slot _ _ _ _ c.args.self.now c.requires.keyed c.args.slot c.item_in_slot.result.now c.item_in_slot.ensures ∙ ap Some (sym c.hash_of-hash.ensures)
