use Rattle.std.proofs.Common.{◌∙◌, ap, length, sym}
use Rattle.iddqd_hash_parts.proofs.SlotItemLemmas.{length-items}
use Rattle.iddqd_hash_parts.proofs.into_iter.IntoIter.over.Goals as goal

pub invariant_of-result : goal.invariant_of-result
invariant_of-result g c = c.len.ensures.items ∙ sym (length-items c.args.store.slots) ∙ sym (ap length c.into_items.ensures)
