use Rattle.std.proofs.Common.{◌∙◌, ap, arith, length, sym}
use Rattle.iddqd_hash_parts.proofs.SlotItemLemmas.{length-items}
use Rattle.iddqd_hash_parts.proofs.iter.Iter.over.Goals as goal

pub invariant_of-result : goal.invariant_of-result
invariant_of-result g c = c.len.ensures.items ∙ sym (length-items c.args.store.now.slots) ∙ sym (ap length c.items.ensures)

pub returns-clause-fits : goal.returns-clause-fits
returns-clause-fits g c =
    omega (arith, c.len.ensures.items, c.len.ensures.fits, length-items c.args.store.now.slots, ap length c.items.ensures)
