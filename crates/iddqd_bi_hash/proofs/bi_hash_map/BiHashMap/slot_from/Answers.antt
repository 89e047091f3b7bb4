use Rattle.std.proofs.Common.{sym, subst}
use Rattle.iddqd_hash_parts.specs.SlotOrder.{FindsSlotFrom, GoesOnAt}
use Rattle.iddqd_bi_hash.proofs.bi_hash_map.BiHashMap.slot_from.Goals as goal

pub slot_from-requires : goal.slot_from-requires
slot_from-requires g c = subst (λ v. GoesOnAt v.slots c.args.from) (sym c.self.view_is) c.requires

pub returns-clause-found : goal.returns-clause-found
returns-clause-found g c = subst (λ v. FindsSlotFrom v.slots v.items c.args.from c.slot_from.result) c.self.view_is c.slot_from.ensures.found
