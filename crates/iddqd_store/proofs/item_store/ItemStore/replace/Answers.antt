use Rattle.std.proofs.Common.{Some, refl, arith}
use Rattle.std.proofs.lemmas.Grind.{common_steps}
use Rattle.std.proofs.lemmas.List.{map-set}
use Rattle.iddqd_store.proofs.SlotLemmas.{IsSound-replace, count-replaced, vacant-replaced}
use Rattle.iddqd_store.proofs.StoreLemmas.{updates-set}
use Rattle.iddqd_store.proofs.item_store.ItemStore.replace.Goals as goal

pub invariant_of-self : goal.invariant_of-self
invariant_of-self g c =
    let occupied = rw (← c.self.view_is) at c.requires in
    rw c.replace.ensures.after (IsSound-replace c.self.inside.slots.items _ _ _ c.args.slot c.args.item c.self.invariant occupied)

pub returns-clause-store : goal.returns-clause-store
returns-clause-store g c = rw (← c.self.view_is, c.replace.ensures.after, map-set) refl

pub returns-clause-updates : goal.returns-clause-updates
returns-clause-updates g c = rw (returns-clause-store g c) (updates-set c.args.self.now c.args.slot (Some c.args.item) c.requires)

pub returns-clause-len : goal.returns-clause-len
returns-clause-len g c =
    let occupied = rw (← c.self.view_is) at c.requires in
    rw (← c.self.view_is, c.replace.ensures.after) (count-replaced c.self.inside.slots.items c.args.slot c.args.item occupied)

pub returns-clause-vacant : goal.returns-clause-vacant
returns-clause-vacant g c =
    let occupied = rw (← c.self.view_is) at c.requires in
    rw (← c.self.view_is, c.replace.ensures.after) (vacant-replaced c.self.inside.slots.items c.args.slot c.args.item occupied)

pub index_mut-requires : goal.index_mut-requires
index_mut-requires g c = grind (arith, common_steps)

pub unreachable-requires : goal.unreachable-requires
unreachable-requires g c = grind (arith, common_steps)

pub returns-clause-item : goal.returns-clause-item
returns-clause-item g c = grind (arith, common_steps)
