use Rattle.std.proofs.Common.{refl}
use Rattle.iddqd_store.proofs.SlotLemmas.{ends_occupied}
use Rattle.iddqd_store.proofs.item_store.ItemStore.cut_end.Goals as goal

pub returns-clause-cut : goal.returns-clause-cut
returns-clause-cut g c =
    let v = c.cut_vacant-self-inside.new.slots in
    ends_occupied v.items (rw (← v.ok.0) c.cut_vacant-self-inside.ensures.ends)

pub returns-clause-limit : goal.returns-clause-limit
returns-clause-limit g c = rw (← c.self.view_is) refl
