use Rattle.std.proofs.Common.{refl}
use Rattle.iddqd_store.proofs.SlotLemmas.{items_are_clones, count_of_clones, vacant_of_clones, IsSound-clone}
use Rattle.iddqd_store.proofs.item_store.ItemStore.try_clone.Goals as goal

pub invariant_of-result : goal.invariant_of-result
invariant_of-result g c = IsSound-clone g.T.Clone.is_clone _ _ _ _ _ c.in_ok-clone.ensures.cases.0 c.self.invariant

pub returns : goal.returns
returns g c =
    let all = c.in_ok-clone.ensures.cases.0 in
    rw (← c.self.view_is) (record {
      clones = record { slots = items_are_clones g.T.Clone.is_clone _ _ all; limit = refl };
      len = count_of_clones g.T.Clone.is_clone _ _ all;
      vacant = vacant_of_clones g.T.Clone.is_clone _ _ all;
    })
