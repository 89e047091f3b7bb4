use Rattle.std.proofs.Common.{◌∙◌, sym, ap, subst, rules}
use Rattle.std.specs.List.{remove}
use Rattle.iddqd_store.specs.Contents.{Ascends}
use Rattle.iddqd_store.specs.Holding.{LosesPlace}
use Rattle.iddqd_store.specs.SlotItems.{HaveSlots}
use Rattle.iddqd_store.proofs.KeepsLemmas.{ascends_remove}
use Rattle.iddqd_ord.proofs.StoreAndIndexLemmas.{have_slots}
use Rattle.iddqd_ord.proofs.id_ord_map.IdOrdMap.take_at_place.Goals as goal

pub returns-clause-own : goal.returns-clause-own
returns-clause-own g c =
    let m = c.self.inside in
    subst (λ v. HaveSlots v.slots v.items) c.self.view_is (have_slots m.store m.index.slots c.self.invariant)

pub returns-clause-removed : goal.returns-clause-removed
unfolding LosesPlace
returns-clause-removed g c = search rules

pub returns-clause-keyed : goal.returns-clause-keyed
returns-clause-keyed g c =
    let key = g.T.IdOrdItem.key in
    let cmp = g.T.Key.Ord.cmp in
    let left = c.remove_from_both.ensures.items ∙ ap (λ v. remove v.items c.args.place) c.self.view_is in
    subst (Ascends key cmp) (sym left) (ascends_remove key cmp c.args.self.now.items c.args.place c.requires.keyed)

pub invariant_of-self : goal.invariant_of-self
invariant_of-self g c = search rules
