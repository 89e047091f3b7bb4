use Rattle.std.proofs.Common.{◌++◌, ◌∙◌, length, take, drop, sym, ap, subst, arith}
use Rattle.iddqd_store.specs.Contents.{Ascends}
use Rattle.iddqd_ord_index.proofs.PartLemmas.{without_part}
use Rattle.iddqd_store.proofs.KeepsLemmas.{ascends_remove}
use Rattle.iddqd_ord.proofs.StoreAndIndexLemmas.{have_slots, left_slots}
use Rattle.iddqd_ord.proofs.id_ord_map.IdOrdMap.remove_between.Goals as goal

pub place-from-requires : goal.place-from-requires
place-from-requires g c =
    let m = c.self.inside in
    omega (arith, (have_slots m.store m.index.slots c.self.invariant).as_many, ap (λ v. length v.items) c.self.view_is, c.requires.forward, c.requires.in_list)

pub place-to-requires : goal.place-to-requires
place-to-requires g c =
    let m = c.self.inside in
    omega (arith, (have_slots m.store m.index.slots c.self.invariant).as_many, ap (λ v. length v.items) c.self.view_is, c.requires.in_list)

pub remove_part_from_both-requires-clause-in_list : goal.remove_part_from_both-requires-clause-in_list
remove_part_from_both-requires-clause-in_list g c =
    let m = c.self.inside in
    omega (arith, c.place-to.ensures, (have_slots m.store m.index.slots c.self.invariant).as_many, ap (λ v. length v.items) c.self.view_is, c.requires.in_list)

pub returns-clause-leaves : goal.returns-clause-leaves
returns-clause-leaves g c =
    let m = c.self.inside in
    let e = c.remove_part_from_both.ensures in
    let new = c.remove_part_from_both.new in
    left_slots m.store new.store m.index.slots new.index.slots c.self.invariant e.paired e.vacant e.bounds c.args.self.now c.self.view_is

pub returns-clause-keyed : goal.returns-clause-keyed
returns-clause-keyed g c =
    let key = g.T.IdOrdItem.key in
    let cmp = g.T.Key.Ord.cmp in
    let items = c.args.self.now.items in
    let from = c.place-from.result in
    let to = c.place-to.result in
    let left = c.remove_part_from_both.ensures.items ∙ ap (λ v. take from v.items ++ drop to v.items) c.self.view_is in
    subst (Ascends key cmp) (sym left) (without_part (Ascends key cmp) (ascends_remove key cmp) from to items (omega (arith, c.place-from.ensures, c.place-to.ensures, c.requires.forward)) c.requires.keyed)
