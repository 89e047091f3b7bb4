use Rattle.std.proofs.Common.{◌≤◌, ◌∙◌, IsSome, length, take, drop, sum_by, ap, sym, subst, arith}
use Rattle.std.proofs.lemmas.List.Elements.{All-drop, All-take}
use Rattle.iddqd_ord_index.proofs.ListedLemmas.{length-listed, listed-part}
use Rattle.iddqd_ord_index.specs.Listed.{listed_items, AreOccupied}
use Rattle.iddqd_store.specs.Store.{item_at}
use Rattle.iddqd_ord.proofs.RangeLemmas.{part_up_to, sum-part}
use Rattle.iddqd_ord.proofs.StoreAndIndexLemmas.{have_slots}
use Rattle.iddqd_ord.proofs.id_ord_map.IdOrdMap.iter_between.Goals as goal

pub place-from-requires : goal.place-from-requires
place-from-requires g c =
    let m = c.self.inside in
    omega (arith, c.requires.low_in_list, (have_slots m.store m.index.slots c.self.invariant).as_many, ap (λ v. length v.items) c.self.view_is)

pub place-to-requires : goal.place-to-requires
place-to-requires g c =
    let m = c.self.inside in
    omega (arith, c.requires.low_in_list, c.requires.high_in_list, c.max.ensures, (have_slots m.store m.index.slots c.self.invariant).as_many, ap (λ v. length v.items) c.self.view_is)

pub walk_between-requires-clause-in_list : goal.walk_between-requires-clause-in_list
walk_between-requires-clause-in_list g c =
    let m = c.self.inside in
    omega (arith, c.requires.low_in_list, c.requires.high_in_list, c.max.ensures, c.place-to.ensures, (have_slots m.store m.index.slots c.self.invariant).as_many, ap (λ v. length v.items) c.self.view_is)

pub invariant_of-result : goal.invariant_of-result
invariant_of-result g c =
    let m = c.self.inside in
    subst (AreOccupied m.store) (sym c.walk_between.ensures.slots)
    (All-drop (λ s. IsSome (item_at m.store s)) c.place-from.result (take c.place-to.result m.index.slots) (All-take (λ s. IsSome (item_at m.store s)) c.place-to.result m.index.slots c.self.invariant.occupied))

pub returns-clause-items : goal.returns-clause-items
returns-clause-items g c =
    let m = c.self.inside in
    ap (listed_items m.store) c.walk_between.ensures.slots
    ∙ (listed-part m.store m.index.slots c.place-from.result c.place-to.result c.self.invariant.occupied
    ∙ (ap (λ v. drop c.place-from.result (take c.place-to.result v.items)) c.self.view_is
    ∙ (ap (λ n. drop n (take c.place-to.result c.args.self.now.items)) c.place-from.ensures
    ∙ part_up_to c.args.self.now.items c.args.low c.args.high c.place-to.result (c.place-to.ensures ∙ c.max.ensures))))

pub returns-clause-part : goal.returns-clause-part
returns-clause-part g c =
    let m = c.self.inside in
    let items = c.args.self.now.items in
    record {
      part = (c.args.low, c.args.high, returns-clause-items g c);
      sums = λ h. subst (λ l. sum_by h l ≤ sum_by h items) (sym (returns-clause-items g c)) (sum-part h items c.args.low c.args.high);
      fits = omega (arith, c.walk_between.ensures.fits, length-listed m.store c.walk_between.result (invariant_of-result g c));
    }
