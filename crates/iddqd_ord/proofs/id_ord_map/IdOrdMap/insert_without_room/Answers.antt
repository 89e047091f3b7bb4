use Rattle.std.proofs.Common.{◌≤◌, ◌∙◌, length, sym, ap, refl, arith}
use Rattle.std.proofs.lemmas.List.{length-map}
use Rattle.std.proofs.lemmas.Option.{slice_get-get_or}
use Rattle.iddqd_store.proofs.CountingLemmas.{CountsAtMost-le}
use Rattle.iddqd_store.proofs.QueryLemmas.{OrderedQuery, own_query, place_there, find_nowhere}
use Rattle.iddqd_ord.proofs.EntryLemmas.{put_item, put_others, put_written}
use Rattle.iddqd_ord.proofs.GetMutLemmas.{found_is_at}
use Rattle.iddqd_ord.proofs.StoreAndIndexLemmas.{bound_of, have_slots}
use Rattle.iddqd_ord.proofs.id_ord_map.IdOrdMap.insert_without_room.Given.{Over}
use Rattle.iddqd_ord.proofs.id_ord_map.IdOrdMap.insert_without_room.Goals as goal

query : (g : Over) (k : g.row.T-Key.Denot) → OrderedQuery g.T.Key.PartialEq.eq g.T.Key.Ord.cmp (g.T.Key.PartialEq.eq k) (g.T.Key.Ord.cmp k)
query g = own_query g.T.Key.PartialEq.eq g.T.Key.Ord.cmp g.met.T.Key.Eq.laws g.met.T.Key.Ord.total g.met.T.Key.Ord.matches_eq

pub returns-in-Ok-clause-missed : goal.returns-in-Ok-clause-missed
returns-in-Ok-clause-missed g c =
    let key = g.T.IdOrdItem.key in
    let item = c.args.item in
    let items = c.args.self.now.items in
    let m = c.self.inside in
    let p = rw (ap (λ m. m.items) c.self.view_is, c.key.ensures) at c.in-Ok.ensures.place in
    let slot = found_is_at _ c.args.self.now _ _ (have_slots m.store m.index.slots c.self.invariant) c.self.view_is c.in-Ok.ensures.in_list c.in-Ok.ensures.slot in
    let there = slice_get-get_or items _ item (omega (arith, p.0, length-map items key)) in (
      refl,
      refl,
      _,
      place_there key (query g (key item)) items c.requires.keyed _ p.0 p.1 ∙ there,
      slot.item ∙ there,
    )

pub returns-in-Ok-clause-steps : goal.returns-in-Ok-clause-steps
returns-in-Ok-clause-steps g c =
    let key = g.T.IdOrdItem.key in
    let item = c.args.item in
    let items = c.args.self.now.items in
    let m = c.self.inside in
    let bound = bound_of m.store m.index.slots c.self.invariant items (ap (λ v. v.items) c.self.view_is) in
    CountsAtMost-le c.find_slot.ensures.steps (omega (arith, bound))

pub returns-in-Ok-insert_at_place-clause-absent : goal.returns-in-Ok-insert_at_place-clause-absent
returns-in-Ok-insert_at_place-clause-absent g c =
    let key = g.T.IdOrdItem.key in
    let item = c.args.item in
    let items = c.args.self.now.items in
    let m = c.self.inside in
    let p = rw (ap (λ m. m.items) c.self.view_is, c.key.ensures) at c.in-Err.ensures.place in
    sym (find_nowhere key (query g (key item)) items c.requires.keyed c.in-Err.place p.1 p.2)

pub returns-in-Ok-insert_at_place-clause-there : goal.returns-in-Ok-insert_at_place-clause-there
returns-in-Ok-insert_at_place-clause-there g c =
    let key = g.T.IdOrdItem.key in
    let item = c.args.item in
    let items = c.args.self.now.items in
    let m = c.self.inside in
    let place = c.in-Err.place in
    let slot = c.in-Ok-insert_at_place.slot in
    let p = rw (ap (λ m. m.items) c.self.view_is) at c.in-Err.ensures.place in
    let within : place ≤ length items = omega (arith, p.0, length-map items key) in
    let new = c.insert_at_place.new.self in
    let e = c.in-Ok-insert_at_place.ensures in
    let own = e.inserted.inserts.slots in (
      place,
      record {
        there = put_item new.slots items new.items place slot item own e.slot within e.put;
        placed = e.slot;
        written = put_written new.slots items new.items place slot item own e.slot within e.put;
        others = put_others new.slots items new.items place slot item own e.slot within e.put;
      },
    )

pub returns-in-Ok-insert_at_place-clause-steps : goal.returns-in-Ok-insert_at_place-clause-steps
returns-in-Ok-insert_at_place-clause-steps g c =
    let key = g.T.IdOrdItem.key in
    let item = c.args.item in
    let items = c.args.self.now.items in
    let m = c.self.inside in
    let bound = bound_of m.store m.index.slots c.self.invariant items (ap (λ v. v.items) c.self.view_is) in
    CountsAtMost-le c.find_slot.ensures.steps (omega (arith, bound))

pub returns-in-Err-insert_at_place-clause-missed : goal.returns-in-Err-insert_at_place-clause-missed
returns-in-Err-insert_at_place-clause-missed g c =
    let key = g.T.IdOrdItem.key in
    let item = c.args.item in
    let items = c.args.self.now.items in
    let m = c.self.inside in
    let p = rw (ap (λ m. m.items) c.self.view_is, c.key.ensures) at c.in-Err.ensures.place in
    let absent = sym (find_nowhere key (query g (key item)) items c.requires.keyed c.in-Err.place p.1 p.2) in
    let told = c.in-Err-insert_at_place.ensures in
    (told.item, (absent, told.kind))

pub returns-in-Err-insert_at_place-clause-steps : goal.returns-in-Err-insert_at_place-clause-steps
returns-in-Err-insert_at_place-clause-steps g c =
    let key = g.T.IdOrdItem.key in
    let item = c.args.item in
    let items = c.args.self.now.items in
    let m = c.self.inside in
    let bound = bound_of m.store m.index.slots c.self.invariant items (ap (λ v. v.items) c.self.view_is) in
    CountsAtMost-le c.find_slot.ensures.steps (omega (arith, bound))
