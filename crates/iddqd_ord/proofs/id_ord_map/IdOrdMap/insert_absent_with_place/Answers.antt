use Rattle.std.proofs.Common.{◌≤◌, length, ◌∙◌, sym, ap, arith, rules}
use Rattle.std.proofs.lemmas.List.{length-map}
use Rattle.std.proofs.lemmas.Option.{slice_get-get_or}
use Rattle.iddqd_store.proofs.QueryLemmas.{OrderedQuery, own_query, place_there}
use Rattle.iddqd_ord.proofs.EntryLemmas.{put_item, put_others, put_written}
use Rattle.iddqd_ord.proofs.id_ord_map.IdOrdMap.insert_absent_with_place.Given.{Over}
use Rattle.iddqd_ord.proofs.id_ord_map.IdOrdMap.insert_absent_with_place.Goals as goal

query : (g : Over) (k : g.row.T-Key.Denot) → OrderedQuery g.T.Key.PartialEq.eq g.T.Key.Ord.cmp (g.T.Key.PartialEq.eq k) (g.T.Key.Ord.cmp k)
query g = own_query g.T.Key.PartialEq.eq g.T.Key.Ord.cmp g.met.T.Key.Eq.laws g.met.T.Key.Ord.total g.met.T.Key.Ord.matches_eq

pub unreachable-requires : goal.unreachable-requires
unreachable-requires g c =
    let key = g.T.IdOrdItem.key in
    let items = c.args.self.now.items in
    let p = rw (ap (λ m. m.items) c.self.view_is, c.key.ensures) at c.in-Ok.ensures.place in
    let there = place_there key (query g (key c.args.item)) items c.requires.keyed c.in-Ok.field-0 p.0 p.1 in
    let some = slice_get-get_or items c.in-Ok.field-0 c.args.item (omega (arith, p.0, length-map items key)) in
    let clash = sym c.requires.absent ∙ there ∙ some in
    cc

pub returns-clause-there : goal.returns-clause-there
returns-clause-there g c =
    let items = c.args.self.now.items in
    let place = c.in-Err.place in
    let slot = c.in_ok-slot-in-Err.slot in
    let p = rw (ap (λ m. m.items) c.self.view_is) at c.in-Err.ensures.place in
    let within : place ≤ length items = omega (arith, p.0, length-map items g.T.IdOrdItem.key) in
    let new = c.insert_at_place.new.self in
    let e = c.in_ok-slot-in-Err.ensures in
    record {
      there = put_item new.slots items new.items place slot c.args.item e.inserted.inserts.slots e.slot within e.put;
      placed = e.slot;
      written = put_written new.slots items new.items place slot c.args.item e.inserted.inserts.slots e.slot within e.put;
      others = put_others new.slots items new.items place slot c.args.item e.inserted.inserts.slots e.slot within e.put;
    }

pub returns-clause-inserted : goal.returns-clause-inserted
returns-clause-inserted g c = search rules
