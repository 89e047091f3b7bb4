use Rattle.std.proofs.Common.{◌≡◌, Some}
use Rattle.iddqd_store.specs.Store.{item_at}
use Rattle.iddqd_ord.proofs.CompactLemmas.{has_place, own_place}
use Rattle.iddqd_ord.proofs.id_ord_map.compact.place_of.Goals as goal

pub unreachable-requires : goal.unreachable-requires
unreachable-requires g c =
    let store = c.args.store.now in
    let x = c.item-item.result.now in
    let there : item_at store c.args.slot ≡ Some x = c.item-item.ensures in
    let p = rw c.key.ensures at c.in-Err.ensures.place in
    has_place g.T.IdOrdItem.key g.met.T.Key.Eq.laws g.met.T.Key.Ord.total g.met.T.Key.Ord.matches_eq store c.args.index.now.slots c.requires.paired c.requires.keyed c.args.slot x there c.in-Err.field-0 p.1 p.2

pub returns : goal.returns
returns g c =
    let store = c.args.store.now in
    let x = c.item-item.result.now in
    let there : item_at store c.args.slot ≡ Some x = c.item-item.ensures in
    let p = rw c.key.ensures at c.in-Ok.ensures.place in
    own_place g.T.IdOrdItem.key g.met.T.Key.Eq.laws g.met.T.Key.Ord.total g.met.T.Key.Ord.matches_eq store c.args.index.now.slots c.requires.paired c.requires.keyed c.args.slot x there c.in-Ok.place p.0 p.1
