use Rattle.std.proofs.Common.{refl}
use Rattle.iddqd_store.proofs.WrittenLemmas.{akin_key_kept, same_key_kept}
use Rattle.iddqd_store.specs.SlotItems.{still_there}
use Rattle.iddqd_ord.specs.Entry.{with_entry_item}
use Rattle.iddqd_ord.proofs.EntryLemmas.{same_entry}
use Rattle.iddqd_ord.proofs.id_ord_map.entry.OccupiedEntry.get_mut.Goals as goal

pub invariant_of-self-lent : goal.invariant_of-self-lent
invariant_of-self-lent g c w =
    let e = c.args.self.now in
    (still_there e.map.now.slots e.map.now.items e.slot w e.there, (e.placed, tt))

pub returns : goal.returns
returns g c =
    let e = c.args.self.now in
    let key = g.T.IdOrdItem.key in
    let x = c.item_in_slot_mut.result.now in
    let at = c.item_in_slot_mut.ensures.value in (
      (refl, λ w. same_entry (with_entry_item e w) _ _),
      record {
        writes_back = tt;
        value = at;
        keyed = λ sorted w same. same_key_kept key e.map.now.slots e.map.now.items e.slot x w at g.T.Key.Ord.cmp same sorted;
        keyed_akin = λ sorted w akin. akin_key_kept key e.map.now.slots e.map.now.items e.slot x w at g.met.T.Key.Eq.laws akin g.met.T.Key.Ord.total g.met.T.Key.Ord.matches_eq sorted;
      },
    )
