use Rattle.std.proofs.Common.{refl}
use Rattle.iddqd_store.specs.Hashing.{hash_under}
use Rattle.iddqd_store.specs.SlotItems.{still_there}
use Rattle.iddqd_hash.specs.Entry.{with_entry_item}
use Rattle.iddqd_hash_parts.specs.HashItems.{IsKeyed}
use Rattle.iddqd_hash.proofs.EntryLemmas.{same_entry}
use Rattle.iddqd_hash_parts.proofs.GetMutLemmas.{keyed_akin_written, keyed_written}
use Rattle.iddqd_hash.proofs.id_hash_map.entry.OccupiedEntry.get_mut.Goals as goal

pub invariant_of-self-lent : goal.invariant_of-self-lent
invariant_of-self-lent g c w =
    let e = c.args.self.now in
    (still_there e.map.now.slots e.map.now.items e.slot w e.there, (e.listed, tt))

pub returns : goal.returns
unfolding IsKeyed
returns g c =
    let e = c.args.self.now in
    let key = g.T.IdHashItem.key in
    let input = g.T.Key.Hash.hash_input in
    let hash = hash_under g.S.BuildHasher g.S.Hasher.Hasher in
    let x = c.item_in_slot_mut.result.now in
    let at = c.item_in_slot_mut.ensures.value in (
      (refl, λ w. same_entry (with_entry_item e w) _ _),
      record {
        writes_back = tt;
        value = at;
        keyed = λ keyed w same. keyed_written key input hash e.map.now keyed e.slot x w at g.met.T.Key.Eq.laws g.met.T.Key.Hash.respects_eq same;
        keyed_akin = λ keyed w akin. keyed_akin_written key input hash e.map.now keyed e.slot x w at g.met.T.Key.Eq.laws g.met.T.Key.Hash.respects_eq akin;
      },
    )
