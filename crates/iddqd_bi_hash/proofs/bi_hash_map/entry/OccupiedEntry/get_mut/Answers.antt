use Rattle.std.proofs.Common.{◌∙◌, None, ap, cond, refl}
use Rattle.iddqd_store.specs.SlotItems.{item_of_slot}
use Rattle.iddqd_bi_hash.specs.Entry.{still_occupied, with_entry_item}
use Rattle.iddqd_bi_hash.proofs.BothLemmas.{written_akin, written_same}
use Rattle.iddqd_bi_hash.proofs.EntryLemmas.{one_item, same_entry}
use Rattle.iddqd_bi_hash.proofs.bi_hash_map.entry.OccupiedEntry.get_mut.Goals as goal

pub invariant_of-self-lent : goal.invariant_of-self-lent
invariant_of-self-lent g c w =
    let e = c.args.self.now in
    (still_occupied e.map.now.slots e.map.now.items e.first e.first w e.there1, (still_occupied e.map.now.slots e.map.now.items e.first e.second w e.there2, (e.same, tt)))

pub returns : goal.returns
returns g c =
    let e = c.args.self.now in
    let x = c.item_in_slot_mut.result.now in
    let at = c.item_in_slot_mut.ensures.value in
    let respects1 = g.met.T.K1.Hash.respects_eq in
    let respects2 = g.met.T.K2.Hash.respects_eq in (
      (refl, λ w. same_entry (with_entry_item e w) _ _ _),
      record {
        writes_back = tt;
        value = ap (λ b. cond b (item_of_slot e.map.now.slots e.map.now.items e.first) None) c.requires.unique ∙ at;
        items = one_item e.map.now.slots e.map.now.items e.first e.second (e.same c.requires.unique) x at;
        keyed = λ keyed w same1 same2. written_same _ _ _ _ _ _ _ e.map.now keyed e.first x at w g.met.T.K1.Eq.laws g.met.T.K2.Eq.laws respects1 respects2 same1 same2;
        keyed_akin = λ keyed w akin. written_akin _ _ _ _ _ _ _ e.map.now keyed e.first x at w g.met.T.K1.Eq.laws g.met.T.K2.Eq.laws respects1 respects2 akin.0 akin.1;
      },
    )
