use Rattle.std.proofs.Common.{refl, sym, true≢false}
use Rattle.iddqd_bi_hash.proofs.BothLemmas.{written_akin, written_same}
use Rattle.iddqd_bi_hash.proofs.MetLemmas.{none_met}
use Rattle.iddqd_bi_hash.proofs.bi_hash_map.entry.VacantEntry.lend_inserted.Goals as goal

pub insert_absent-requires-clause-absent : goal.insert_absent-requires-clause-absent
insert_absent-requires-clause-absent g c =
    let x = c.args.item in
    none_met (λ y. g.T.K1.PartialEq.eq (g.T.BiHashItem.key1 x) (g.T.BiHashItem.key1 y)) (λ y. g.T.K2.PartialEq.eq (g.T.BiHashItem.key2 x) (g.T.BiHashItem.key2 y)) c.args.self.map.now.items c.requires.absent.absent1 c.requires.absent.absent2

pub returns-in-Ok : goal.returns-in-Ok
returns-in-Ok g c =
    let new = c.insert_absent.new.self in
    let done = c.in-Ok.ensures in
    let keyed = done.inserted.stays.keyed in
    let slot = c.in-Ok.slot in
    let respects1 = g.met.T.K1.Hash.respects_eq in
    let respects2 = g.met.T.K2.Hash.respects_eq in (
      (refl, λ w. refl, tt),
      record {
        kept = tt;
        same_map = refl;
        inserted = λ none. record { inserts = done.inserted; item = done.there.there; written = done.there.written };
        found = record { found = λ unique. absurd (true≢false (sym unique)); vacant = λ no. refl };
        keyed = λ x w at same1 same2. written_same _ _ _ _ _ _ _ new keyed slot x at w g.met.T.K1.Eq.laws g.met.T.K2.Eq.laws respects1 respects2 same1 same2;
        keyed_akin = λ x w at akin. written_akin _ _ _ _ _ _ _ new keyed slot x at w g.met.T.K1.Eq.laws g.met.T.K2.Eq.laws respects1 respects2 akin.0 akin.1;
        refused = tt;
      },
    )
