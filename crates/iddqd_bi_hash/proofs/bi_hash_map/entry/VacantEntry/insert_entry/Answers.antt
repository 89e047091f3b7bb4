use Rattle.std.proofs.Common.{◌∙◌, refl}
use Rattle.iddqd_bi_hash.proofs.EntryLemmas.{one_item, one_other}
use Rattle.iddqd_bi_hash.proofs.MetLemmas.{none_met}
use Rattle.iddqd_bi_hash.proofs.bi_hash_map.entry.VacantEntry.insert_entry.Goals as goal

pub insert_absent-requires-clause-absent : goal.insert_absent-requires-clause-absent
insert_absent-requires-clause-absent g c =
    let x = c.args.item in
    none_met (λ y. g.T.K1.PartialEq.eq (g.T.BiHashItem.key1 x) (g.T.BiHashItem.key1 y)) (λ y. g.T.K2.PartialEq.eq (g.T.BiHashItem.key2 x) (g.T.BiHashItem.key2 y)) c.args.self.map.now.items c.requires.absent1 c.requires.absent2

pub returns-in-Ok : goal.returns-in-Ok
returns-in-Ok g c =
    let new = c.insert_absent.new.self in
    let done = c.in-Ok.ensures in
    let slot = c.in-Ok.slot in (
      (refl, λ w. refl, tt),
      record {
        inserted = record {
          lender = refl;
          inserts = done.inserted;
          items = one_item new.slots new.items slot slot refl c.args.item done.there.there;
          item = done.there.there;
          unique = refl;
          written = done.there.written;
          others = one_other new.slots new.items slot slot refl ∙ done.there.others;
        };
        kept = tt;
        refused = tt;
      },
    )
