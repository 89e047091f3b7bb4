use Rattle.std.proofs.Common.{rules, ◌∙◌, arith}
use Rattle.std.proofs.lemmas.Grind.{common_steps}
use Rattle.std.proofs.iter.Next.{on}
use Rattle.std.proofs.lemmas.Result.{err_from_is_err_and}
use Rattle.iddqd_store.specs.Collecting.{GivesThen}
use Rattle.iddqd_store.proofs.AddingLemmas.{UniqueLaws, collected_differ, shows_first}
use Rattle.iddqd_store.proofs.CollectingLemmas.{collects_last, gives_all, gives_then}
use Rattle.iddqd_bi_hash.specs.Collecting.{DifferInBoth, Meets}
use Rattle.iddqd_bi_hash.proofs.CollectedLemmas.{both_differ, by_two_keys}
use Rattle.iddqd_bi_hash.proofs.bi_hash_map.BiHashMap.from_iter_unique.Given.{Over}
use Rattle.iddqd_bi_hash.proofs.bi_hash_map.BiHashMap.from_iter_unique.Goals as goal

laws : (g : Over) → UniqueLaws (DifferInBoth g.T.BiHashItem.key1 g.T.BiHashItem.key2 g.T.K1.PartialEq.eq g.T.K2.PartialEq.eq) (Meets g.T.BiHashItem.key1 g.T.BiHashItem.key2 g.T.K1.PartialEq.eq g.T.K2.PartialEq.eq)
laws g = by_two_keys g.T.BiHashItem.key1 g.T.BiHashItem.key2 g.met.T.K1.Eq.laws g.met.T.K2.Eq.laws

pub loop-item-preserved : goal.loop-item-preserved
loop-item-preserved g c =
    let x = c.in-Some.item in
    let inv = c.loop-item.invariant in
    let goes = on x c.in-Some.is c.next.ensures.goes inv.1 in
    let put = c.in_ok-insert_or_remove.ensures.inserted in (
      goes.0,
      goes.1,
      collects_last x c.loop-item.yielded c.loop-item.map.items c.insert_or_remove.new.self.items inv.2 put.inserts.added,
      put.stays.spare.spare_fits,
      omega (arith, put.inserts.vacant, inv.4),
      put.inserts.limit ∙ inv.5,
      put.stays.hasher ∙ inv.6,
      put.stays.keyed,
    )

pub returns-in-Err : goal.returns-in-Err
returns-in-Err g c = record {
  items = tt;
  repeat = tt;
  collected = tt;
}

pub returns-in_err-insert_or_remove : goal.returns-in_err-insert_or_remove
returns-in_err-insert_or_remove g c =
    let inv = c.loop-item.invariant in
    let back = err_from_is_err_and c.from_residual.result c.from_residual.ensures.1 in
    let map = c.loop-item.map in
    let differ = both_differ _ _ _ _ _ _ _ map inv.7 in
    let gives = GivesThen g.U.IntoIterator.into_iter_gives g.U.IntoIter.Iterator.next_gives c.args.iter in
    rw back.1 (record {
      items = tt;
      repeat = shows_first (laws g) c.loop-item.yielded map.items inv.2 differ gives c.in-Some.item _
          (gives_then g.U.IntoIterator.into_iter_gives g.U.IntoIter.Iterator.next_gives c.args.iter c.loop-item.yielded c.in-Some.item (search rules)) (rw back.2 c.in_err-insert_or_remove.ensures.met);
      collected = tt;
    })

pub returns : goal.returns
returns g c =
    let inv = c.loop-item.invariant in
    let map = c.loop-item.map in
    let differ = both_differ _ _ _ _ _ _ _ map inv.7 in
    record {
      items = (
        c.loop-item.yielded,
        gives_all g.U.IntoIterator.into_iter_gives g.U.IntoIter.Iterator.next_gives c.args.iter c.loop-item.yielded (search rules),
        record { differ = collected_differ (laws g) c.loop-item.yielded map.items inv.2 differ; same = inv.2 },
      );
      repeat = tt;
      collected = record { vacant = inv.4; limit = inv.5; spare_fits = inv.3; hasher = search rules; keyed = inv.7 };
    }

pub loop-item-init : goal.loop-item-init
loop-item-init g c = grind (arith, common_steps)
