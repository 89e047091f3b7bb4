use Rattle.std.proofs.Common.{rules, ◌∙◌, arith}
use Rattle.std.proofs.lemmas.Grind.{common_steps}
use Rattle.std.proofs.iter.Next.{on}
use Rattle.std.proofs.lemmas.Result.{err_from_is_err_and}
use Rattle.iddqd_store.specs.Collecting.{GivesThen}
use Rattle.iddqd_store.proofs.AddingLemmas.{by_one_key, collected_differ, shows_first}
use Rattle.iddqd_store.proofs.CollectingLemmas.{collects_last, gives_all, gives_then}
use Rattle.iddqd_hash_parts.specs.HashItems.{IsKeyed}
use Rattle.iddqd_hash.proofs.id_hash_map.IdHashMap.from_iter_unique.Goals as goal

pub loop-item-preserved : goal.loop-item-preserved
unfolding IsKeyed
loop-item-preserved g c =
    let x = c.in-Some.item in
    let inv = c.loop-item.invariant in
    let goes = on x c.in-Some.is c.next.ensures.goes inv.1 in
    let put = c.in_ok-insert_or_remove.ensures.inserted in (
      goes.0,
      goes.1,
      collects_last x c.loop-item.yielded c.loop-item.map.items c.insert_or_remove.new.self.items inv.2 put.inserts.added,
      put.stays.spare.spare_fits,
      omega (arith, put.inserts.vacant, inv.4),
      put.inserts.limit ∙ inv.5,
      put.stays.hasher ∙ inv.6,
      put.stays.keyed,
    )

pub returns-in-Err : goal.returns-in-Err
returns-in-Err g c = record {
  items = tt;
  repeat = tt;
  collected = tt;
}

pub returns-in_err-insert_or_remove : goal.returns-in_err-insert_or_remove
returns-in_err-insert_or_remove g c =
    let key = g.T.IdHashItem.key in
    let inv = c.loop-item.invariant in
    let back = err_from_is_err_and c.from_residual.result c.from_residual.ensures.1 in
    let items = c.loop-item.map.items in
    let gives = GivesThen g.U.IntoIterator.into_iter_gives g.U.IntoIter.Iterator.next_gives c.args.iter in
    rw back.1 (record {
      items = tt;
      repeat = shows_first (by_one_key key g.met.T.Key.Eq.laws) c.loop-item.yielded items inv.2 inv.7.differ gives c.in-Some.item _ (gives_then g.U.IntoIterator.into_iter_gives g.U.IntoIter.Iterator.next_gives c.args.iter c.loop-item.yielded c.in-Some.item (search rules)) (rw back.2 c.in_err-insert_or_remove.ensures.akin);
      collected = tt;
    })

pub returns : goal.returns
unfolding IsKeyed
returns g c =
    let key = g.T.IdHashItem.key in
    let inv = c.loop-item.invariant in
    record {
      items = (
        c.loop-item.yielded,
        gives_all g.U.IntoIterator.into_iter_gives g.U.IntoIter.Iterator.next_gives c.args.iter c.loop-item.yielded (search rules),
        record { differ = collected_differ (by_one_key key g.met.T.Key.Eq.laws) c.loop-item.yielded c.loop-item.map.items inv.2 inv.7.differ; same = inv.2 },
      );
      repeat = tt;
      collected = record { vacant = inv.4; limit = inv.5; spare_fits = inv.3; hasher = search rules; keyed = inv.7 };
    }

pub loop-item-init : goal.loop-item-init
unfolding IsKeyed
loop-item-init g c = grind (arith, common_steps)
