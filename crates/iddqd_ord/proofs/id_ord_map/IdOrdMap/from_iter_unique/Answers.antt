use Rattle.std.proofs.Common.{rules, ◌∙◌, arith}
use Rattle.std.proofs.lemmas.Grind.{common_steps}
use Rattle.std.proofs.iter.Next.{on}
use Rattle.std.proofs.lemmas.Result.{err_from_is_err_and}
use Rattle.iddqd_store.specs.Collecting.{GivesThen}
use Rattle.iddqd_store.specs.Query.{differ_from_ascends}
use Rattle.iddqd_store.proofs.AddingLemmas.{by_one_key, collected_differ, shows_first}
use Rattle.iddqd_store.proofs.CollectingLemmas.{collects_last, gives_all, gives_then}
use Rattle.iddqd_ord.proofs.id_ord_map.IdOrdMap.from_iter_unique.Goals as goal

pub loop-item-preserved : goal.loop-item-preserved
loop-item-preserved g c =
    let x = c.in-Some.item in
    let inv = c.loop-item.invariant in
    let goes = on x c.in-Some.is c.next.ensures.goes inv.1 in
    let put = c.in_ok-insert_or_remove.ensures.inserted in (
      goes.0,
      goes.1,
      collects_last x c.loop-item.yielded c.loop-item.map.items c.insert_or_remove.new.self.items inv.2 put.inserts.added,
      omega (arith, put.inserts.vacant, inv.3),
      put.inserts.limit ∙ inv.4,
      put.keyed,
    )

pub returns-in-Err : goal.returns-in-Err
returns-in-Err g c = record {
  items = tt;
  repeat = tt;
  vacant = tt;
  limit = tt;
  keyed = tt;
}

pub returns-in_err-insert_or_remove : goal.returns-in_err-insert_or_remove
returns-in_err-insert_or_remove g c =
    let key = g.T.IdOrdItem.key in
    let inv = c.loop-item.invariant in
    let back = err_from_is_err_and c.from_residual.result c.from_residual.ensures.1 in
    let items = c.loop-item.map.items in
    let differ = differ_from_ascends key g.T.Key.Ord.cmp g.met.T.Key.Ord.matches_eq items inv.5 in
    let gives = GivesThen g.U.IntoIterator.into_iter_gives g.U.IntoIter.Iterator.next_gives c.args.iter in
    rw back.1 (record {
      items = tt;
      repeat = shows_first (by_one_key key g.met.T.Key.Eq.laws) c.loop-item.yielded items inv.2 differ gives c.in-Some.item _ (gives_then g.U.IntoIterator.into_iter_gives g.U.IntoIter.Iterator.next_gives c.args.iter c.loop-item.yielded c.in-Some.item (search rules)) (rw back.2 c.in_err-insert_or_remove.ensures.akin);
      vacant = tt;
      limit = tt;
      keyed = tt;
    })

pub returns : goal.returns
returns g c =
    let key = g.T.IdOrdItem.key in
    let inv = c.loop-item.invariant in
    let items = c.loop-item.map.items in
    let differ = differ_from_ascends key g.T.Key.Ord.cmp g.met.T.Key.Ord.matches_eq items inv.5 in
    record {
      items = (
        c.loop-item.yielded,
        gives_all g.U.IntoIterator.into_iter_gives g.U.IntoIter.Iterator.next_gives c.args.iter c.loop-item.yielded (search rules),
        record { differ = collected_differ (by_one_key key g.met.T.Key.Eq.laws) c.loop-item.yielded items inv.2 differ; same = inv.2 },
      );
      repeat = tt;
      vacant = inv.3;
      limit = inv.4;
      keyed = inv.5;
    }

pub loop-item-init : goal.loop-item-init
loop-item-init g c = grind (arith, common_steps)
