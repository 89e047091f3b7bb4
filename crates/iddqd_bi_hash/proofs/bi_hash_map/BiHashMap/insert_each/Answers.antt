use Rattle.std.proofs.Common.{[], rules, subst, sym}
use Rattle.std.proofs.iter.Next.{on}
use Rattle.std.proofs.lemmas.Result.{err_from_is_err_and}
use Rattle.iddqd_store.specs.Collecting.{GivesThen}
use Rattle.iddqd_store.specs.Unique.{AddsAll}
use Rattle.iddqd_store.proofs.AddingLemmas.{adds_last, adds_none}
use Rattle.iddqd_store.proofs.CollectingLemmas.{fills_kept, fills_on, fills_taken, gives_all, gives_then}
use Rattle.iddqd_bi_hash.specs.BiHashItems.{holding_of}
use Rattle.iddqd_bi_hash.specs.Collecting.{DifferInBoth}
use Rattle.iddqd_bi_hash.specs.declared.both.Both as both
use Rattle.iddqd_bi_hash.proofs.BothLemmas.{stays_on}
use Rattle.iddqd_bi_hash.proofs.CollectedLemmas.{both_differ, by_two_keys, halts}
use Rattle.iddqd_bi_hash.proofs.bi_hash_map.BiHashMap.insert_each.Goals as goal

pub loop-item-init : goal.loop-item-init
loop-item-init g c =
    let old = c.args.self.now in
    let new = c.reserve.new.self in
    let kept = c.reserve.ensures.kept in (
      search rules,
      search rules,
      subst (AddsAll (DifferInBoth g.T.BiHashItem.key1 g.T.BiHashItem.key2 g.T.K1.PartialEq.eq g.T.K2.PartialEq.eq) [] old.items) (sym kept.keeps.items) (adds_none (by_two_keys g.T.BiHashItem.key1 g.T.BiHashItem.key2 g.met.T.K1.Eq.laws g.met.T.K2.Eq.laws) old.items (both_differ _ _ _ _ _ _ _ old c.requires.keyed)),
      record { fills = fills_kept (holding_of old) (holding_of new) c.len.ensures.slots kept.keeps; stays = kept.stays },
    )

pub loop-item-preserved : goal.loop-item-preserved
loop-item-preserved g c =
    let old = c.args.self.now in
    let between = c.loop-item.self in
    let new = c.insert_or_halt.new.self in
    let x = c.in-Some.item in
    let put = c.in_ok-insert_or_halt.ensures in
    let inv = c.loop-item.invariant in
    let goes = on x c.in-Some.is c.next.ensures.goes inv.1 in (
      goes.0,
      goes.1,
      adds_last (by_two_keys g.T.BiHashItem.key1 g.T.BiHashItem.key2 g.met.T.K1.Eq.laws g.met.T.K2.Eq.laws) c.loop-item.yielded old.items between.items inv.2 x new.items put.absent put.inserted.inserts.added,
      record {
        fills = fills_on (holding_of old) (holding_of between) (holding_of new) inv.3.fills (fills_taken x (holding_of between) (holding_of new) put.inserted.inserts);
        stays = stays_on _ old between new inv.3.stays put.inserted.stays;
      },
    )

pub returns-in-Err : goal.returns-in-Err
returns-in-Err g c =
    let kept = c.in-Err.ensures.kept in
    record {
      added = tt;
      halted = search rules;
      spare_first = tt;
      fills = record { fills = fills_kept (holding_of c.args.self.now) (holding_of c.reserve.new.self) c.len.ensures.slots kept.keeps; stays = kept.stays };
    }

pub returns-in_err-insert_or_halt : goal.returns-in_err-insert_or_halt
returns-in_err-insert_or_halt g c =
    let inv = c.loop-item.invariant in
    let back = err_from_is_err_and c.from_residual.result c.from_residual.ensures.1 in
    let stopped = c.in_err-insert_or_halt.ensures in
    let gives = GivesThen g.U.IntoIterator.into_iter_gives g.U.IntoIter.Iterator.next_gives c.args.iter in
    let came = gives_then g.U.IntoIterator.into_iter_gives g.U.IntoIter.Iterator.next_gives c.args.iter c.loop-item.yielded c.in-Some.item (search rules) in
    let keys : both.Ghosts _ _ _ = record { key1 = g.T.BiHashItem.key1; key2 = g.T.BiHashItem.key2; eq1 = g.T.K1.PartialEq.eq; eq2 = g.T.K2.PartialEq.eq; input1 = g.T.K1.Hash.hash_input; input2 = g.T.K2.Hash.hash_input } in
    rw back.1 (record {
      added = tt;
      halted = halts keys g.met.T.K1.Eq.laws g.met.T.K2.Eq.laws gives c.args.self.now c.loop-item.self c.insert_or_halt.new.self c.loop-item.yielded inv.2 inv.3.fills.limit stopped.kept.keeps c.in-Some.item came _ (rw back.2 stopped.halted);
      spare_first = search rules;
      fills = search rules;
    })

pub returns : goal.returns
returns g c =
    let inv = c.loop-item.invariant in
    record {
      added = (c.loop-item.yielded, gives_all g.U.IntoIterator.into_iter_gives g.U.IntoIter.Iterator.next_gives c.args.iter c.loop-item.yielded (search rules), inv.2);
      halted = tt;
      spare_first = tt;
      fills = inv.3;
    }

pub loop-item-smaller : goal.loop-item-smaller
loop-item-smaller g c = search rules
