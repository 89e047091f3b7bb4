use Rattle.std.proofs.Common.{[], rules, subst, sym}
use Rattle.std.proofs.iter.Next.{on}
use Rattle.std.proofs.lemmas.Result.{err_from_is_err_and}
use Rattle.iddqd_store.specs.Collecting.{AddsAll, GivesThen}
use Rattle.iddqd_store.proofs.AddingLemmas.{adds_last, adds_none, by_one_key, halts_adding}
use Rattle.iddqd_store.proofs.CollectingLemmas.{fills_kept, fills_on, fills_taken, gives_all, gives_then}
use Rattle.iddqd_store.specs.Hashing.{hash_under}
use Rattle.iddqd_hash_parts.specs.HashItems.{holding_of, IsKeyed, KeyedItems}
use Rattle.iddqd_hash_parts.proofs.MapLemmas.{stays_on}
use Rattle.iddqd_hash.proofs.id_hash_map.IdHashMap.insert_each.Goals as goal

pub loop-item-init : goal.loop-item-init
unfolding IsKeyed
loop-item-init g c =
    let key = g.T.IdHashItem.key in
    let old = c.args.self.now in
    let new = c.reserve.new.self in
    let kept = c.reserve.ensures.kept in (
      search rules,
      search rules,
      subst (AddsAll key g.T.Key.PartialEq.eq [] old.items) (sym kept.keeps.items) (adds_none (by_one_key key g.met.T.Key.Eq.laws) old.items c.requires.keyed.differ),
      record { fills = fills_kept (holding_of old) (holding_of new) c.len.ensures.slots kept.keeps; stays = kept.stays },
    )

pub loop-item-preserved : goal.loop-item-preserved
unfolding IsKeyed
loop-item-preserved g c =
    let old = c.args.self.now in
    let between = c.loop-item.self in
    let new = c.insert_or_halt.new.self in
    let x = c.in-Some.item in
    let put = c.in_ok-insert_or_halt.ensures in
    let inv = c.loop-item.invariant in
    let goes = on x c.in-Some.is c.next.ensures.goes inv.1 in (
      goes.0,
      goes.1,
      adds_last (by_one_key g.T.IdHashItem.key g.met.T.Key.Eq.laws) c.loop-item.yielded old.items between.items inv.2 x new.items put.absent put.inserted.inserts.added,
      record {
        fills = fills_on (holding_of old) (holding_of between) (holding_of new) inv.3.fills (fills_taken x (holding_of between) (holding_of new) put.inserted.inserts);
        stays = stays_on (KeyedItems g.T.IdHashItem.key g.T.Key.PartialEq.eq g.T.Key.Hash.hash_input (hash_under g.S.BuildHasher g.S.Hasher.Hasher)) old between new inv.3.stays put.inserted.stays;
      },
    )

pub returns-in-Err : goal.returns-in-Err
returns-in-Err g c =
    let kept = c.in-Err.ensures.kept in
    record {
      added = tt;
      halted = search rules;
      spare_first = tt;
      fills = record { fills = fills_kept (holding_of c.args.self.now) (holding_of c.reserve.new.self) c.len.ensures.slots kept.keeps; stays = kept.stays };
    }

pub returns-in_err-insert_or_halt : goal.returns-in_err-insert_or_halt
returns-in_err-insert_or_halt g c =
    let old = c.args.self.now in
    let inv = c.loop-item.invariant in
    let back = err_from_is_err_and c.from_residual.result c.from_residual.ensures.1 in
    let stopped = c.in_err-insert_or_halt.ensures in
    let gives = GivesThen g.U.IntoIterator.into_iter_gives g.U.IntoIter.Iterator.next_gives c.args.iter in
    rw back.1 (record {
      added = tt;
      halted = halts_adding g.T.IdHashItem.key g.met.T.Key.Eq.laws gives (holding_of old) (holding_of c.loop-item.self) (holding_of c.insert_or_halt.new.self) c.loop-item.yielded inv.2 inv.3.fills.limit stopped.kept.keeps c.in-Some.item (gives_then g.U.IntoIterator.into_iter_gives g.U.IntoIter.Iterator.next_gives c.args.iter c.loop-item.yielded c.in-Some.item (search rules)) _ (rw back.2 stopped.halted);
      spare_first = search rules;
      fills = search rules;
    })

pub returns : goal.returns
unfolding IsKeyed
returns g c =
    let inv = c.loop-item.invariant in
    record {
      added = (c.loop-item.yielded, gives_all g.U.IntoIterator.into_iter_gives g.U.IntoIter.Iterator.next_gives c.args.iter c.loop-item.yielded (search rules), inv.2);
      halted = tt;
      spare_first = tt;
      fills = inv.3;
    }

pub loop-item-smaller : goal.loop-item-smaller
loop-item-smaller g c = search rules
