use Rattle.std.proofs.Common.{[], rules, ap, subst, sym}
use Rattle.std.proofs.iter.Next.{on}
use Rattle.std.proofs.lemmas.Result.{err_from_is_err_and}
use Rattle.iddqd_store.specs.Collecting.{AddsAll, GivesThen}
use Rattle.iddqd_store.specs.Holding.{KeepsItems}
use Rattle.iddqd_store.specs.Query.{differ_from_ascends}
use Rattle.iddqd_store.proofs.AddingLemmas.{adds_last, adds_none, by_one_key, halts_adding}
use Rattle.iddqd_store.proofs.CollectingLemmas.{fills_kept, fills_on, fills_taken, gives_all, gives_then}
use Rattle.iddqd_ord.proofs.id_ord_map.IdOrdMap.insert_each.Goals as goal

pub loop-item-init : goal.loop-item-init
loop-item-init g c =
    let key = g.T.IdOrdItem.key in
    let eq = g.T.Key.PartialEq.eq in
    let old = c.args.self.now in
    let new = c.reserve.new.self in
    let rest = c.reserve.ensures.rest in
    let items = ap (λ m. m.items) rest in
    let differ = differ_from_ascends key g.T.Key.Ord.cmp g.met.T.Key.Ord.matches_eq old.items c.requires.keyed in
    let kept : KeepsItems old new = record { items = items; slots = ap (λ m. m.slots) rest; vacant = ap (λ m. m.vacant) rest; capacity = c.reserve.ensures.capacity; limit = ap (λ m. m.limit) rest } in (
      search rules,
      search rules,
      subst (AddsAll key eq [] old.items) (sym items) (adds_none (by_one_key key g.met.T.Key.Eq.laws) old.items differ),
      record { fills = fills_kept old new c.len.ensures.slots kept; keyed = c.reserve.ensures.keyed },
    )

pub loop-item-preserved : goal.loop-item-preserved
loop-item-preserved g c =
    let old = c.args.self.now in
    let between = c.loop-item.self in
    let new = c.insert_or_halt.new.self in
    let x = c.in-Some.item in
    let put = c.in_ok-insert_or_halt.ensures in
    let inv = c.loop-item.invariant in
    let goes = on x c.in-Some.is c.next.ensures.goes inv.1 in (
      goes.0,
      goes.1,
      adds_last (by_one_key g.T.IdOrdItem.key g.met.T.Key.Eq.laws) c.loop-item.yielded old.items between.items inv.2 x new.items put.absent put.inserted.inserts.added,
      record { fills = fills_on old between new inv.3.fills (fills_taken x between new put.inserted.inserts); keyed = put.inserted.keyed },
    )

pub returns-in-Err : goal.returns-in-Err
returns-in-Err g c =
    let old = c.args.self.now in
    let new = c.reserve.new.self in
    let rest = c.reserve.ensures.rest in
    let kept : KeepsItems old new = record { items = ap (λ m. m.items) rest; slots = ap (λ m. m.slots) rest; vacant = ap (λ m. m.vacant) rest; capacity = c.reserve.ensures.capacity; limit = ap (λ m. m.limit) rest } in
    record {
      added = tt;
      halted = search rules;
      fills = record { fills = fills_kept old new c.len.ensures.slots kept; keyed = c.reserve.ensures.keyed };
    }

pub returns-in_err-insert_or_halt : goal.returns-in_err-insert_or_halt
returns-in_err-insert_or_halt g c =
    let old = c.args.self.now in
    let between = c.loop-item.self in
    let new = c.insert_or_halt.new.self in
    let inv = c.loop-item.invariant in
    let back = err_from_is_err_and c.from_residual.result c.from_residual.ensures.1 in
    let stopped = c.in_err-insert_or_halt.ensures in
    let gives = GivesThen g.U.IntoIterator.into_iter_gives g.U.IntoIter.Iterator.next_gives c.args.iter in
    rw back.1 (record {
      added = tt;
      halted = halts_adding g.T.IdOrdItem.key g.met.T.Key.Eq.laws gives old between new c.loop-item.yielded inv.2 inv.3.fills.limit stopped.kept.keeps c.in-Some.item (gives_then g.U.IntoIterator.into_iter_gives g.U.IntoIter.Iterator.next_gives c.args.iter c.loop-item.yielded c.in-Some.item (search rules)) _ (rw back.2 stopped.halted);
      fills = record { fills = fills_on old between new inv.3.fills (fills_kept between new inv.3.fills.slots stopped.kept.keeps); keyed = stopped.kept.keyed };
    })

pub returns : goal.returns
returns g c =
    let inv = c.loop-item.invariant in
    record {
      added = (c.loop-item.yielded, gives_all g.U.IntoIterator.into_iter_gives g.U.IntoIter.Iterator.next_gives c.args.iter c.loop-item.yielded (search rules), inv.2);
      halted = tt;
      fills = inv.3;
    }

pub loop-item-smaller : goal.loop-item-smaller
loop-item-smaller g c = search rules
