use Rattle.std.proofs.Common.{ap, subst, rules}
use Rattle.std.proofs.iter.Next.{on}
use Rattle.iddqd_store.specs.Contents.{OverwritesItem}
use Rattle.iddqd_store.specs.Holding.{KeepsItems}
use Rattle.iddqd_store.proofs.CollectingLemmas.{fills_kept, fills_on, gives_all, gives_then, overwrites_last, overwritten}
use Rattle.iddqd_ord.proofs.id_ord_map.IdOrdMap.extend.Goals as goal

pub loop-item-preserved : goal.loop-item-preserved
loop-item-preserved g c =
    let key = g.T.IdOrdItem.key in
    let eq = g.T.Key.PartialEq.eq in
    let old = c.args.self.now in
    let between = c.loop-item.self in
    let new = c.insert_overwrite.new.self in
    let x = c.in-Some.item in
    let back = c.in-Ok.replaced in
    let told = c.in-Ok.ensures.put in
    let inv = c.loop-item.invariant in
    let goes = on x c.in-Some.is c.next.ensures.goes inv.1 in
    let put = overwritten key eq x between new inv.3.slots (λ h. h) (λ h. h.inserts) back told.found told.replaced told.inserted in (
      goes.0,
      goes.1,
      overwrites_last key eq old.limit x c.loop-item.yielded old.items between.items back new.items inv.2
          (subst (λ limit. OverwritesItem key eq x limit between.items back new.items) inv.3.limit put.0),
      fills_on old between new inv.3 put.1,
      c.in-Ok.ensures.keyed,
    )

pub loop-item-init : goal.loop-item-init
loop-item-init g c = search rules

pub returns-in-Err : goal.returns-in-Err
returns-in-Err g c =
    let old = c.args.self.now in
    let new = c.reserve.new.self in
    let rest = c.reserve.ensures.rest in
    let kept : KeepsItems old new = record { items = ap (λ m. m.items) rest; slots = ap (λ m. m.slots) rest; vacant = ap (λ m. m.vacant) rest; capacity = c.reserve.ensures.capacity; limit = ap (λ m. m.limit) rest } in
    record {
      taken = tt;
      stops = (tt, kept);
      fills = fills_kept old new c.len.ensures.slots kept;
      keyed = c.reserve.ensures.keyed;
    }

pub returns-in-Err-insert_overwrite : goal.returns-in-Err-insert_overwrite
returns-in-Err-insert_overwrite g c =
    let between = c.loop-item.self in
    let new = c.insert_overwrite.new.self in
    let inv = c.loop-item.invariant in
    let told = c.in-Err-insert_overwrite.ensures in
    record {
      taken = tt;
      stops = (let gave = gives_then g.U.IntoIterator.into_iter_gives g.U.IntoIter.Iterator.next_gives c.args.iter c.loop-item.yielded c.in-Some.item (search rules) in search rules);
      fills = fills_on c.args.self.now between new inv.3 (fills_kept between new inv.3.slots told.kept.keeps);
      keyed = told.keyed;
    }

pub returns : goal.returns
returns g c =
    let inv = c.loop-item.invariant in
    record {
      taken = (c.loop-item.yielded, gives_all g.U.IntoIterator.into_iter_gives g.U.IntoIter.Iterator.next_gives c.args.iter c.loop-item.yielded (search rules), inv.2);
      stops = tt;
      fills = inv.3;
      keyed = inv.4;
    }
