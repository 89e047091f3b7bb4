use Rattle.std.proofs.Common.{◌∙◌, ap, arith, length, rules, sym}
use Rattle.std.proofs.iter.Next.{on}
use Rattle.iddqd_store.specs.Refusal.{refusal_kind}
use Rattle.iddqd_store.proofs.CollectingLemmas.{gives_all, gives_then}
use Rattle.iddqd_bi_hash.specs.BiHashItems.{holding_of}
use Rattle.iddqd_bi_hash.proofs.OverwrittenLemmas.{meets_none, overwrites_kept, overwrites_last, overwritten, refills_kept, refills_put, refills_refused}
use Rattle.iddqd_bi_hash.proofs.bi_hash_map.BiHashMap.extend.Goals as goal

pub loop-item-init : goal.loop-item-init
loop-item-init g c =
    let kept = c.reserve.ensures.kept in
    (search rules, search rules, kept.keeps, refills_kept _ c.args.self.now c.reserve.new.self c.len.ensures.slots kept)

pub loop-item-preserved : goal.loop-item-preserved
loop-item-preserved g c =
    let old = c.args.self.now in
    let between = c.loop-item.self in
    let new = c.insert_overwrite.new.self in
    let x = c.in-Some.item in
    let told = c.in-Ok.ensures in
    let inv = c.loop-item.invariant in
    let goes = on x c.in-Some.is c.next.ensures.goes inv.1 in
    let put = overwritten _ x between new c.in-Ok.replaced told.put in (
      goes.0,
      goes.1,
      overwrites_last g.T.BiHashItem.key1 g.T.BiHashItem.key2 g.T.K1.PartialEq.eq g.T.K2.PartialEq.eq x c.loop-item.yielded (holding_of old) (holding_of between) (holding_of new) inv.2 put,
      refills_put g.T.BiHashItem.key1 g.T.BiHashItem.key2 g.T.K1.PartialEq.eq g.T.K2.PartialEq.eq x _ old between new inv.3 put told.stays,
    )

pub returns-in-Err : goal.returns-in-Err
returns-in-Err g c =
    let kept = c.in-Err.ensures.kept in
    record {
      taken = tt;
      stops = tt;
      spare_first = tt;
      not_begun = kept;
      fills = refills_kept _ c.args.self.now c.reserve.new.self c.len.ensures.slots kept;
    }

pub returns-in-Err-insert_overwrite : goal.returns-in-Err-insert_overwrite
returns-in-Err-insert_overwrite g c =
    let inv = c.loop-item.invariant in
    let told = c.in-Err-insert_overwrite.ensures in
    let kept = told.kept in
    let old = c.args.self.now in
    let between = c.loop-item.self in
    let new = c.insert_overwrite.new.self in
    let x = c.in-Some.item in
    let gave = gives_then g.U.IntoIterator.into_iter_gives g.U.IntoIter.Iterator.next_gives c.args.iter c.loop-item.yielded x (search rules) in
    let none = meets_none g.T.BiHashItem.key1 g.T.BiHashItem.key2 g.T.K1.PartialEq.eq g.T.K2.PartialEq.eq x new.items (rw kept.keeps.items told.refused.absent) in
    let kind = told.refused.kind ∙ ap (λ l. refusal_kind l between.items) inv.3.limit ∙ ap (refusal_kind old.limit) (sym kept.keeps.items) in
    let all = overwrites_kept g.T.BiHashItem.key1 g.T.BiHashItem.key2 g.T.K1.PartialEq.eq g.T.K2.PartialEq.eq c.loop-item.yielded (holding_of old) (holding_of between) (holding_of new) inv.2 kept.keeps in
    record {
      taken = tt;
      stops = rw told.refused.item (c.loop-item.yielded, gave, all, (none, kind));
      spare_first = omega (arith, inv.3.stays.spare.never_less, told.refused.no_spare, ap length kept.keeps.items);
      not_begun = tt;
      fills = refills_refused _ old between new inv.3 kept;
    }

pub returns : goal.returns
returns g c =
    let inv = c.loop-item.invariant in
    record {
      taken = (c.loop-item.yielded, gives_all g.U.IntoIterator.into_iter_gives g.U.IntoIter.Iterator.next_gives c.args.iter c.loop-item.yielded (search rules), inv.2);
      stops = tt;
      spare_first = tt;
      not_begun = tt;
      fills = inv.3;
    }
