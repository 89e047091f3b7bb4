use Rattle.std.proofs.Common.{subst, ap, arith, length, rules}
use Rattle.std.proofs.iter.Next.{on}
use Rattle.iddqd_store.specs.Contents.{OverwritesItem}
use Rattle.iddqd_store.proofs.CollectingLemmas.{fills_kept, fills_on, gives_all, gives_then, overwrites_last, overwritten}
use Rattle.iddqd_store.specs.Hashing.{hash_under}
use Rattle.iddqd_hash_parts.specs.HashItems.{holding_of, IsKeyed, KeyedItems}
use Rattle.iddqd_hash_parts.proofs.MapLemmas.{stays_on}
use Rattle.iddqd_hash.proofs.id_hash_map.IdHashMap.extend.Goals as goal

pub loop-item-preserved : goal.loop-item-preserved
unfolding IsKeyed
loop-item-preserved g c =
    let key = g.T.IdHashItem.key in
    let eq = g.T.Key.PartialEq.eq in
    let old = c.args.self.now in
    let between = c.loop-item.self in
    let new = c.insert_overwrite.new.self in
    let x = c.in-Some.item in
    let back = c.in-Ok.replaced in
    let told = c.in-Ok.ensures in
    let inv = c.loop-item.invariant in
    let goes = on x c.in-Some.is c.next.ensures.goes inv.1 in
    let put = overwritten key eq x (holding_of between) (holding_of new) inv.3.fills.slots (λ h. ap holding_of h) (λ h. h) back told.put.found told.put.replaced told.put.inserted in (
      goes.0,
      goes.1,
      overwrites_last key eq old.limit x c.loop-item.yielded old.items between.items back new.items inv.2
          (subst (λ limit. OverwritesItem key eq x limit between.items back new.items) inv.3.fills.limit put.0),
      record {
        fills = fills_on (holding_of old) (holding_of between) (holding_of new) inv.3.fills put.1;
        stays = stays_on (KeyedItems key eq g.T.Key.Hash.hash_input (hash_under g.S.BuildHasher g.S.Hasher.Hasher)) old between new inv.3.stays told.stays;
      },
    )

pub loop-item-init : goal.loop-item-init
unfolding IsKeyed
loop-item-init g c = search rules

pub returns-in-Err : goal.returns-in-Err
returns-in-Err g c =
    let kept = c.in-Err.ensures.kept in
    record {
      taken = tt;
      stops = tt;
      spare_first = tt;
      not_begun = kept;
      fills = record { fills = fills_kept (holding_of c.args.self.now) (holding_of c.reserve.new.self) c.len.ensures.slots kept.keeps; stays = kept.stays };
    }

pub returns-in-Err-insert_overwrite : goal.returns-in-Err-insert_overwrite
unfolding IsKeyed
returns-in-Err-insert_overwrite g c =
    let inv = c.loop-item.invariant in
    let told = c.in-Err-insert_overwrite.ensures in
    let kept = told.kept in
    let old = c.args.self.now in
    let between = c.loop-item.self in
    let new = c.insert_overwrite.new.self in
    record {
      taken = tt;
      stops = (let gave = gives_then g.U.IntoIterator.into_iter_gives g.U.IntoIter.Iterator.next_gives c.args.iter c.loop-item.yielded c.in-Some.item (search rules) in search rules);
      spare_first = omega (arith, inv.3.stays.spare.never_less, told.refused.no_spare, ap length kept.keeps.items);
      not_begun = tt;
      fills = record {
        fills = fills_on (holding_of old) (holding_of between) (holding_of new) inv.3.fills (fills_kept (holding_of between) (holding_of new) inv.3.fills.slots kept.keeps);
        stays = stays_on (KeyedItems g.T.IdHashItem.key g.T.Key.PartialEq.eq g.T.Key.Hash.hash_input (hash_under g.S.BuildHasher g.S.Hasher.Hasher)) old between new inv.3.stays told.stays;
      };
    }

pub returns : goal.returns
unfolding IsKeyed
returns g c =
    let inv = c.loop-item.invariant in
    record {
      taken = (c.loop-item.yielded, gives_all g.U.IntoIterator.into_iter_gives g.U.IntoIter.Iterator.next_gives c.args.iter c.loop-item.yielded (search rules), inv.2);
      stops = tt;
      spare_first = tt;
      not_begun = tt;
      fills = inv.3;
    }
