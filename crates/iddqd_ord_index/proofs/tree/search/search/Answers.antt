use Rattle.std.proofs.Common.{rules, ◌≡◌, ◌+◌, ◌-◌, ◌/◌, ◌<◌, ◌∙◌, length, get_or, arith, ap, Some, Less, Greater}
use Rattle.iddqd_store.specs.Store.{item_at}
use Rattle.iddqd_ord_index.specs.Standing.{slot_standing, standing}
use Rattle.iddqd_ord_index.proofs.DigitLemmas.{digits-fewer, digits_mono}
use Rattle.iddqd_ord_index.proofs.OrderLemmas.{all_above, all_below}
use Rattle.iddqd_ord_index.proofs.tree.search.search.Goals as goal

pub loop-low-init : goal.loop-low-init
loop-low-init g c = record {
  ordered = omega arith;
  within = omega arith;
  before = λ k a. absurd (omega arith);
  behind = λ k a b. absurd (omega arith);
  never_resets = omega arith;
  countable = omega arith;
  counted = omega (arith, digits_mono (length c.args.slots.now - 0) (length c.args.slots.now) (omega arith));
}

pub returns-else-order-lt0-clause-steps : goal.returns-else-order-lt0-clause-steps
returns-else-order-lt0-clause-steps g c = record {
  at_most = omega (arith, digits-fewer (c.loop-low.high - c.loop-low.low) 0 (omega arith) (omega arith));
  never_resets = omega arith;
}

pub loop-low-preserved-then-order-gt0 : goal.loop-low-preserved-then-order-gt0
loop-low-preserved-then-order-gt0 g c =
    let low = c.loop-low.low in
    let high = c.loop-low.high in
    let middle = low + (high - low) / 2 in
    let within : middle < length c.args.slots.now = omega (arith, c.loop-low.invariant.within) in
    let compare = g.Q.Comparable.compare c.args.query.now in
    let key = g.T.IdOrdItem.key in
    let item = c.item-item.result.now in
    let read : item_at c.args.store.now (get_or c.args.slots.now middle 0) ≡ Some item = c.item-item.ensures in
    let answer : compare (key item) ≡ Greater = search rules in
    record {
      ordered = omega arith;
      within = c.loop-low.invariant.within;
      before = all_above (slot_standing key compare c.args.store.now) c.args.slots.now middle c.requires.monotone within (ap (standing key compare) read ∙ answer);
      behind = c.loop-low.invariant.behind;
      never_resets = omega arith;
      countable = omega arith;
      counted = omega (arith, digits-fewer (high - low) (high - (middle + 1)) (omega arith) (omega arith));
    }

pub loop-low-preserved : goal.loop-low-preserved
loop-low-preserved g c =
    let low = c.loop-low.low in
    let high = c.loop-low.high in
    let middle = low + (high - low) / 2 in
    let within : middle < length c.args.slots.now = omega (arith, c.loop-low.invariant.within) in
    let compare = g.Q.Comparable.compare c.args.query.now in
    let key = g.T.IdOrdItem.key in
    let item = c.item-item.result.now in
    let read : item_at c.args.store.now (get_or c.args.slots.now middle 0) ≡ Some item = c.item-item.ensures in
    let answer : compare (key item) ≡ Less = search rules in
    record {
      ordered = omega arith;
      within = omega (arith, c.loop-low.invariant.within);
      before = c.loop-low.invariant.before;
      behind = all_below (slot_standing key compare c.args.store.now) c.args.slots.now middle c.requires.monotone (ap (standing key compare) read ∙ answer);
      never_resets = omega arith;
      countable = omega arith;
      counted = omega (arith, digits-fewer (high - low) (middle - low) (omega arith) (omega arith));
    }

pub returns-clause-place : goal.returns-clause-place
returns-clause-place g c =
    let e : c.loop-low.low ≡ c.loop-low.high = omega (arith, c.loop-low.invariant.ordered) in
    (omega (arith, c.loop-low.invariant.within), c.loop-low.invariant.before, λ k a b. c.loop-low.invariant.behind k (omega arith) b)
