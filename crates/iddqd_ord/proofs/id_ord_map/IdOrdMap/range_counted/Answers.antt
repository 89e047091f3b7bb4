use Rattle.std.proofs.Common.{◌≡◌, ◌-◌, ◌≤◌, ◌∙◌, length, length-take, drop, take, sum_by, ap, sym, subst, arith}
use Rattle.std.proofs.lemmas.List.Elements.{All-drop, All-take}
use Rattle.iddqd_ord_index.proofs.ListedLemmas.{length-listed, listed-part}
use Rattle.iddqd_ord_index.specs.Listed.{listed_items, AreOccupied}
use Rattle.iddqd_store.specs.Store.{IsOccupied}
use Rattle.iddqd_ord.specs.Ranges.{bound_now, is_from, is_up_to, items_between}
use Rattle.iddqd_store.proofs.CountingLemmas.{CountsAtMost-le, CountsAtMost-then}
use Rattle.iddqd_ord.proofs.RangeLemmas.{between_places, part_cut, sum-part, walk_begins}
use Rattle.iddqd_ord.proofs.id_ord_map.IdOrdMap.range_counted.Goals as goal

pub returns : goal.returns
returns g c =
    let m = c.self.inside in
    let key = g.T.IdOrdItem.key in
    let compare = g.Q.Comparable.compare in
    let items = c.args.self.now.items in
    let first = bound_now c.start_bound.result in
    let last = bound_now c.end_bound.result in
    let from = c.walk_from-walk.ensures.start in
    let low = from.0 in
    let high = c.end_of-high.result in
    let begins = walk_begins key compare first c.args.self.now c.walk_from-walk.result c.len.result c.walk_from-walk.ensures.own c.len.ensures.len from in
    let cut : c.saturating_sub.result ≡ high - low = omega (arith, c.saturating_sub.ensures, c.len-2.ensures.value, begins) in
    let slots : c.truncate.new.self ≡ drop low (take high m.index.slots) =
    c.truncate.ensures
    ∙ ap (take c.saturating_sub.result) (from.2 ∙ ap (λ v. drop low v.slots) (sym c.self.view_is))
    ∙ part_cut m.index.slots low high c.saturating_sub.result cut in
    let found : listed_items m.store c.truncate.new.self ≡ drop low (take high items) =
    ap (listed_items m.store) slots
    ∙ listed-part m.store m.index.slots low high c.self.invariant.occupied
    ∙ ap (λ v. drop low (take high v.items)) c.self.view_is in
    let occupied : AreOccupied m.store c.truncate.new.self =
    subst (AreOccupied m.store) (sym slots) (All-drop (IsOccupied m.store) low (take high m.index.slots) (All-take (IsOccupied m.store) high m.index.slots c.self.invariant.occupied)) in
    record {
      items = λ has.
          found
          ∙ sym (between_places (λ x. is_from compare first (key x)) (λ x. is_up_to compare last (key x)) items low high from.1 c.end_of-high.ensures.end)
          ∙ ap (λ b. items_between compare key b last items) (c.start_bound.ensures has)
          ∙ ap (λ b. items_between compare key (g.R.RangeBounds.start_bound c.args.range) b items) (c.end_bound.ensures has);
      part = record {
        part = (low, high, found);
        sums = λ h. subst (λ l. sum_by h l ≤ sum_by h items) (sym found) (sum-part h items low high);
        fits = omega (arith, c.walk_from-walk.ensures.fits, length-listed m.store c.truncate.new.self occupied, ap length c.truncate.ensures, length-take c.saturating_sub.result c.walk_from-walk.result);
      };
      steps = CountsAtMost-le (CountsAtMost-then c.walk_from-walk.ensures.steps c.end_of-high.ensures.steps) (omega arith);
    }
