use Rattle.std.proofs.Common.{◌≡◌, ◌-◌, ◌++◌, ◌∙◌, max, take, drop, ap, arith}
use Rattle.iddqd_store.specs.Contents.{items_without}
use Rattle.iddqd_ord.specs.Ranges.{bound_now, is_between, is_from, is_up_to}
use Rattle.iddqd_ord.proofs.RangeLemmas.{places_out, walk_begins}
use Rattle.iddqd_ord.proofs.id_ord_map.IdOrdMap.remove_range.Goals as goal

pub returns-clause-items : goal.returns-clause-items
returns-clause-items g c has =
    let key = g.T.IdOrdItem.key in
    let compare = g.Q.Comparable.compare in
    let map = c.args.self.now in
    let old = map.items in
    let first = bound_now c.start_bound.result in
    let last = bound_now c.end_bound.result in
    let from = c.walk_from.ensures.start in
    let low : c.len-before.result - c.len.result ≡ from.0 = omega (arith, c.len.ensures.value, walk_begins key compare first map c.walk_from.result c.len-before.result c.walk_from.ensures.own c.len-before.ensures.len from) in
    let high = c.max-high.ensures ∙ ap (max c.end_of.result) low in
    let left = c.remove_between.ensures.items ∙ (ap (λ n. take n old ++ drop c.max-high.result old) low ∙ ap (λ n. take from.0 old ++ drop n old) high) in
    places_out (λ x. is_from compare first (key x)) (λ x. is_up_to compare last (key x)) old c.remove_between.new.self.items from.0 c.end_of.result from.1 c.end_of.ensures.end left
    ∙ (ap (λ b. items_without key (is_between compare b last) old) (c.start_bound.ensures has)
    ∙ ap (λ b. items_without key (is_between compare (g.R.RangeBounds.start_bound c.args.range) b) old) (c.end_bound.ensures has))

pub returns-clause-part : goal.returns-clause-part
returns-clause-part g c = record { low = c.len-before.result - c.len.result; high = c.max-high.result; in_order = omega (arith, c.max-high.ensures); left = c.remove_between.ensures.items }
