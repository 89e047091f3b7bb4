use Rattle.std.proofs.Common.{◌∙◌, ap, drop, length}
use Rattle.std.specs.Bound.{end_index, start_index}
use Rattle.iddqd_ord.specs.Ranges.{bound_now, items_at}
use Rattle.iddqd_ord.proofs.RangeLemmas.{part_within, take_to}
use Rattle.iddqd_ord.proofs.id_ord_map.IdOrdMap.range_index.Goals as goal

pub returns-clause-items : goal.returns-clause-items
returns-clause-items g c has =
    let items = c.args.self.now.items in
    let start = bound_now c.start_bound.result in
    let end = bound_now c.end_bound.result in
    c.iter_between.ensures.items
    ∙ (part_within items (start_index start) (end_index end (length items)) c.start_position-low.result c.end_position-high.result c.start_position-low.ensures (rw c.len.ensures.len at c.end_position-high.ensures)
    ∙ (ap (λ xs. drop (start_index start) xs) (take_to items end)
    ∙ (ap (λ b. items_at b end items) (c.start_bound.ensures has)
    ∙ ap (λ b. items_at (g.R.RangeBounds.start_bound c.args.range) b items) (c.end_bound.ensures has))))
