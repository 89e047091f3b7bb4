use Rattle.std.proofs.Common.{◌<◌, subst, ◌∙◌, arith}
use Rattle.std.proofs.lemmas.Grind.{common_steps}
use Rattle.std.proofs.lemmas.List.{length-map}
use Rattle.iddqd_store.specs.Slots.{item_of, items_of, links_at, IsChained}
use Rattle.iddqd_store.proofs.SlotLemmas.{full_at_none, both_counts, ends_occupied, fewer_vacant, MovesLast-along}
use Rattle.iddqd_store.proofs.item_store.ItemStore.last_into_hole.Goals as goal

pub returns-then-self-clause-none_vacant : goal.returns-then-self-clause-none_vacant
returns-then-self-clause-none_vacant g c =
    let es = c.cut_vacant-self-inside.new.slots.items in
    let full = full_at_none es (subst (IsChained (links_at es)) c.if-self.true c.cut_vacant-self-inside.ensures.chained) in
    omega (arith, full, both_counts (items_of es), length-map es item_of)

pub returns-then-self-clause-none_moves : goal.returns-then-self-clause-none_moves
returns-then-self-clause-none_moves g c = rw (← c.self.view_is) c.cut_vacant-self-inside.ensures.items.at

pub returns-clause-moves : goal.returns-clause-moves
returns-clause-moves g c =
    rw (← c.self.view_is, c.len-last.ensures)
    (MovesLast-along _ _ _ _ _ _ c.cut_vacant-self-inside.ensures.items c.move_last-self-inside.ensures.moves c.cut_vacant-self-inside-2.ensures.items)

pub returns-then-self-clause-cut : goal.returns-then-self-clause-cut
returns-then-self-clause-cut g c =
    let v = c.cut_vacant-self-inside.new.slots in
    ends_occupied v.items (rw (← v.ok.0) c.cut_vacant-self-inside.ensures.ends)

pub returns-clause-cut : goal.returns-clause-cut
returns-clause-cut g c =
    let v = c.cut_vacant-self-inside-2.new.slots in
    ends_occupied v.items (rw (← v.ok.0) c.cut_vacant-self-inside-2.ensures.ends)

pub returns-clause-fewer : goal.returns-clause-fewer
returns-clause-fewer g c =
    let es = c.self.inside.slots in
    let ws = c.cut_vacant-self-inside-2.new.slots in
    let same = c.cut_vacant-self-inside-2.ensures.items.count ∙ c.move_last-self-inside.ensures.count ∙ c.cut_vacant-self-inside.ensures.items.count in
    let shorter : ws.len < es.len = omega (arith, c.cut_vacant-self-inside-2.ensures.shorter, c.move_last-self-inside.ensures.shorter, c.cut_vacant-self-inside.ensures.shorter) in
    rw (← c.self.view_is) (fewer_vacant es.items ws.items same (omega (arith, shorter, es.ok.0, ws.ok.0)))

pub overflow_sub-last : goal.overflow_sub-last
overflow_sub-last g c = grind (arith, common_steps)

pub move_last-self-inside-requires-clause-last : goal.move_last-self-inside-requires-clause-last
move_last-self-inside-requires-clause-last g c = grind (arith, common_steps)
