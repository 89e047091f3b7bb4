use Rattle.std.proofs.Common.{◌≡◌, ◌<◌, ◌-◌, suc, length, take, set, get_or, Some, None, ap, ◌∙◌, arith}
use Rattle.std.proofs.lemmas.List.{with_items_is, get_or-map, length-take}
use Rattle.iddqd_store.specs.declared.item_store.chain.Slot.TheVariants.{Occupied}
use Rattle.iddqd_store.specs.Slots.{item_of, items_of}
use Rattle.iddqd_store.proofs.SlotLemmas.{first_is_vacant, vacant_within, IsChained-front, MovesLast-fill, count-moved}
use Rattle.iddqd_store.proofs.item_store.moves.move_last.Goals as goal

pub fill_first-requires-clause-chained : goal.fill_first-requires-clause-chained
fill_first-requires-clause-chained g c =
    let v = c.args.slots.now in
    let vacant = first_is_vacant v.items c.args.hole c.requires.chained c.requires.hole in
    let long : length v.items ≡ suc (v.len - 1) = omega (arith, vacant_within v.items c.args.hole vacant, v.ok.0) in
    rw (c.as_mut_slice.ensures.value, c.pop.ensures.rest) (IsChained-front v.items (v.len - 1) c.args.hole long c.requires.last c.requires.chained)

pub returns : goal.returns
returns g c =
    let v = c.args.slots.now in
    let es = v.items in
    let ws = c.fill_first.new.slots in
    let n = v.len - 1 in
    let item = c.in-Occupied.item in
    let vacant = first_is_vacant es c.args.hole c.requires.chained c.requires.hole in
    let within = vacant_within es c.args.hole vacant in
    let long : length es ≡ suc n = omega (arith, within, v.ok.0) in
    let some : 0 < v.len = omega (arith, within, v.ok.0) in
    let popped = c.pop.ensures.value (Occupied item) some in
    let was = c.unwrap.ensures in
    let is = c.in-Occupied.is in
    let read : get_or es n (Occupied item) ≡ Occupied item = cc in
    let held = get_or-map item_of es n (Occupied item) None (omega arith) ∙ ap item_of read in
    let filled : items_of ws ≡ set (items_of (take n es)) c.args.hole (Some item) = c.fill_first.ensures.items ∙ ap (λ xs. set (items_of xs) c.args.hole (Some item)) (c.as_mut_slice.ensures.value ∙ c.pop.ensures.rest) in
    let same : length ws ≡ c.pop.new.self.len = omega arith in
    rw (with_items_is c.pop.new.self ws same) (record {
      chained = c.fill_first.ensures.chained;
      moves = MovesLast-fill es ws n c.args.hole item long held vacant filled;
      count = count-moved es ws n c.args.hole item long held vacant filled;
      shorter = omega (arith, some, c.pop.new.self.ok.0, ap length c.pop.ensures.rest, length-take n es, v.ok.0);
      capacity = c.pop.ensures.capacity;
    })
