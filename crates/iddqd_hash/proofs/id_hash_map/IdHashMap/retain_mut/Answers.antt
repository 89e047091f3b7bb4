use Rattle.std.proofs.Common.{◌≡◌, ◌∙◌, ◌++◌, sym, subst, arith, Some, true, false, slice_get, set, length, ap, rules, take, drop}
use Rattle.std.specs.List.{remove}
use Rattle.std.proofs.lemmas.List.{length-set}
use Rattle.std.proofs.lemmas.List.Edits.{length-remove}
use Rattle.std.proofs.lemmas.Option.{slice_get_within}
use Rattle.iddqd_store.specs.SlotItems.{still_there}
use Rattle.iddqd_store.specs.Visiting.{kept_by, visitor_after}
use Rattle.iddqd_store.proofs.VisitLemmas.{visited_dropped, visited_kept, visitor_dropped, visitor_kept, written_then_removed}
use Rattle.iddqd_store.proofs.WrittenLemmas.{place_read}
use Rattle.iddqd_hash_parts.specs.SlotOrder.{slots_below}
use Rattle.iddqd_hash_parts.proofs.RisingLemmas.{below_gone, below_next, below_zero, there_listed}
use Rattle.iddqd_hash.proofs.id_hash_map.IdHashMap.retain_mut.Goals.{then-not-visit_slot, else-not-visit_slot}
use Rattle.iddqd_hash_parts.specs.HashItems.{IsKeyed}
use Rattle.iddqd_hash.proofs.id_hash_map.IdHashMap.retain_mut.Goals as goal

pub loop-slot-init : goal.loop-slot-init
unfolding IsKeyed
loop-slot-init g c =
    let m = c.args.self.now in
    let visits = g.V.Visit.visits in
    let v = c.args.visitor.now in
    record {
      items = subst (λ at. kept_by visits v m.items ≡ take at m.items ++ kept_by visits v (drop at m.items)) (sym (below_zero m.slots)) (search rules);
      visitor = subst (λ at. visitor_after visits v m.items ≡ visitor_after visits v (drop at m.items)) (sym (below_zero m.slots)) (search rules);
      vacant = search rules;
      capacity = search rules;
      limit = search rules;
      hasher = search rules;
      spare = omega arith;
      keyed = c.requires.keyed;
    }

pub visit_slot-requires-clause-there : goal.visit_slot-requires-clause-there
visit_slot-requires-clause-there g c =
    let m = c.loop-slot.self in
    there_listed m.slots (slots_below c.loop-slot.next m.slots) c.in-Some.slot c.in-Some.ensures.found.there m.items c.in-Some.ensures.found.own

pub take_slot-requires-clause-there : goal.take_slot-requires-clause-there
take_slot-requires-clause-there g c =
    let m = c.loop-slot.self in
    let slot = c.in-Some.slot in
    let some = there_listed m.slots (slots_below c.loop-slot.next m.slots) slot c.in-Some.ensures.found.there m.items c.in-Some.ensures.found.own in
    rw (c.visit_slot.ensures.visits.4) (still_there m.slots m.items slot c.visit_slot.ensures.visits.1 some)

pub loop-slot-preserved : goal.loop-slot-preserved
unfolding IsKeyed
loop-slot-preserved g c =
    let l = c.loop-slot in
    let m = l.self in
    let slot = c.in-Some.slot in
    let at = slots_below l.next m.slots in
    let found = c.in-Some.ensures.found in
    let visits = g.V.Visit.visits in
    let saw = c.visit_slot.ensures.visits in
    let x = saw.0 in
    let y = saw.1 in
    let v = c.visit_slot.new.visitor in
    let read = place_read m.slots m.items at slot found.own found.there in
    let there : slice_get m.items at ≡ Some x = sym read.item ∙ saw.2 in
    let items : c.visit_slot.new.self.items ≡ set m.items at y = ap (λ n. n.items) saw.4 ∙ read.written y in
    let slots = ap (λ n. n.slots) saw.4 in
    let within = slice_get_within m.items at _ there in
    let many = length-set m.items at y in
    let fewer = length-remove m.items at within in
    elim c.if-not-visit_slot.branch [
      | then-not-visit_slot w ↦ (
          let told : visits l.visitor x ≡ (v, y, false) = saw.3 ∙ ap (λ b. (v, y, b)) (search rules) in
          let gone = w.take_slot.ensures.gone at (ap (λ ns. slice_get ns at) slots ∙ found.there) in
          let left : w.take_slot.new.self.items ≡ remove m.items at = gone.0 ∙ ap (λ xs. remove xs at) items ∙ written_then_removed m.items at y in
          let numbers : w.take_slot.new.self.slots ≡ remove m.slots at = gone.1 ∙ ap (λ ns. remove ns at) slots in
          let below = below_gone m.slots at slot found.there found.rises in
          let count = ap length left in
          record {
            items = rw (w.self-is, left, numbers, below) (l.invariant.items ∙ visited_dropped visits l.visitor v x y m.items at there told);
            visitor = rw (w.self-is, left, numbers, below) (l.invariant.visitor ∙ visitor_dropped visits l.visitor v x y m.items at false there told);
            vacant = rw w.self-is (omega (arith, l.invariant.vacant, w.take_slot.ensures.removed.vacant, ap (λ n. n.vacant) saw.4, fewer, count));
            capacity = rw w.self-is (w.take_slot.ensures.removed.capacity ∙ ap (λ n. n.capacity) saw.4 ∙ l.invariant.capacity);
            limit = rw w.self-is (w.take_slot.ensures.removed.limit ∙ ap (λ n. n.limit) saw.4 ∙ l.invariant.limit);
            hasher = rw w.self-is (w.take_slot.ensures.stays.hasher ∙ ap (λ n. n.hasher) saw.4 ∙ l.invariant.hasher);
            spare = rw w.self-is (omega (arith, l.invariant.spare, w.take_slot.ensures.stays.spare.never_less, ap (λ n. n.spare) saw.4, ap length items, many));
            keyed = rw w.self-is w.take_slot.ensures.stays.keyed;
          }
          )
      | else-not-visit_slot w ↦ (
          let told : visits l.visitor x ≡ (v, y, true) = saw.3 ∙ ap (λ b. (v, y, b)) (search rules) in
          let below = below_next m.slots at slot found.there found.rises in
          record {
            items = rw (w.self-is, items, slots, below) (l.invariant.items ∙ visited_kept visits l.visitor v x y m.items at there told);
            visitor = rw (w.self-is, items, slots, below) (l.invariant.visitor ∙ visitor_kept visits l.visitor v x y m.items at true there told);
            vacant = rw w.self-is (omega (arith, l.invariant.vacant, ap (λ n. n.vacant) saw.4, ap length items, many));
            capacity = rw w.self-is (ap (λ n. n.capacity) saw.4 ∙ l.invariant.capacity);
            limit = rw w.self-is (ap (λ n. n.limit) saw.4 ∙ l.invariant.limit);
            hasher = rw w.self-is (ap (λ n. n.hasher) saw.4 ∙ l.invariant.hasher);
            spare = rw w.self-is (omega (arith, l.invariant.spare, ap (λ n. n.spare) saw.4, ap length items, many));
            keyed = rw w.self-is c.visit_slot.ensures.keyed;
          }
          )
    ]

pub loop-slot-smaller : goal.loop-slot-smaller
loop-slot-smaller g c =
    let l = c.loop-slot in
    let m = l.self in
    let slot = c.in-Some.slot in
    let at = slots_below l.next m.slots in
    let found = c.in-Some.ensures.found in
    let saw = c.visit_slot.ensures.visits in
    let slots = ap (λ n. n.slots) saw.4 in
    let within = slice_get_within m.slots at slot found.there in
    elim c.if-not-visit_slot.branch [
      | then-not-visit_slot w ↦ (
          let gone = w.take_slot.ensures.gone at (ap (λ ns. slice_get ns at) slots ∙ found.there) in
          let numbers = gone.1 ∙ ap (λ ns. remove ns at) slots in
          rw (w.self-is, numbers) (omega (arith, within, length-remove m.slots at within, below_gone m.slots at slot found.there found.rises))
          )
      | else-not-visit_slot w ↦ rw (w.self-is, slots) (omega (arith, within, below_next m.slots at slot found.there found.rises))
    ]

pub overflow_add-next : goal.overflow_add-next
overflow_add-next g c = search rules
