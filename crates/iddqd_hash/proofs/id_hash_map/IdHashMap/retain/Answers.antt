use Rattle.std.proofs.Common.{◌≡◌, ◌∙◌, sym, subst, arith, Some, slice_get, of_calls, length, ap, rules}
use Rattle.std.specs.Fn.{CalledAt}
use Rattle.std.proofs.lemmas.Fn.{called_at}
use Rattle.std.proofs.lemmas.List.Edits.{length-remove}
use Rattle.std.proofs.lemmas.Option.{slice_get_within}
use Rattle.iddqd_store.proofs.VisitLemmas.{IsAsked, asked_dropped, asked_end, asked_kept}
use Rattle.iddqd_store.proofs.WrittenLemmas.{place_read}
use Rattle.iddqd_hash_parts.specs.SlotOrder.{slots_below}
use Rattle.iddqd_hash_parts.proofs.InSlotLemmas.{stored_in_slot}
use Rattle.iddqd_hash_parts.proofs.RisingLemmas.{below_gone, below_next, below_zero}
use Rattle.iddqd_hash.proofs.id_hash_map.IdHashMap.retain.Goals.{then-not-keep, else-not-keep}
use Rattle.iddqd_hash_parts.specs.HashItems.{IsKeyed}
use Rattle.iddqd_hash.proofs.id_hash_map.IdHashMap.retain.Goals as goal

pub loop-slot-init : goal.loop-slot-init
unfolding IsKeyed
loop-slot-init g c =
    let m = c.args.self.now in
    record {
      callable = c.requires.callable;
      asked = subst (λ at. IsAsked (CalledAt g.F.FnMut) c.args.keep m.items c.args.keep m.items at) (sym (below_zero m.slots)) (λ ys filtered. filtered);
      vacant = search rules;
      capacity = search rules;
      limit = search rules;
      hasher = search rules;
      spare = omega arith;
      keyed = c.requires.keyed;
    }

pub take_hashed-requires-clause-listed : goal.take_hashed-requires-clause-listed
unfolding IsKeyed
take_hashed-requires-clause-listed g c =
    stored_in_slot _ _ _ _ c.loop-slot.self c.loop-slot.invariant.keyed c.in-Some.slot c.in-Some.item.now c.in-Some.ensures.found.item ∙ ap Some (sym c.hash_of-hash.ensures)

pub loop-slot-preserved : goal.loop-slot-preserved
unfolding IsKeyed
loop-slot-preserved g c =
    let l = c.loop-slot in
    let m = l.self in
    let slot = c.in-Some.slot in
    let at = slots_below l.next m.slots in
    let found = c.in-Some.ensures.found in
    let R = CalledAt g.F.FnMut in
    let there : slice_get m.items at ≡ Some c.in-Some.item.now = sym (place_read m.slots m.items at slot found.own found.there).item ∙ found.item in
    let within = slice_get_within m.items at _ there in
    let fewer = length-remove m.items at within in
    elim c.if-not-keep.branch [
      | then-not-keep w ↦ (
          let gone = w.take_hashed.ensures.gone at found.there in
          let asked = asked_dropped R c.args.keep c.args.self.now.items l.keep c.keep.new.self m.items at _ there (called_at g.F.FnMut c.keep.ensures (search rules)) l.invariant.asked in
          let below = below_gone m.slots at slot found.there found.rises in
          record {
            callable = search of_calls;
            asked = rw (w.self-is, gone.0, gone.1, below) asked;
            vacant = rw w.self-is (omega (arith, l.invariant.vacant, w.take_hashed.ensures.removed.vacant, fewer, ap length gone.0));
            capacity = rw w.self-is (w.take_hashed.ensures.removed.capacity ∙ l.invariant.capacity);
            limit = rw w.self-is (w.take_hashed.ensures.removed.limit ∙ l.invariant.limit);
            hasher = rw w.self-is (w.take_hashed.ensures.stays.hasher ∙ l.invariant.hasher);
            spare = rw w.self-is (omega (arith, l.invariant.spare, w.take_hashed.ensures.stays.spare.never_less));
            keyed = rw w.self-is w.take_hashed.ensures.stays.keyed;
          }
          )
      | else-not-keep w ↦ (
          let asked = asked_kept R c.args.keep c.args.self.now.items l.keep c.keep.new.self m.items at _ there (called_at g.F.FnMut c.keep.ensures (search rules)) l.invariant.asked in
          let below = below_next m.slots at slot found.there found.rises in
          record {
            callable = search of_calls;
            asked = rw (w.self-is, below) asked;
            vacant = rw w.self-is l.invariant.vacant;
            capacity = rw w.self-is l.invariant.capacity;
            limit = rw w.self-is l.invariant.limit;
            hasher = rw w.self-is l.invariant.hasher;
            spare = rw w.self-is l.invariant.spare;
            keyed = rw w.self-is l.invariant.keyed;
          }
          )
    ]

pub loop-slot-smaller : goal.loop-slot-smaller
loop-slot-smaller g c =
    let l = c.loop-slot in
    let m = l.self in
    let slot = c.in-Some.slot in
    let at = slots_below l.next m.slots in
    let found = c.in-Some.ensures.found in
    let within = slice_get_within m.slots at slot found.there in
    elim c.if-not-keep.branch [
      | then-not-keep w ↦ (
          let gone = w.take_hashed.ensures.gone at found.there in
          rw (w.self-is, gone.1) (omega (arith, within, length-remove m.slots at within, below_gone m.slots at slot found.there found.rises))
          )
      | else-not-keep w ↦ rw w.self-is (omega (arith, within, below_next m.slots at slot found.there found.rises))
    ]

pub returns-clause-filtered : goal.returns-clause-filtered
returns-clause-filtered g c =
    let l = c.loop-slot in
    asked_end (CalledAt g.F.FnMut) c.args.keep c.args.self.now.items l.keep l.self.items (slots_below l.next l.self.slots) (omega (arith, c.item_from.ensures.found.own.as_many, c.in_default.ensures.found.none)) l.invariant.asked
