use Rattle.std.proofs.Common.{◌≡◌, ◌+◌, ◌++◌, length, take, drop, is_some, ap, sym, ◌∙◌, arith}
use Rattle.iddqd_store.specs.Store.{item_at}
use Rattle.iddqd_ord_index.specs.Listed.{occupied_slots}
use Rattle.iddqd_ord_index.proofs.OccupiedLemmas.{few_filtered, moved, read_within}
use Rattle.iddqd_ord_index.proofs.ord_index.retain_occupied.move_occupied.Goals as goal

pub overflow_add-at : goal.overflow_add-at
overflow_add-at g c =
    let read = sym (ap (λ l. l ++ drop c.read.at c.read.root.slots) c.new-run.ensures) ∙ c.append-at.ensures.appended.1 in
    let within = read_within c.read.root.slots c.append-at.new.slots.items c.append-at.ensures.appended.0 c.read.at read (omega (arith, c.append-at.ensures.more)) in
    omega (arith, within, c.len.ensures.value, c.read.invariant.len, c.requires.len, c.ranges.len.fits)

pub write_all-requires-clause-in_list : goal.write_all-requires-clause-in_list
write_all-requires-clause-in_list g c =
    let run = c.append-at.new.slots.items in
    let read = sym (ap (λ l. l ++ drop c.read.at c.read.root.slots) c.new-run.ensures) ∙ c.append-at.ensures.appended.1 in
    let within = read_within c.read.root.slots run c.append-at.ensures.appended.0 c.read.at read (omega (arith, c.append-at.ensures.more)) in
    let few = few_filtered (λ slot. is_some (item_at c.args.store.now slot)) run in
    let passed = c.as_slice-in-read.ensures.value ∙ (c.occupied_of-occupied.ensures ∙ ap (occupied_slots c.args.store.now) c.as_slice.ensures.value) in
    omega (arith, within, few, ap length passed, c.read.invariant.most)

pub read-preserved : goal.read-preserved
read-preserved g c =
    let run = c.append-at.new.slots.items in
    let old = c.read.root.slots in
    let new = c.write_all.new.root.slots in
    let inv = c.read.invariant in
    let e = c.write_all.ensures in
    let written = c.as_slice-in-read.result.now in
    let read = sym (ap (λ l. l ++ drop c.read.at old) c.new-run.ensures) ∙ c.append-at.ensures.appended.1 in
    let within = read_within old run c.append-at.ensures.appended.0 c.read.at read (omega (arith, c.append-at.ensures.more)) in
    let few = few_filtered (λ slot. is_some (item_at c.args.store.now slot)) run in
    let passed = c.as_slice-in-read.ensures.value ∙ (c.occupied_of-occupied.ensures ∙ ap (occupied_slots c.args.store.now) c.as_slice.ensures.value) in
    let long : c.len-in-read.result ≡ length written = c.len-in-read.ensures.value ∙ ap length (sym c.as_slice-in-read.ensures.value) in
    let all = moved (λ slot. is_some (item_at c.args.store.now slot)) old new run c.append-at.ensures.appended.0 written c.read.kept c.read.at read passed e.front e.back inv.most in
    record {
      slots = ap (λ n. take (c.read.kept + n) new ++ occupied_slots c.args.store.now (drop (c.read.at + c.len.result) new)) long
          ∙ (ap (λ n. take (c.read.kept + length written) new ++ occupied_slots c.args.store.now (drop (c.read.at + n) new)) c.len.ensures.value ∙ (all ∙ inv.slots));
      most = omega (arith, long, ap length passed, few, c.len.ensures.value, inv.most);
      within = omega (arith, within, c.len.ensures.value, inv.len, c.requires.len);
      len = e.len ∙ inv.len;
      height = e.height ∙ inv.height;
      width = e.width ∙ inv.width;
      dense = e.dense;
    }
