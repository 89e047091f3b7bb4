use Rattle.std.proofs.Common.{◌≡◌, drop, sym, ◌∙◌, arith, rules}
use Rattle.std.proofs.lemmas.List.{take_rest}
use Rattle.iddqd_ord_index.proofs.CutLemmas.{put_lower, put_upper}
use Rattle.iddqd_ord_index.proofs.tree.node.insert.split_slots.Goals as goal

pub returns-then-i-lt-KEPT-clause-items : goal.returns-then-i-lt-KEPT-clause-items
returns-then-i-lt-KEPT-clause-items c =
    let e = sym c.truncate.ensures.items ∙ c.in-Some.ensures.items in
    let f : c.extend_from_slice.new.self.items ≡ drop 6 c.args.slots.now.items = c.extend_from_slice.ensures.items ∙ (rw (c.requires.upper_empty, c.as_slice.ensures.value) (take_rest c.args.slots.now.items 6)) in
    rw (c.insert.ensures.items) (put_lower c.args.slots.now.items c.pop.new.self.items _ c.in-Some.middle c.args.i c.args.slot c.requires.full e f (omega arith))

pub returns-else-i-lt-KEPT-clause-items : goal.returns-else-i-lt-KEPT-clause-items
returns-else-i-lt-KEPT-clause-items c =
    let e = sym c.truncate.ensures.items ∙ c.in-Some.ensures.items in
    let f : c.extend_from_slice.new.self.items ≡ drop 6 c.args.slots.now.items = c.extend_from_slice.ensures.items ∙ (rw (c.requires.upper_empty, c.as_slice.ensures.value) (take_rest c.args.slots.now.items 6)) in
    rw (c.insert-else-i-lt-KEPT.ensures.items) (put_upper c.args.slots.now.items c.pop.new.self.items _ c.in-Some.middle c.args.i c.args.slot c.requires.full e f (omega arith))

pub overflow_sub-i : goal.overflow_sub-i
overflow_sub-i c = search rules
