use Rattle.std.proofs.Common.{◌≡◌, ◌+◌, ◌≤◌, ◌++◌, length, take, drop, ap, sym, ◌∙◌, subst, arith, append_assoc, length-drop}
use Rattle.std.proofs.Math.Seq.{take-add}
use Rattle.std.proofs.lemmas.List.{drop-drop, take_rest}
use Rattle.iddqd_ord_index.specs.NodeRemoval.{Writes}
use Rattle.iddqd_ord_index.proofs.PartLemmas.{written_back, written_front, written_length}
use Rattle.iddqd_ord_index.proofs.ord_index.retain_occupied.write_all.Goals as goal

pub overflow_cast-done : goal.overflow_cast-done
overflow_cast-done c = omega (arith, c.write.invariant.within, c.requires.in_list, c.requires.room)

pub overflow_add-at : goal.overflow_add-at
overflow_add-at c = omega (arith, c.write-test.true, c.requires.in_list, c.requires.room)

pub write-preserved : goal.write-preserved
write-preserved c =
    let at = c.args.at in
    let done = c.write.done in
    let count = c.write-done.result in
    let slots = c.args.slots.now in
    let first = c.args.root.now.slots in
    let old = c.write.root.slots in
    let new = c.write-done.new.self.slots in
    let inv = c.write.invariant in
    let e = c.write-done.ensures in
    let rest = take_rest slots done in
    let fits = subst (λ l. count ≤ length l) rest e.most in
    let wrote = subst (λ l. Writes (at + done) count l old new) rest e.slots in
    let n : at + (done + count) ≡ at + done + count = omega arith in
    let front = written_front (at + done) count (drop done slots) old new wrote fits in
    let back = written_back (at + done) count (drop done slots) old new wrote fits in
    record {
      front = ap (λ n. take n new) n ∙ (front ∙ (ap (λ l. l ++ take count (drop done slots)) inv.front
          ∙ (append_assoc (take at first) (take done slots) (take count (drop done slots)) ∙ ap (λ l. take at first ++ l) (sym (take-add done count slots)))));
      back = ap (λ n. drop n new) n ∙ (back ∙ (sym (drop-drop count (at + done) old) ∙ (ap (drop count) inv.back ∙ (drop-drop count (at + done) first ∙ ap (λ n. drop n first) (sym n)))));
      within = omega (arith, fits, length-drop done slots, inv.within);
      len = written_length (at + done) count (drop done slots) old new wrote fits ∙ inv.len;
      height = e.height ∙ inv.height;
      width = e.width ∙ inv.width;
      dense = e.dense;
    }
