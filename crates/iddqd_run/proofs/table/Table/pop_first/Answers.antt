use Rattle.std.proofs.Common.{◌∙◌, ap, drop, slice_get, subst, sym}
use Rattle.idtable_lines.specs.Lines.{PopFirst}
use Rattle.iddqd_run.specs.Shown.{HasEnds}
use Rattle.iddqd_run.specs.declared.entries.LineReply.TheVariants.{Unsupported}
use Rattle.iddqd_run.proofs.EndLemmas.{pop_first_answered, pop_first_unsupported}
use Rattle.iddqd_run.proofs.ReplyLemmas.{written}
use Rattle.iddqd_run.proofs.table.Table.pop_first.Goals as goal
use Rattle.iddqd_run.proofs.table.Table.pop_first.Goals.{in-Ok+in-Some-1, in-Ok+in-None-1, in-Err}

pub returns : goal.returns
returns g c =
    let kind = g.M.ByName.kind in
    let items = (g.M.KeyedMap.state c.self.inside.map).items in
    let new = (g.M.KeyedMap.state c.take_least.new.self).items in
    let same = c.self.invariant.items c.self.inside.map in
    let before = c.args.text.now in
    rw (← c.self.view_is) (elim c.match-take_least.branch [
      | in-Ok+in-Some-1 w ↦
          let answered = pop_first_answered kind items (subst (HasEnds kind) same w.in-Ok.ensures.ordered) _ w.end_reply.result w.end_reply.ensures.text w.end_reply.ensures.plain
          (w.as_ref.ensures.value ∙ w.in-Ok.ensures.taken ∙ ap (λ xs. slice_get xs 0) same)
          new (sym (c.self.invariant.items c.take_least.new.self) ∙ w.in-Ok.ensures.left ∙ ap (λ xs. drop 1 xs) same) in
          rw (w.result-is, w.text-is) (written kind PopFirst items new w.end_reply.result before w.write_reply.new.text w.write_reply.result answered w.write_reply.ensures.refusals w.write_reply.ensures.line)
      | in-Ok+in-None-1 w ↦
          let answered = pop_first_answered kind items (subst (HasEnds kind) same w.in-Ok.ensures.ordered) _ w.end_reply.result w.end_reply.ensures.text w.end_reply.ensures.plain
          (w.as_ref.ensures.value ∙ w.in-Ok.ensures.taken ∙ ap (λ xs. slice_get xs 0) same)
          new (sym (c.self.invariant.items c.take_least.new.self) ∙ w.in-Ok.ensures.left ∙ ap (λ xs. drop 1 xs) same) in
          rw (w.result-is, w.text-is) (written kind PopFirst items new w.end_reply.result before w.write_reply.new.text w.write_reply.result answered w.write_reply.ensures.refusals w.write_reply.ensures.line)
      | in-Err w ↦
          let answered = pop_first_unsupported kind items new (ap (λ m. (g.M.KeyedMap.state m).items) w.in-Err.ensures.unchanged) w.in-Err.ensures.endless in
          rw (w.result-is, w.text-is) (written kind PopFirst items new Unsupported before w.write_reply-in-Err.new.text w.write_reply-in-Err.result answered w.write_reply-in-Err.ensures.refusals w.write_reply-in-Err.ensures.line)
    ])
