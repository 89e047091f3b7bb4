use Rattle.std.proofs.Common.{◌∙◌, ap, subst, sym}
use Rattle.idtable_lines.specs.Lines.{PopLast}
use Rattle.iddqd_run.specs.Answer.{last_of, without_last}
use Rattle.iddqd_run.specs.Shown.{HasEnds}
use Rattle.iddqd_run.specs.declared.entries.LineReply.TheVariants.{Unsupported}
use Rattle.iddqd_run.proofs.EndLemmas.{pop_last_answered, pop_last_unsupported}
use Rattle.iddqd_run.proofs.ReplyLemmas.{written}
use Rattle.iddqd_run.proofs.table.Table.pop_last.Goals as goal
use Rattle.iddqd_run.proofs.table.Table.pop_last.Goals.{in-Ok+in-Some-1, in-Ok+in-None-1, in-Err}

pub returns : goal.returns
returns g c =
    let kind = g.M.ByName.kind in
    let items = (g.M.KeyedMap.state c.self.inside.map).items in
    let new = (g.M.KeyedMap.state c.take_greatest.new.self).items in
    let same = c.self.invariant.items c.self.inside.map in
    let before = c.args.text.now in
    rw (← c.self.view_is) (elim c.match-take_greatest.branch [
      | in-Ok+in-Some-1 w ↦
          let answered = pop_last_answered kind items (subst (HasEnds kind) same w.in-Ok.ensures.ordered) _ w.end_reply.result w.end_reply.ensures.text w.end_reply.ensures.plain
          (w.as_ref.ensures.value ∙ w.in-Ok.ensures.taken ∙ ap last_of same)
          new (sym (c.self.invariant.items c.take_greatest.new.self) ∙ w.in-Ok.ensures.left ∙ ap without_last same) in
          rw (w.result-is, w.text-is) (written kind PopLast items new w.end_reply.result before w.write_reply.new.text w.write_reply.result answered w.write_reply.ensures.refusals w.write_reply.ensures.line)
      | in-Ok+in-None-1 w ↦
          let answered = pop_last_answered kind items (subst (HasEnds kind) same w.in-Ok.ensures.ordered) _ w.end_reply.result w.end_reply.ensures.text w.end_reply.ensures.plain
          (w.as_ref.ensures.value ∙ w.in-Ok.ensures.taken ∙ ap last_of same)
          new (sym (c.self.invariant.items c.take_greatest.new.self) ∙ w.in-Ok.ensures.left ∙ ap without_last same) in
          rw (w.result-is, w.text-is) (written kind PopLast items new w.end_reply.result before w.write_reply.new.text w.write_reply.result answered w.write_reply.ensures.refusals w.write_reply.ensures.line)
      | in-Err w ↦
          let answered = pop_last_unsupported kind items new (ap (λ m. (g.M.KeyedMap.state m).items) w.in-Err.ensures.unchanged) w.in-Err.ensures.endless in
          rw (w.result-is, w.text-is) (written kind PopLast items new Unsupported before w.write_reply-in-Err.new.text w.write_reply-in-Err.result answered w.write_reply-in-Err.ensures.refusals w.write_reply-in-Err.ensures.line)
    ])
