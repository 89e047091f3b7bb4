use Rattle.std.proofs.Common.{rules, ◌≡◌, ◌∙◌, length, sym, ap, subst, string_bytes, IfOk}
use Rattle.std.specs.Result.{IsOk}
use Rattle.std.specs.String.{string_eq_equiv}
use Rattle.iddqd.specs.Refusal.{IsOnly}
use Rattle.idtable_lines.specs.Lines.{AddAll}
use Rattle.iddqd_run.specs.Shown.{Replies, entries_of}
use Rattle.iddqd_run.specs.declared.entries.LineReply.TheVariants.{AddedAll, DuplicateAfter}
use Rattle.iddqd_run.proofs.AddAllLemmas.{all_sent, conflict_sent, refused_sent}
use Rattle.idtable_commands.proofs.ExtendLemmas.{conflict_more}
use Rattle.iddqd_run.proofs.ReplyLemmas.{written}
use Rattle.iddqd_run.proofs.table.Table.add_entries.Goals as goal
use Rattle.iddqd_run.proofs.table.Table.add_entries.Goals.{in-Ok, in-Err-Duplicate, in-Err-Refused+in-Some-1, in-Err-Refused+in-None-1}

pub overflow_sub-count : goal.overflow_sub-count
overflow_sub-count g c =
    let new = (g.M.KeyedMap.state c.extend_unique.follows.lender-at-none).items in
    let told = rw (c.in-Err-Duplicate.is, c.in-Err-Duplicate.field-0-is) at c.extend_unique.follows.holds-at-none in
    let now : c.len.result ≡ length new = search rules in
    conflict_more g.M.KeyedMap.key string_eq_equiv (g.M.KeyedMap.limit c.self.inside.map) c.args.entries.items (g.M.KeyedMap.state c.self.inside.map) new c.len-before.result c.len.result c.len-before.ensures.len now c.in-Err-Duplicate.duplicate told.1

pub returns : goal.returns
returns g c =
    let kind = g.M.ByName.kind in
    let key = g.M.KeyedMap.key in
    let limit = g.M.KeyedMap.limit c.self.inside.map in
    let xs = c.args.entries.items in
    let request = AddAll (entries_of xs) in
    let old = g.M.KeyedMap.state c.self.inside.map in
    let new = (g.M.KeyedMap.state c.extend_unique.follows.lender-at-none).items in
    let before = c.args.text.now in
    rw (← c.self.view_is) (elim c.match-extend_unique.branch [
      | in-Ok w ↦
          let all = (g.M.KeyedMap.state (c.extend_unique.follows.lender tt)).items in
          let is : IsOk c.extend_unique.result = search rules in
          let told = c.extend_unique.follows.holds tt is in
          let answered = all_sent kind key c.self.invariant.names limit c.self.invariant.limit xs old all told.1 told.2 c.len-count.result (search rules) in
          let sent = written kind request old.items all (AddedAll c.len-count.result) before w.write_reply.new.text w.write_reply.result answered w.write_reply.ensures.refusals w.write_reply.ensures.line in
          rw (w.result-is, w.text-is, w.self-inside-is) (subst (λ items. IfOk w.write_reply.result (Replies kind request old.items items before w.write_reply.new.text)) (search rules) sent)
      | in-Err-Duplicate w ↦
          let told = rw (w.in-Err-Duplicate.is, w.in-Err-Duplicate.field-0-is) at c.extend_unique.follows.holds-at-none in
          let now : w.len.result ≡ length new = search rules in
          let reply = DuplicateAfter w.as_str-name.result w.value_of-value.result _ in
          let answered = conflict_sent kind key c.self.invariant.names limit c.self.invariant.limit xs old new w.in-Err-Duplicate.duplicate told.1 c.len-before.result w.len.result c.len-before.ensures.len now w.as_str-name.result w.value_of-value.result
          (w.as_str-name.ensures.value ∙ ap (λ entry. string_bytes entry.name) w.into_parts-new.ensures.new)
          (λ y lent. w.value_of-value.ensures y (subst (λ ds. IsOnly ds y) (sym w.into_parts-new.ensures.duplicates) lent)) in
          let sent = written kind request old.items new reply before w.write_reply-in-Err-Duplicate.new.text w.write_reply-in-Err-Duplicate.result answered w.write_reply-in-Err-Duplicate.ensures.refusals w.write_reply-in-Err-Duplicate.ensures.line in
          rw (w.result-is, w.text-is, w.self-inside-is) (subst (λ items. IfOk w.write_reply-in-Err-Duplicate.result (Replies kind request old.items items before w.write_reply-in-Err-Duplicate.new.text)) (search rules) sent)
      | in-Err-Refused+in-Some-1 w ↦
          let told = rw (w.in-Err-Refused.is, w.in-Err-Refused.field-0-is) at c.extend_unique.follows.holds-at-none in
          let answered = refused_sent kind key c.self.invariant.names limit c.self.invariant.limit xs old new w.in-Err-Refused.refused told.1 w.no_room.result w.no_room.ensures.entry w.no_room.ensures.space in
          let sent = written kind request old.items new w.no_room.result before w.write_reply-in-Err-Refused.new.text w.write_reply-in-Err-Refused.result answered w.write_reply-in-Err-Refused.ensures.refusals w.write_reply-in-Err-Refused.ensures.line in
          rw (w.result-is, w.text-is, w.self-inside-is) (subst (λ items. IfOk w.write_reply-in-Err-Refused.result (Replies kind request old.items items before w.write_reply-in-Err-Refused.new.text)) (search rules) sent)
      | in-Err-Refused+in-None-1 w ↦
          let told = rw (w.in-Err-Refused.is, w.in-Err-Refused.field-0-is) at c.extend_unique.follows.holds-at-none in
          let answered = refused_sent kind key c.self.invariant.names limit c.self.invariant.limit xs old new w.in-Err-Refused.refused told.1 w.no_room.result w.no_room.ensures.entry w.no_room.ensures.space in
          let sent = written kind request old.items new w.no_room.result before w.write_reply-in-Err-Refused.new.text w.write_reply-in-Err-Refused.result answered w.write_reply-in-Err-Refused.ensures.refusals w.write_reply-in-Err-Refused.ensures.line in
          rw (w.result-is, w.text-is, w.self-inside-is) (subst (λ items. IfOk w.write_reply-in-Err-Refused.result (Replies kind request old.items items before w.write_reply-in-Err-Refused.new.text)) (search rules) sent)
    ])
