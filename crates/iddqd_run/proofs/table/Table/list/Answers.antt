use Rattle.std.proofs.Common.{◌≡◌, ◌++◌, ◌∷◌, [], OnOk, refl, ap, ◌∙◌, subst, arith, append_assoc, inl, string_bytes}
use Rattle.idtable_lines.specs.Lines.{ListAll}
use Rattle.iddqd_run.specs.Shown.{ListsItems, reply_text}
use Rattle.iddqd_run.specs.declared.entries.LineReply.TheVariants.{RefusedMemory}
use Rattle.iddqd_run.proofs.ReplyLemmas.{written}
use Rattle.iddqd_run.proofs.ShownLemmas.{refused_answered}
use Rattle.iddqd_run.proofs.table.Table.list.Goals as goal

pub returns-in_ok-push-in-Ok : goal.returns-in_ok-push-in-Ok
returns-in_ok-push-in-Ok g c =
    rw (← c.self.view_is) (let before = string_bytes c.args.text.now in
    let lists = subst (λ items. ListsItems items c.args.text.now c.write_list.new.text) (c.self.invariant.items c.self.inside.map) c.in-Ok.ensures.listed in
    let pushed : string_bytes c.push.new.self ≡ string_bytes c.write_list.new.text ++ 10 ∷ [] = c.in_ok-push-in-Ok.ensures.bytes ∙ ap (λ bytes. string_bytes c.write_list.new.text ++ bytes) (c.in_ok-push-in-Ok.ensures.ascii (omega arith)) in
    record {
      reply = lists.listed;
      written = pushed ∙ ap (λ bytes. bytes ++ 10 ∷ []) lists.written ∙ append_assoc before lists.listed (10 ∷ []);
      answers = λ entries shows. inl (refl, record { text = lists.shows entries shows; after = shows });
    })

pub returns-in-Err-Entries : goal.returns-in-Err-Entries
returns-in-Err-Entries g c =
    rw (← c.self.view_is) (let kind = g.M.ByName.kind in
    let items = (g.M.KeyedMap.state c.self.inside.map).items in
    let refused = c.in-Err-Entries.ensures.refused c.in-Err-Entries.field-0-is in
    written kind ListAll items items RefusedMemory c.args.text.now c.write_reply.new.text c.write_reply.result
    (refused_answered kind ListAll items items (λ entries. (refused.0, refl)) refl) c.write_reply.ensures.refusals
    (subst (λ before. OnOk c.write_reply.result (string_bytes c.write_reply.new.text ≡ before ++ (reply_text RefusedMemory ++ 10 ∷ []))) refused.1 c.write_reply.ensures.line))
