use Rattle.std.proofs.Common.{refl, arith}
use Rattle.idtable_lines.specs.Lines.{Put}
use Rattle.iddqd_run.specs.declared.entries.LineReply.TheVariants.{New}
use Rattle.iddqd_run.proofs.ShownLemmas.{put_makes, made_plainly, full_plainly, replaced_answered, no_room_answered}
use Rattle.iddqd_run.proofs.table.Table.put_entry.Goals as goal
use Rattle.iddqd_run.proofs.table.Table.put_entry.Goals.{in-Ok-Some, in-Ok-None, in-Err}

pub returns-clause-reply : goal.returns-clause-reply
returns-clause-reply g c =
    let kind = g.M.ByName.kind in
    let name = c.args.name.now in
    let x = c.args.entry in
    let items = (g.M.KeyedMap.state c.self.inside.map).items in
    let makes = put_makes kind name x.value in
    rw (← c.self.view_is) (elim c.match-insert_overwrite.branch [
      | in-Ok-Some w ↦
          let overwritten = rw (w.in-Ok-Some.field-0-is, c.self.invariant.names) at w.in-Ok-Some.ensures.overwritten in
          rw w.result-is (replaced_answered kind x items name c.requires.name _ w.in-Ok-Some.old overwritten.0 overwritten.1)
      | in-Ok-None w ↦
          let overwritten = rw (w.in-Ok-None.field-0-is, c.self.invariant.names) at w.in-Ok-None.ensures.overwritten in
          rw w.result-is (λ entries shows. made_plainly kind x items name c.requires.name _ overwritten.0 (Put name x.value) New makes entries shows (omega (arith, overwritten.1, c.self.invariant.limit)) overwritten.2)
      | in-Err w ↦
          let refused = rw c.self.invariant.names at w.in-Err.ensures.refused in
          let stays = w.in-Err.ensures.unchanged in
          rw w.result-is (no_room_answered kind (Put name x.value) items _ w.no_room.result (λ _. refl) (λ full entries shows. full_plainly kind x items name c.requires.name _ refused.1.0 (Put name x.value) New makes entries shows full stays) stays (w.no_room.ensures.entry items (rw c.self.invariant.limit at refused.1.1)))
    ])
