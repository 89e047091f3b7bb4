use Rattle.std.proofs.Common.{sym, refl, subst, rules, arith}
use Rattle.std.specs.Result.{IsOk}
use Rattle.iddqd.specs.Refusal.{IsOnly}
use Rattle.idtable_lines.specs.Lines.{Add}
use Rattle.iddqd_run.specs.declared.entries.LineReply.TheVariants.{Added}
use Rattle.iddqd_run.proofs.ShownLemmas.{add_makes, made_plainly, full_plainly, duplicate_answered, no_room_answered}
use Rattle.iddqd_run.proofs.table.Table.add_entry.Goals as goal
use Rattle.iddqd_run.proofs.table.Table.add_entry.Goals.{in-Ok, in-Err-Duplicate, in-Err-Refused}

pub returns-clause-reply : goal.returns-clause-reply
returns-clause-reply g c =
    let kind = g.M.ByName.kind in
    let name = c.args.name.now in
    let x = c.args.entry in
    let items = (g.M.KeyedMap.state c.self.inside.map).items in
    let makes = add_makes kind name x.value in
    rw (← c.self.view_is) (elim c.match-insert_unique.branch [
      | in-Ok w ↦
          let is : IsOk c.insert_unique.result = search rules in
          let inserted = rw c.self.invariant.names at (c.insert_unique.follows.holds tt is).inserted in
          rw (w.result-is, w.self-inside-is) (λ entries shows. made_plainly kind x items name c.requires.name _ inserted.0 (Add name x.value) Added makes entries shows (omega (arith, inserted.1, c.self.invariant.limit)) (search rules))
      | in-Err-Duplicate w ↦
          let refused = rw (w.in-Err-Duplicate.field-0-is, c.self.invariant.names) at w.in-Err-Duplicate.ensures.refused in
          let lent = subst (λ ds. IsOnly ds refused.1) (sym w.duplicates.ensures) refused.2 in
          rw (w.result-is, w.self-inside-is) (duplicate_answered kind x items name c.requires.name _ refused.1 refused.3 c.args.name w.value_of.result refl (w.value_of.ensures refused.1 lent) (search rules))
      | in-Err-Refused w ↦
          let refused = rw (w.in-Err-Refused.field-0-is, c.self.invariant.names) at w.in-Err-Refused.ensures.refused in
          rw (w.result-is, w.self-inside-is) (no_room_answered kind (Add name x.value) items _ w.no_room.result (λ _. refl) (λ full entries shows. full_plainly kind x items name c.requires.name _ refused.1.0 (Add name x.value) Added makes entries shows full (search rules)) (search rules) (w.no_room.ensures.entry items (rw c.self.invariant.limit at refused.1.1)))
    ])
