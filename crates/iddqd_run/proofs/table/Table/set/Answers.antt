use Rattle.std.proofs.Common.{◌≡◌, ◌∙◌, Bool, Some, sym, ap, subst, String, Global}
use Rattle.std.specs.Prelude.{bytes_eq, string_bytes}
use Rattle.iddqd.specs.Contents.{find_item, items_overwritten}
use Rattle.idtable_lines.specs.Lines.{Set}
use Rattle.iddqd_run.specs.Shown.{AnswersRequest}
use Rattle.iddqd_run.specs.declared.entries.Entry.{Entry}
use Rattle.iddqd_run.specs.declared.entries.LineReply.TheVariants.{Set as Written}
use Rattle.iddqd_run.proofs.ShownLemmas.{set_absent, set_found}
use Rattle.iddqd_run.proofs.table.Table.set.Goals as goal
use Rattle.iddqd_run.proofs.table.Table.set.Goals.{in-Some, in-None}

pub returns : goal.returns
returns g c =
    let kind = g.M.ByName.kind in
    let name = c.args.name.now in
    let items = (g.M.KeyedMap.state c.self.inside.map).items in
    let new = (g.M.KeyedMap.state c.visit_found.new.self).items in
    let test : String Global → Bool = λ k. bytes_eq name (string_bytes k) in
    let key : Entry → String Global = λ entry. entry.name in
    rw (← c.self.view_is) (elim c.match-visit_found.branch [
      | in-Some w ↦
          let saw = w.in-Some.ensures.visited in
          let x = saw.0 in
          let found : find_item key test items ≡ Some x = rw (c.self.invariant.names, c.self.invariant.texts) at saw.2 in
          let made : new ≡ items_overwritten key test saw.1 items = rw (c.self.invariant.names, c.self.invariant.texts) at saw.4 in
          let after : new ≡ items_overwritten key test (record x { value = c.args.value }) items = made ∙ ap (λ p. items_overwritten key test p.1 items) (sym saw.3) in
          rw w.result-is (subst (λ v. AnswersRequest kind (Set name c.args.value) items (Written v) new) (ap (λ p. p.0.value) saw.3) (set_found kind name c.args.value items new x found after))
      | in-None w ↦
          let absent = rw (c.self.invariant.names, c.self.invariant.texts) at w.in-None.ensures.absent in
          rw w.result-is (set_absent kind name c.args.value items new absent (ap (λ m. (g.M.KeyedMap.state m).items) w.in-None.ensures.unchanged))
    ])
