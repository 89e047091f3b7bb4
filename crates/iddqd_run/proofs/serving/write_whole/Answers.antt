use Rattle.std.proofs.Common.{◌≡◌, ℕ, ◌-◌, List, ◌++◌, length, take, drop, sym, ap, ◌∙◌, append_assoc, take-append-drop, arith}
use Rattle.std.proofs.lemmas.List.{take_rest}
use Rattle.std.proofs.lemmas.Grind.{common_steps}
use Rattle.std.proofs.KnownBytes.{Appends-trans, Appends-kept}
use Rattle.iddqd_run.proofs.serving.write_whole.Goals as goal
use Rattle.iddqd_run.proofs.serving.write_whole.Goals.{in-Ok, in-Err+else-ne}

-- n bytes more
moved : (all front rest : List ℕ) (n : ℕ) → all ≡ front ++ rest → all ≡ (front ++ take n rest) ++ take (length rest - n) (drop n rest)
moved all front rest n e = e ∙ ap (λ l. front ++ l) (sym (take-append-drop n rest) ∙ ap (λ l. take n rest ++ l) (sym (take_rest rest n))) ∙ sym (append_assoc front (take n rest) (take (length rest - n) (drop n rest)))

pub loop-preserved : goal.loop-preserved
loop-preserved g c =
    let (front, split, appended) = c.loop.invariant in
    elim c.match-write.branch [
      | in-Ok w ↦ (front ++ take w.in-Ok.count c.loop.rest.now, rw w.rest-is (moved c.args.text.now front c.loop.rest.now w.in-Ok.count split), Appends-trans _ _ _ _ _ appended w.in-Ok.ensures.bytes)
      | in-Err+else-ne w ↦ (front, rw w.rest-is split, Appends-kept _ _ _ _ appended w.in-Err.ensures.bytes)
    ]

pub returns-then-ne-clause-begun : goal.returns-then-ne-clause-begun
returns-then-ne-clause-begun g c = grind (arith, common_steps)

pub returns-then-is_empty-clause-whole : goal.returns-then-is_empty-clause-whole
returns-then-is_empty-clause-whole g c = grind (arith, common_steps)

pub returns-in-Ok-eq0-clause-begun : goal.returns-in-Ok-eq0-clause-begun
returns-in-Ok-eq0-clause-begun g c = grind (arith, common_steps)

pub returns-clause-begun : goal.returns-clause-begun
returns-clause-begun g c = grind (arith, common_steps)
