use Rattle.std.proofs.Common.{◌≡◌, ℕ, ◌+◌, List, [], ◌∷◌, ◌++◌, length, sym, refl, ap, ◌∙◌, subst, arith, append_assoc, append-nil, zero-add, string_bytes}
use Rattle.std.proofs.lemmas.Bool.{eqb-true}
use Rattle.std.proofs.lemmas.List.{nil_from_length}
use Rattle.iddqd_run.specs.Answer.{RepliesWithRefusals}
use Rattle.idtable_lines.specs.Lines.{lines_of}
use Rattle.iddqd_run.specs.Shown.{Replies}
use Rattle.iddqd_run.proofs.ReplyLemmas.{line_step, plain_replies}
use Rattle.iddqd_run.proofs.ShownLemmas.{nothing_shown}
use Rattle.iddqd_run.proofs.answering.answer.Goals as goal

joined : (front reply text : List ℕ) → front ++ (reply ++ 10 ∷ text) ≡ (front ++ (reply ++ 10 ∷ [])) ++ text
joined front reply text = sym (append_assoc front (reply ++ 10 ∷ []) text ∙ ap (λ bs. front ++ bs) (append_assoc reply (10 ∷ []) text))

pub loop-rest-init : goal.loop-rest-init
loop-rest-init g c = let kind = g.M.ByName.kind in record {
  entries = [];
  shows = nothing_shown c.args.table c.requires.empty;
  replied = λ more text later. subst (λ bytes. RepliesWithRefusals kind (lines_of c.args.input.now) [] (0 + more) (bytes ++ text)) (sym c.new-text.ensures.bytes) (subst (λ n. RepliesWithRefusals kind (lines_of c.args.input.now) [] n text) (sym (zero-add more)) later);
  counted = omega arith;
}

pub loop-rest-preserved : goal.loop-rest-preserved
loop-rest-preserved g c =
    let kind = g.M.ByName.kind in
    let kept = c.loop-rest.invariant in
    let line = c.first_line.result.0.now in
    let after = c.first_line.result.1.now in
    let refusals = c.in_ok-refusals.field-0 in
    let old = c.loop-rest.table in
    let new = c.answer_line.new.self in
    let input = c.args.input.now in
    let front = string_bytes c.loop-rest.text in
    let line_text = string_bytes c.answer_line.new.text in
    let answered = subst (λ request. Replies kind request old new c.loop-rest.text c.answer_line.new.text refusals) c.parse.ensures c.in_ok-refusals.ensures in
    let reply = answered.reply in
    let step = line_step kind line (lines_of after) old new kept.entries kept.shows refusals reply answered.answers in
    record {
      entries = step.after;
      shows = step.is;
      replied = λ more text later.
          let here = subst (λ lines. RepliesWithRefusals kind lines kept.entries (refusals + more) (reply ++ 10 ∷ text)) (sym c.first_line.ensures.lines) (step.step more text later) in
          let all = kept.replied (refusals + more) (reply ++ 10 ∷ text) here in
          let count : c.loop-rest.refusals + (refusals + more) ≡ c.loop-rest.refusals + refusals + more = omega arith in
          let bytes : front ++ (reply ++ 10 ∷ text) ≡ line_text ++ text = joined front reply text ∙ ap (λ bs. bs ++ text) (sym answered.written) in
          subst (λ n. RepliesWithRefusals kind (lines_of input) [] n (line_text ++ text)) count (subst (λ bs. RepliesWithRefusals kind (lines_of input) [] (c.loop-rest.refusals + (refusals + more)) bs) bytes all);
      counted = omega (arith, kept.counted, c.first_line.ensures.shorter, step.few);
    }

pub returns : goal.returns
returns g c =
    let kind = g.M.ByName.kind in
    let kept = c.loop-rest.invariant in
    let input = c.args.input.now in
    let text = string_bytes c.loop-rest.text in
    let empty : c.loop-rest.rest.now ≡ [] = nil_from_length c.loop-rest.rest.now (eqb-true (length c.loop-rest.rest.now) 0 (sym c.loop-rest-test.ensures)) in
    let nothing : RepliesWithRefusals kind (lines_of c.loop-rest.rest.now) kept.entries 0 [] = subst (λ rest. RepliesWithRefusals kind (lines_of rest) kept.entries 0 []) (sym empty) (refl, refl) in
    let count : c.loop-rest.refusals + 0 ≡ c.loop-rest.refusals = omega arith in
    let replied = subst (λ n. RepliesWithRefusals kind (lines_of input) [] n text) count (subst (λ bs. RepliesWithRefusals kind (lines_of input) [] (c.loop-rest.refusals + 0) bs) (append-nil text) (kept.replied 0 [] nothing)) in
    record {
      replied = replied;
      whole = λ none. plain_replies kind (lines_of input) [] text (subst (λ n. RepliesWithRefusals kind (lines_of input) [] n text) none replied);
    }
