-- The reply to one line more.
use Rattle.std.proofs.Common.{◌≡◌, ◌≤◌, ℕ, ◌+◌, List, [], ◌∷◌, ◌++◌, refl, sym, ap, ◌∙◌, subst, arith, inl, inr, ⊎_elim, Result, Ok, Err, IfOk, OnOk}
use Rattle.std.specs.Global.{Global}
use Rattle.std.specs.Prelude.{String}
use Rattle.iddqd_run.specs.Answer as answer
use Rattle.iddqd_run.specs.Answer.{RepliesWithRefusals, replies, line_reply, entries_after}
use Rattle.idtable_lines.specs.Lines.{Request, request_of}
use Rattle.iddqd_run.specs.Shown.{reply_text, refusals_of, AppendsBytes, line_of, AnswersInText, AnswersRequest, ShowsEntries, Replies}
use Rattle.idtable_lines.specs.declared.arguments.Kind.{Kind}
use Rattle.iddqd_run.specs.declared.entries.Entry.{Entry}
use Rattle.iddqd_run.specs.declared.entries.LineReply.{LineReply}
use Rattle.iddqd_run.specs.declared.entries.LineReply.TheVariants.{RefusedMemory}

module _ (kind : Kind) (line : List ℕ) (lines : List (List ℕ)) (old new : List Entry) (entries : List answer.Entry) (shows : ShowsEntries old entries) where
  -- the entries then, and what the later lines make of the reply
  pub record IsStep (refusals : ℕ) (reply : List ℕ) : Type 0 where
    pub after : List answer.Entry
    pub is : ShowsEntries new after
    pub step : (more : ℕ) (rest : List ℕ) → RepliesWithRefusals kind lines after more rest → RepliesWithRefusals kind (line ∷ lines) entries (refusals + more) (reply ++ 10 ∷ rest)
    pub few : refusals ≤ 1

  pub line_step : (refusals : ℕ) (reply : List ℕ) → AnswersInText kind (request_of line) old refusals reply new → IsStep refusals reply
  line_step refusals reply answers = ⊎_elim
      (λ plain. record {
        after = entries_after kind (request_of line) entries;
        is = plain.1.after;
        step = λ more rest later. inl (rest, ap (λ bytes. bytes ++ 10 ∷ rest) plain.1.text, subst (λ n. RepliesWithRefusals kind lines (entries_after kind (request_of line) entries) n rest) (omega (arith, plain.0)) later);
        few = omega (arith, plain.0);
      })
      (λ refused. record {
        after = refused.2.left;
        is = refused.2.after;
        step = λ more rest later. inr (refused.2.left, refused.2.by_request, more, rest, omega (arith, refused.0), ap (λ bytes. bytes ++ 10 ∷ rest) refused.1, later);
        few = omega (arith, refused.0);
      })
      (answers entries shows)

module _ (kind : Kind) (request : Request) (old new : List Entry) where
  pub in_text : (reply : LineReply) → AnswersRequest kind request old reply new → AnswersInText kind request old (refusals_of reply) (reply_text reply) new
  in_text RefusedMemory answers = λ entries shows. inr (refl, refl, answers entries shows)
  in_text reply answers = λ entries shows. inl (refl, answers entries shows)

  -- a reply that was written as a line
  pub written : {E : Type 0} (reply : LineReply) (before after : String Global) (result : Result ℕ E) → AnswersRequest kind request old reply new → IfOk result (λ refusals. refusals ≡ refusals_of reply) → OnOk result (AppendsBytes (line_of (reply_text reply)) before after) → IfOk result (Replies kind request old new before after)
  written reply before after (Ok refusals) answers count line = record { reply = reply_text reply; written = line; answers = subst (λ n. AnswersInText kind request old n (reply_text reply) new) (sym count) (in_text reply answers) }
  written reply before after (Err e) answers count line = tt

-- without a refusal the replies are the plain ones
pub plain_replies : (kind : Kind) (lines : List (List ℕ)) (entries : _) (text : List ℕ) → RepliesWithRefusals kind lines entries 0 text → text ≡ replies kind lines entries
plain_replies kind [] entries text r = r.1
plain_replies kind (line ∷ lines) entries text r = ⊎_elim
    (λ plain. plain.1 ∙ ap (λ rest. line_reply kind (request_of line) entries ++ 10 ∷ rest) (plain_replies kind lines (entries_after kind (request_of line) entries) plain.0 plain.2))
    (λ refused. cc (refused.4))
    r
