use Rattle.std.proofs.Common.{◌≡◌, ◌∙◌, ℕ, true, false, List, Option, Some, None, sym, ap, rules}
use Rattle.std.specs.Borrow.{Bor}
use Rattle.std.specs.Option.{option_map_or}
use Rattle.std.specs.Prelude.{MatchOption}
use Rattle.idtable_lines.specs.Lines.{Bad, Request, by_name, is_name, words_of}
use Rattle.idtable_lines.proofs.FormLemmas.{by_name_named, by_name_unnamed}
use Rattle.idtable_lines.proofs.lines.name_alone.Goals as goal

by_either : (ask : List ℕ → Request) (text : List ℕ) (found : Option (Bor (List ℕ))) → MatchOption found (is_name text ≡ false) (λ name. (is_name text ≡ true) × (name.now ≡ text)) → option_map_or (λ name. ask name.now) found Bad ≡ by_name ask (words_of text)
by_either ask text None e = sym (by_name_unnamed ask text e)
by_either ask text (Some name) e = ap ask e.1 ∙ sym (by_name_named ask text e.0)

pub returns : goal.returns
returns c ask =
    let whole = by_either ask c.in_ok-fields.field-0.now c.name_in.result c.name_in.ensures in
    search (rules, whole)
