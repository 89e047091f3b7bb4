-- What the fields after a word ask for, told of the text that they are.
--     words_some      a text has a word at least
--     words_one      the only word of a text is the text
--     by_name_whole, by_value_whole, by_rest      a text that is to be a name, a value, or the value after a name
--     by_pairs_whole, alone_told      a text that is to be pairs, and one that is to be absent
--     unknown_word      a word that is no name begins no form
use Rattle.std.proofs.Common.{◌≡◌, ◌≢◌, ℕ, zero, suc, ◌<◌, Bool, true, false, cond, eqb, List, [], ◌∷◌, length, get_or, sym, refl, ap, ◌∙◌, arith}
use Rattle.std.specs.Prelude.{⊤, nat_lt, nat_le, bytes_eq, ◌&&◌}
use Rattle.std.specs.List.{join_with_byte, list_all}
use Rattle.std.specs.Option.{option_map_or}
use Rattle.std.proofs.lemmas.Bool.Decides.{nat_tests}
use Rattle.std.proofs.lemmas.List.Splits.{length-slice_split, join_with_byte-slice_split}
use Rattle.std.proofs.lemmas.Slice.Eq.{bytes_eq-Decides}
use Rattle.idtable_lines.specs.Lines.{Bad, Request, alone, by_name, by_name_and_value, by_pairs, by_value, forms, is_name, is_name_byte, paired_request, pairs_of, request_by, value_of, words_of}
use Rattle.idtable_lines.proofs.Cuts.{words-whole}
use Rattle.idtable_lines.proofs.NameLemmas.{parts}
use Rattle.idtable_lines.proofs.ValueLemmas.{no_value, spelled_whole}

words_some : (text : List ℕ) → words_of text ≡ [] → ⊥
words_some text e = omega (arith, length-slice_split (λ b. eqb b 32) text, ap length e)

words_one : (text word : List ℕ) → words_of text ≡ word ∷ [] → word ≡ text
words_one text word e = sym (ap (join_with_byte 32) e) ∙ join_with_byte-slice_split 32 text

no_space : (byte : ℕ) → is_name_byte byte ≡ true → byte ≢ 32
no_space byte e is = grind (arith, nat_tests)

no_spaces : (word : List ℕ) → list_all is_name_byte word ≡ true → (k : ℕ) → k < length word → get_or word k 0 ≢ 32
no_spaces [] e k h = absurd (omega (arith, h))
no_spaces (byte ∷ word) e zero h = no_space byte (parts (is_name_byte byte) (list_all is_name_byte word) e).0
no_spaces (byte ∷ word) e (suc k) h = no_spaces word (parts (is_name_byte byte) (list_all is_name_byte word) e).1 k (omega (arith, h))

name_words : (name : List ℕ) → is_name name ≡ true → words_of name ≡ name ∷ []
name_words name e = words-whole name (no_spaces name (parts (nat_lt 0 (length name) && nat_le (length name) 32) (list_all is_name_byte name) e).1)

-- a text that is to be a name
pub by_name_named : (ask : List ℕ → Request) (text : List ℕ) → is_name text ≡ true → by_name ask (words_of text) ≡ ask text
by_name_named ask text e = ap (by_name ask) (name_words text e) ∙ rw e refl

pub by_name_unnamed : (ask : List ℕ → Request) (text : List ℕ) → is_name text ≡ false → by_name ask (words_of text) ≡ Bad
by_name_unnamed ask text e = by (words_of text) refl
  where
    by : (ws : List (List ℕ)) → words_of text ≡ ws → by_name ask ws ≡ Bad
    by [] is = refl
    by (name ∷ []) is = rw (ap is_name (words_one text name is) ∙ e) refl
    by (name ∷ more ∷ ws) is = refl

-- a text that is to be a value
pub by_value_whole : (ask : ℕ → Request) (text : List ℕ) → by_value ask (words_of text) ≡ option_map_or ask (value_of text) Bad
by_value_whole ask text = by (words_of text) refl
  where
    by : (ws : List (List ℕ)) → words_of text ≡ ws → by_value ask ws ≡ option_map_or ask (value_of text) Bad
    by [] is = absurd (words_some text is)
    by (value ∷ []) is = ap (λ w. option_map_or ask (value_of w) Bad) (words_one text value is)
    by (value ∷ more ∷ ws) is = ap (λ v. option_map_or ask v Bad) (no_value text (λ n s. let one : text ∷ [] ≡ value ∷ more ∷ ws = sym (spelled_whole text n s) ∙ is in cc))

-- a text that is to be the value after a name
pub by_named_rest : (ask : List ℕ → ℕ → Request) (name rest : List ℕ) → is_name name ≡ true → by_name_and_value ask (name ∷ words_of rest) ≡ option_map_or (ask name) (value_of rest) Bad
by_named_rest ask name rest named = by (words_of rest) refl
  where
    by : (ws : List (List ℕ)) → words_of rest ≡ ws → by_name_and_value ask (name ∷ ws) ≡ option_map_or (ask name) (value_of rest) Bad
    by [] is = absurd (words_some rest is)
    by (value ∷ []) is = rw named (ap (λ w. option_map_or (ask name) (value_of w) Bad) (words_one rest value is))
    by (value ∷ more ∷ ws) is = ap (λ v. option_map_or (ask name) v Bad) (no_value rest (λ n s. let one : rest ∷ [] ≡ value ∷ more ∷ ws = sym (spelled_whole rest n s) ∙ is in cc))

-- a text that is to be pairs
pub by_pairs_whole : (text : List ℕ) → by_pairs (words_of text) ≡ paired_request (pairs_of (words_of text))
by_pairs_whole text = by (words_of text) refl
  where
    by : (ws : List (List ℕ)) → words_of text ≡ ws → by_pairs ws ≡ paired_request (pairs_of ws)
    by [] is = absurd (words_some text is)
    by (field ∷ fields) is = refl

-- a text that is to be absent
pub alone_unless : (ask : Request) (text : List ℕ) → alone ask (words_of text) ≡ Bad
alone_unless ask text = by (words_of text) refl
  where
    by : (ws : List (List ℕ)) → words_of text ≡ ws → alone ask ws ≡ Bad
    by [] is = absurd (words_some text is)
    by (field ∷ fields) is = refl

-- a word that is no name begins no form
abbrev are_names : List (List ℕ × (List (List ℕ) → Request)) → Type 0
are_names [] = ⊤
are_names (form ∷ more) = (is_name form.0 ≡ true) × are_names more

one_more : (known word : List ℕ) (form : List (List ℕ) → Request) (fields : List (List ℕ)) (rest : Request) → is_name known ≡ true → is_name word ≡ false → rest ≡ Bad → (b : Bool) → bytes_eq word known ≡ b → cond b (form fields) rest ≡ Bad
one_more known word form fields rest named e behind true is = let both : is_name word ≡ true = ap is_name ((bytes_eq-Decides word known).0 is) ∙ named in cc
one_more known word form fields rest named e behind false is = behind

unknown : (known : List (List ℕ × (List (List ℕ) → Request))) → are_names known → (word : List ℕ) (fields : List (List ℕ)) → is_name word ≡ false → request_by known word fields ≡ Bad
unknown [] names word fields e = refl
unknown (form ∷ more) names word fields e = one_more form.0 word form.1 fields (request_by more word fields) names.0 e (unknown more names.1 word fields e) (bytes_eq word form.0) refl

pub unknown_word : (word : List ℕ) (fields : List (List ℕ)) → is_name word ≡ false → request_by forms word fields ≡ Bad
unknown_word word fields e = unknown forms (refl, (refl, (refl, (refl, (refl, (refl, (refl, (refl, (refl, (refl, (refl, (refl, (refl, (refl, (refl, (refl, tt)))))))))))))))) word fields e
