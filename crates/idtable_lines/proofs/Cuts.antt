-- Where the first line of a text ends, and the first word of a line: both are what comes before the first byte that ends them.
use Rattle.std.proofs.Common.{◌≡◌, ℕ, zero, suc, ◌<◌, List, [], ◌∷◌, length, get_or, take, drop, refl, arith}
use Rattle.std.specs.Prelude.{◌==◌, if◌then◌else◌}
use Rattle.std.specs.List.{onto_first}
use Rattle.idtable_lines.specs.Lines.{words_of}

-- the parts of a text, where the byte `ends` ends each
module _ (ends : ℕ) (parts : List ℕ → List (List ℕ)) (by_byte : (b : ℕ) (text : List ℕ) → parts (b ∷ text) ≡ (if b == ends then [] ∷ parts text else onto_first b (parts text))) where
  -- the first part
  pub cut : (text : List ℕ) (i : ℕ) → i < length text → ((k : ℕ) → k < i → get_or text k 0 ≡ ends → ⊥) → get_or text i 0 ≡ ends → parts text ≡ take i text ∷ parts (drop (suc i) text)
  cut [] i lt before here = absurd (omega (arith, lt))
  cut (b ∷ text) zero lt before here = let first = by_byte b text in grind (arith, here, first)
  cut (b ∷ text) (suc i) lt before here =
      let first = by_byte b text in
      let not_first : b ≡ ends → ⊥ = before 0 (omega arith) in
      let more : parts text ≡ take i text ∷ parts (drop (suc i) text) = cut text i (omega (arith, lt)) (λ k h. before (suc k) (omega (arith, h))) here in
      grind (arith, not_first, more, first)

  -- the last part, which no byte ends
  pub whole : ((b : ℕ) → onto_first b (parts []) ≡ (b ∷ []) ∷ []) → (text : List ℕ) → 0 < length text → ((k : ℕ) → k < length text → get_or text k 0 ≡ ends → ⊥) → parts text ≡ text ∷ []
  whole last [] some before = absurd (omega (arith, some))
  whole last (b ∷ []) some before =
      let first = by_byte b [] in
      let end = last b in
      let not_first : b ≡ ends → ⊥ = before 0 (omega arith) in
      grind (arith, not_first, first, end)
  whole last (b ∷ c ∷ text) some before =
      let first = by_byte b (c ∷ text) in
      let not_first : b ≡ ends → ⊥ = before 0 (omega arith) in
      let more : parts (c ∷ text) ≡ (c ∷ text) ∷ [] = whole last (c ∷ text) (omega arith) (λ k h. before (suc k) (omega (arith, h))) in
      grind (arith, not_first, more, first)

-- the last word of a line, which may be empty
pub words-whole : (text : List ℕ) → ((k : ℕ) → k < length text → get_or text k 0 ≡ 32 → ⊥) → words_of text ≡ text ∷ []
words-whole [] before = refl
words-whole (b ∷ text) before = whole 32 words_of (λ b text. refl) (λ b. refl) (b ∷ text) (omega arith) before
