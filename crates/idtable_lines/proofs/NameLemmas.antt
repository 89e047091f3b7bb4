-- A name is a short text of ASCII letters and digits.
use Rattle.std.proofs.Common.{◌≡◌, ℕ, ◌<◌, Bool, true, false, ◌&&◌, List, [], ◌∷◌, length, arith, refl}
use Rattle.std.specs.Prelude.{nat_lt, nat_le}
use Rattle.std.specs.List.{list_all}
use Rattle.std.specs.Str.{IsAscii, IsUtf8}
use Rattle.std.proofs.lemmas.Str.{IsUtf8-from_ascii}
use Rattle.std.proofs.lemmas.Str.Ascii.{IsAscii-nil, IsAscii-cons}
use Rattle.std.proofs.lemmas.Bool.Decides.{nat_tests}
use Rattle.idtable_lines.specs.Lines.{is_name, is_name_byte}

ascii_byte : (byte : ℕ) → is_name_byte byte ≡ true → byte < 128
ascii_byte byte e = grind (arith, nat_tests)

pub parts : (a b : Bool) → (a && b) ≡ true → (a ≡ true) × (b ≡ true)
parts true b e = (refl, e)
parts false b e = cc

pub letters_ascii : (word : List ℕ) → list_all is_name_byte word ≡ true → IsAscii word
letters_ascii [] e = IsAscii-nil
letters_ascii (byte ∷ word) e =
    let p = parts (is_name_byte byte) (list_all is_name_byte word) e in
    IsAscii-cons byte word (ascii_byte byte p.0) (letters_ascii word p.1)

pub name_utf8 : (word : List ℕ) → is_name word ≡ true → IsUtf8 word
name_utf8 word e = IsUtf8-from_ascii word (letters_ascii word (parts (nat_lt 0 (length word) && nat_le (length word) 32) (list_all is_name_byte word) e).1)
