-- The lines of a text, and what a line asks for.
--     lines_of text      the lines, each without the byte that ends it
--     request_of line      what the line asks for; a line that follows no form asks for nothing: `Bad`
use Rattle.std.specs.Prelude.{◌≡◌, ◌≢◌, ◌<◌, ℕ, ◌^◌, Bool, ◌&&◌, ◌||◌, ◌==◌, nat_le, nat_lt, List, [], ◌∷◌, length, slice_index, Option, Some, None, decimal, codes, bytes_eq, if◌then◌else◌}
use Rattle.std.specs.List.{list_all, onto_first, slice_split}
use Rattle.std.specs.Option.{option_map_or}
use Rattle.std.specs.Str.Parse.{digits_value}

-- the bytes of a text that have a meaning of their own
abbrev pub line_feed : ℕ
line_feed = 10

abbrev pub space : ℕ
space = 32

abbrev pub plus_sign : ℕ
plus_sign = 43

abbrev pub zero_digit : ℕ
zero_digit = 48

-- how many bytes a name has at most
abbrev pub longest_name : ℕ
longest_name = 32

-- a line ends with a line feed; a last line without it counts; an empty text has none
abbrev pub lines_of : List ℕ → List (List ℕ)
lines_of [] = []
lines_of (byte ∷ text) = if byte == line_feed then [] ∷ lines_of text else onto_first byte (lines_of text)

-- the words of a line, parted by one space each
abbrev pub words_of : List ℕ → List (List ℕ)
words_of line = slice_split (λ byte. byte == space) line

-- the bytes `a` to `z`, 97 to 122, and `0` to `9`, 48 to 57
abbrev pub is_name_byte : ℕ → Bool
is_name_byte byte = (nat_le 97 byte && nat_le byte 122) || (nat_le 48 byte && nat_le byte 57)

-- one such byte or more
abbrev pub is_name : List ℕ → Bool
is_name word = nat_lt 0 (length word) && nat_le (length word) longest_name && list_all is_name_byte word

-- the number of 64 bits whose decimal text the word is, which has no leading zero
abbrev pub value_of : List ℕ → Option ℕ
value_of word = let n = digits_value 10 word in if bytes_eq word (decimal n) && nat_lt n (2 ^ 64) then Some n else None

-- the word has no sign in front, and a zero in front only if it is all that there is
abbrev pub HasOneForm : List ℕ → Type 0
HasOneForm word = (0 < length word) × (slice_index word 0 ≢ plus_sign) × (slice_index word 0 ≡ zero_digit → length word ≡ 1)

pub data Request : Type 0 where
  Add : List ℕ → ℕ → Request
  Put : List ℕ → ℕ → Request
  Get : List ℕ → Request
  Del : List ℕ → Request
  Cost : List ℕ → Request
  Set : List ℕ → ℕ → Request
  Keep : ℕ → Request
  Reserve : ℕ → Request
  Shrink : Request
  AddAll : List (List ℕ × ℕ) → Request
  Len : Request
  ListAll : Request
  First : Request
  Last : Request
  PopFirst : Request
  PopLast : Request
  Bad : Request

-- a pair before others; none if its word is no value
abbrev pub onto_pairs : List ℕ → Option ℕ → Option (List (List ℕ × ℕ)) → Option (List (List ℕ × ℕ))
onto_pairs name None pairs = None
onto_pairs name (Some value) None = None
onto_pairs name (Some value) (Some pairs) = Some ((name, value) ∷ pairs)

-- the pairs of a name and a value that words are, in order; none if a word is left alone, or is not what it should be
abbrev pub pairs_of : List (List ℕ) → Option (List (List ℕ × ℕ))
pairs_of [] = Some []
pairs_of (name ∷ []) = None
pairs_of (name ∷ value ∷ words) = if is_name name then onto_pairs name (value_of value) (pairs_of words) else None

-- What the fields after a word ask for, by the form that they have to be of. Fields of another form ask for nothing.
abbrev pub alone : Request → List (List ℕ) → Request
alone ask [] = ask
alone ask (field ∷ fields) = Bad

abbrev pub by_name : (List ℕ → Request) → List (List ℕ) → Request
by_name ask [] = Bad
by_name ask (name ∷ []) = if is_name name then ask name else Bad
by_name ask (name ∷ more ∷ fields) = Bad

abbrev pub by_value : (ℕ → Request) → List (List ℕ) → Request
by_value ask [] = Bad
by_value ask (value ∷ []) = option_map_or ask (value_of value) Bad
by_value ask (value ∷ more ∷ fields) = Bad

abbrev pub by_name_and_value : (List ℕ → ℕ → Request) → List (List ℕ) → Request
by_name_and_value ask [] = Bad
by_name_and_value ask (name ∷ []) = Bad
by_name_and_value ask (name ∷ value ∷ []) = if is_name name then option_map_or (ask name) (value_of value) Bad else Bad
by_name_and_value ask (name ∷ value ∷ more ∷ fields) = Bad

-- a request by pairs: `addall`
abbrev pub paired_request : Option (List (List ℕ × ℕ)) → Request
paired_request None = Bad
paired_request (Some pairs) = AddAll pairs

abbrev pub by_pairs : List (List ℕ) → Request
by_pairs [] = Bad
by_pairs (field ∷ fields) = paired_request (pairs_of (field ∷ fields))

-- the words, each with what the fields after it ask for
abbrev pub forms : List (List ℕ × (List (List ℕ) → Request))
forms =
    (codes "add", by_name_and_value Add) ∷
    (codes "addall", by_pairs) ∷
    (codes "put", by_name_and_value Put) ∷
    (codes "get", by_name Get) ∷
    (codes "del", by_name Del) ∷
    (codes "set", by_name_and_value Set) ∷
    (codes "keep", by_value Keep) ∷
    (codes "len", alone Len) ∷
    (codes "cost", by_name Cost) ∷
    (codes "list", alone ListAll) ∷
    (codes "first", alone First) ∷
    (codes "last", alone Last) ∷
    (codes "popfirst", alone PopFirst) ∷
    (codes "poplast", alone PopLast) ∷
    (codes "reserve", by_value Reserve) ∷
    (codes "shrink", alone Shrink) ∷
    []

-- what a word and the fields after it ask for; nothing if the word is none of these
abbrev pub request_by : List (List ℕ × (List (List ℕ) → Request)) → List ℕ → List (List ℕ) → Request
request_by [] word fields = Bad
request_by ((known, form) ∷ more) word fields = if bytes_eq word known then form fields else request_by more word fields

abbrev pub request_of_words : List (List ℕ) → Request
request_of_words [] = Bad
request_of_words (word ∷ fields) = request_by forms word fields

abbrev pub request_of : List ℕ → Request
request_of line = request_of_words (words_of line)
