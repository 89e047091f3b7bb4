-- What the program's own types for a parsed line and for the rest of one ask for.
use Rattle.std.specs.Prelude.{◌≡◌, ℕ, suc, true, false, List, [], length, MatchOption, Option, Some, None}
use Rattle.std.specs.Borrow.{Bor}
use Rattle.std.specs.Option.{option_map_or}
use Rattle.idtable_lines.specs.Lines as spec
use Rattle.idtable_lines.specs.declared.lines.End.{End}
use Rattle.idtable_lines.specs.declared.lines.End.TheVariants as end
use Rattle.idtable_lines.specs.declared.lines.Line.{Line}
use Rattle.idtable_lines.specs.declared.lines.Line.TheVariants as line
use Rattle.idtable_lines.specs.declared.lines.NamedValue.{NamedValue}
use Rattle.idtable_lines.specs.declared.lines.Pair.{Pair}
use Rattle.idtable_lines.specs.declared.lines.Request.{Request}
use Rattle.idtable_lines.specs.declared.lines.Request.TheVariants as request

abbrev pub request_asked : Request → spec.Request
request_asked (request.Add pair) = spec.Add pair.name.now pair.value
request_asked (request.Put pair) = spec.Put pair.name.now pair.value
request_asked (request.Get name) = spec.Get name.now
request_asked (request.Del name) = spec.Del name.now
request_asked (request.Cost name) = spec.Cost name.now
request_asked (request.Set pair) = spec.Set pair.name.now pair.value
request_asked (request.Keep value) = spec.Keep value
request_asked (request.Reserve value) = spec.Reserve value
request_asked request.Shrink = spec.Shrink
request_asked request.Len = spec.Len

abbrev pub end_asked : End → spec.Request
end_asked end.First = spec.First
end_asked end.Last = spec.Last
end_asked end.PopFirst = spec.PopFirst
end_asked end.PopLast = spec.PopLast

abbrev pub request_in : Line → spec.Request
request_in (line.Request r) = request_asked r
request_in (line.AddAll fields) = spec.paired_request (spec.pairs_of (spec.words_of fields.now))
request_in line.List = spec.ListAll
request_in (line.End e) = end_asked e
request_in line.Bad = spec.Bad

-- what a line asks for; nothing if there is none, since the fields follow no form
abbrev pub request_if_any : Option Line → spec.Request
request_if_any line = option_map_or request_in line spec.Bad

-- the words after a word, if anything follows it
abbrev pub words_behind : Option (Bor (List ℕ)) → List (List ℕ)
words_behind None = []
words_behind (Some rest) = spec.words_of rest.now

-- the pairs of what follows, if anything does
abbrev pub pairs_behind : Option (Bor (List ℕ)) → Option (List (List ℕ × ℕ))
pairs_behind None = Some []
pairs_behind (Some rest) = spec.pairs_of (spec.words_of rest.now)

-- how much follows
abbrev pub length_behind : Option (Bor (List ℕ)) → ℕ
length_behind None = 0
length_behind (Some rest) = suc (length rest.now)

-- the word is a name, and this is its text; or it is none
abbrev pub IsNameIn : List ℕ → Option (Bor (List ℕ)) → Type 0
IsNameIn word name = MatchOption name (spec.is_name word ≡ false) (λ n. (spec.is_name word ≡ true) × (n.now ≡ word))

-- the fields are this name, so what a word asks of a name it asks of this one; or they are none, and it asks for nothing
abbrev pub ReadsName : List (List ℕ) → Option (Bor (List ℕ)) → Type 0
ReadsName fields name = (ask : List ℕ → spec.Request) → option_map_or (λ n. ask n.now) name spec.Bad ≡ spec.by_name ask fields

-- the same of a value
abbrev pub ReadsValue : List (List ℕ) → Option ℕ → Type 0
ReadsValue fields value = (ask : ℕ → spec.Request) → option_map_or ask value spec.Bad ≡ spec.by_value ask fields

-- the same of a name and a value
abbrev pub ReadsNameAndValue : List (List ℕ) → Option NamedValue → Type 0
ReadsNameAndValue fields both = (ask : List ℕ → ℕ → spec.Request) → option_map_or (λ b. ask b.name.now b.value) both spec.Bad ≡ spec.by_name_and_value ask fields

-- the fields begin with the pair, before the pairs of the rest; or they do not begin with one, and are no pairs
abbrev pub BeginsWithPair : List (List ℕ) → Option Pair → Type 0
BeginsWithPair fields first =
    MatchOption first (spec.pairs_of fields ≡ None) (λ pair. spec.pairs_of fields ≡ spec.onto_pairs pair.name.now (Some pair.value) (pairs_behind pair.rest))
