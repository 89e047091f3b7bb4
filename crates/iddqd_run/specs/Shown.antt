-- What the program's own types for an entry and a reply stand for.
use Rattle.std.specs.Prelude.{◌≡◌, ℕ, Bool, List, [], ◌∷◌, length, map, ◌++◌, Option, filter, ◌⊎◌, ◌==◌, nat_lt, if◌then◌else◌, decimal, codes, string_bytes, String, IsPermutation}
use Rattle.std.specs.Borrow.{Bor}
use Rattle.std.specs.Global.{Global, Vec}
use Rattle.std.specs.Option.{option_map}
use Rattle.iddqd_run.specs.Answer as answer
use Rattle.iddqd.specs.Contents.{Ascends}
use Rattle.iddqd.specs.Holding.{max_items}
use Rattle.iddqd.specs.Refusal.{RefusalKind, refusal_kind}
use Rattle.idtable_lines.specs.Parsed.{request_in}
use Rattle.idtable_lines.specs.Lines.{Request, AddAll, paired_request, pairs_of, words_of}
use Rattle.idtable_commands.specs.Step.{MapState}
use Rattle.idtable_lines.specs.declared.arguments.Kind.{Kind}
use Rattle.idtable_lines.specs.declared.lines.Line.{Line}
use Rattle.idtable_lines.specs.declared.arguments.Kind.TheVariants.{Hash, Ord}
use Rattle.iddqd_run.specs.declared.by_name.ListStop.{ListStop}
use Rattle.iddqd_run.specs.declared.by_name.ListStop.TheVariants.{Entries}
use Rattle.iddqd_run.specs.declared.entries.Entry.{Entry}
use Rattle.iddqd_run.specs.declared.entries.LineReply.{LineReply}
use Rattle.iddqd_run.specs.declared.entries.LineReply.TheVariants.{Added, Duplicate, New, Replaced, Found, Removed, Named, Absent, Within, Length, Unsupported, Bad, RefusedCapacity, RefusedMemory, Set, Kept, Done, AddedAll, DuplicateAfter}

abbrev pub entry_of : Entry → answer.Entry
entry_of entry = (string_bytes entry.name, entry.value)

abbrev pub entries_of : List Entry → List answer.Entry
entries_of items = map entry_of items

-- the items that are lent, in order
abbrev pub all_lent : List (Bor Entry) → List Entry
all_lent lent = map (λ one. one.now) lent

-- the text of a reply
abbrev pub reply_text : LineReply → List ℕ
reply_text Added = codes "added"
reply_text (Duplicate name value) = codes "duplicate " ++ name.now ++ codes " " ++ decimal value
reply_text New = codes "new"
reply_text (Replaced value) = codes "replaced " ++ decimal value
reply_text (Found value) = decimal value
reply_text (Removed value) = codes "removed " ++ decimal value
reply_text (Named name value) = name.now ++ codes " " ++ decimal value
reply_text (AddedAll count) = codes "added " ++ decimal count
reply_text (DuplicateAfter name value count) = codes "duplicate " ++ name.now ++ codes " " ++ decimal value ++ codes " after " ++ decimal count
reply_text Absent = codes "none"
reply_text Within = codes "within"
reply_text (Set value) = codes "set " ++ decimal value
reply_text (Kept kept dropped) = codes "kept " ++ decimal kept ++ codes " dropped " ++ decimal dropped
reply_text (Length count) = decimal count
reply_text Done = codes "ok"
reply_text Unsupported = codes "unsupported"
reply_text Bad = codes "bad"
reply_text RefusedCapacity = codes "refused capacity"
reply_text RefusedMemory = codes "refused memory"

-- the reply to a line whose new entry finds no room among these
abbrev pub no_room_reply : {T : Type 0} → List T → LineReply
no_room_reply items = if length items == max_items then RefusedCapacity else RefusedMemory

-- the reply if a map of these entries refused a new one, whichever they are
abbrev pub ShowsNoRoom : RefusalKind → LineReply → Type 0
ShowsNoRoom refused reply = (items : List Entry) → refused ≡ refusal_kind max_items items → reply ≡ no_room_reply items

-- the reply to a line that finds no room for this many entries in all
abbrev pub no_space_reply : ℕ → LineReply
no_space_reply wanted = if nat_lt max_items wanted then RefusedCapacity else RefusedMemory

-- how many refusals of memory a reply is
abbrev pub refusals_of : LineReply → ℕ
refusals_of RefusedMemory = 1
refusals_of reply = 0

-- the entries are those of the items, which may lie in whatever order
pub record ShowsEntries (items : List Entry) (entries : List answer.Entry) : Type 0 where
  pub same : IsPermutation (entries_of items) entries
  pub ascending : Ascends answer.name_of answer.name_cmp entries

-- the items ascend by name
abbrev pub AreByName : List Entry → Type 0
AreByName items = Ascends answer.name_of answer.name_cmp (entries_of items)

-- the bytes were written to the end of a text
abbrev pub AppendsBytes : List ℕ → String Global → String Global → Type 0
AppendsBytes bytes before after = string_bytes after ≡ string_bytes before ++ bytes

-- the text of one line
abbrev pub line_of : List ℕ → List ℕ
line_of bytes = bytes ++ 10 ∷ []

-- the number of the items and each of them, in their order, were written to the end of a text
abbrev pub AppendsList : List Entry → String Global → String Global → Type 0
AppendsList items = AppendsBytes (codes "list " ++ decimal (length items) ++ answer.list_text (entries_of items))

-- the entries of the items were written to the end of a text, as `list` shows them
pub record ListsItems (items : List Entry) (before after : String Global) : Type 0 where
  pub listed : List ℕ
  pub written : AppendsBytes listed before after
  pub shows : (all : List answer.Entry) → ShowsEntries items all → listed ≡ answer.whole_list all

-- the list was refused, and nothing was written: memory to sort a map that keeps no order
abbrev pub RefusesList : Kind → String Global → String Global → ListStop → Type 0
RefusesList kind before after stop = stop ≡ Entries → (kind ≡ Hash) × (string_bytes after ≡ string_bytes before)

-- the map has those of its items that pass the test
abbrev pub KeepsOnly : {M T : Type 0} → (M → MapState T) → (T → Bool) → M → M → Type 0
KeepsOnly state test old new = (state new).items ≡ filter test (state old).items

-- the map is of the kind that has ends, and its items ascend by name
abbrev pub HasEnds : Kind → List Entry → Type 0
HasEnds kind items = (kind ≡ Ord) × AreByName items

module _ (kind : Kind) (request : Request) where
  -- the reply's text and the entries then, if no memory was refused
  pub record AnswersPlainly (entries : List answer.Entry) (reply : List ℕ) (new : List Entry) : Type 0 where
    pub text : reply ≡ answer.line_reply kind request entries
    pub after : ShowsEntries new (answer.entries_after kind request entries)

  -- what is left if memory was refused
  pub record LeavesRefused (entries : List answer.Entry) (new : List Entry) : Type 0 where
    pub left : List answer.Entry
    pub by_request : answer.RefusedLeaves kind request entries left
    pub after : ShowsEntries new left

  abbrev pub AnswersFrom : List answer.Entry → LineReply → List Entry → Type 0
  AnswersFrom entries RefusedMemory new = LeavesRefused entries new
  AnswersFrom entries reply new = AnswersPlainly entries (reply_text reply) new

  -- the reply, and the items then, of a map that held the old ones
  abbrev pub AnswersRequest : List Entry → LineReply → List Entry → Type 0
  AnswersRequest old reply new = (entries : List answer.Entry) → ShowsEntries old entries → AnswersFrom entries reply new

  -- the same, of a reply's text and of how many refusals of memory it reports
  abbrev pub AnswersInText : List Entry → ℕ → List ℕ → List Entry → Type 0
  AnswersInText old refusals text new = (entries : List answer.Entry) → ShowsEntries old entries
      → ((refusals ≡ 0) × AnswersPlainly entries text new) ⊎ ((refusals ≡ 1) × (text ≡ reply_text RefusedMemory) × LeavesRefused entries new)

  -- the reply to the request was written to the end of the text, as a line, and reports this many refusals of memory
  pub record Replies (old new : List Entry) (before after : String Global) (refusals : ℕ) : Type 0 where
    pub reply : List ℕ
    pub written : AppendsBytes (line_of reply) before after
    pub answers : AnswersInText old refusals reply new

-- the same, to a line
abbrev pub RepliesTo : Kind → Line → (old new : List Entry) → (before after : String Global) → ℕ → Type 0
RepliesTo kind line = Replies kind (request_in line)

-- the same, to a line that adds the entries of items
abbrev pub AddsEach : Kind → List Entry → (old new : List Entry) → (before after : String Global) → ℕ → Type 0
AddsEach kind items = Replies kind (AddAll (entries_of items))

-- the text is the replies to the input, with this many lines refused memory
abbrev pub AnswersAsText : Kind → List ℕ → String Global × ℕ → Type 0
AnswersAsText kind input (text, refusals) = answer.AnswersWithRefusals kind input refusals (string_bytes text)

-- what a line asks that adds the pairs that these fields are
abbrev pub adding_asked : List ℕ → Request
adding_asked fields = paired_request (pairs_of (words_of fields))

-- the reply to such a line
abbrev pub AddsAll : Kind → List ℕ → (old new : List Entry) → (before after : String Global) → ℕ → Type 0
AddsAll kind fields = Replies kind (adding_asked fields)

-- the entries are of the pairs that these fields are; there are none if the fields follow no form
abbrev pub IsPairs : List ℕ → Option (Vec Entry) → Type 0
IsPairs fields made = option_map (λ entries. entries_of entries.items) made ≡ pairs_of (words_of fields)
