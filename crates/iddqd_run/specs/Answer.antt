-- What is written for a text: a reply to each of its lines, from the entries so far.
--     line_reply, entries_after      the reply to a request, and the entries then
--     answer_text kind input      the replies to a whole text, over a map of the kind, which decides only whether there are ends:
-- a hash map has none
--     AnswersWithRefusals kind input refusals text      the same, with this many lines refused memory
use Rattle.std.specs.Prelude.{◌≡◌, ℕ, Bool, List, [], ◌∷◌, ◌++◌, length, Option, Some, None, ◌+◌, ◌-◌, ◌<◌, ◌≤◌, drop, take, flat_map, slice_get, decimal, codes, bytes_eq, ◌==◌, if◌then◌else◌, ◌⊎◌, suc, filter, nat_lt}
use Rattle.std.specs.declared.cmp.Ordering.{Ordering}
use Rattle.std.specs.Ordering.{nat_cmp}
use Rattle.std.specs.Option.{option_map_or}
use Rattle.std.specs.Cmp.Lexicographic.{slice_cmp}
use Rattle.iddqd.specs.Contents.{find_item, items_without, items_overwritten, items_with}
use Rattle.idtable_lines.specs.Lines.{Request, Add, Put, Get, Del, Cost, Len, ListAll, First, Last, PopFirst, PopLast, Bad, lines_of, request_of, Set, Keep, Reserve, Shrink, AddAll}
use Rattle.iddqd.specs.Holding.{max_items}
use Rattle.iddqd.specs.Collecting.{room_to_reserve}
use Rattle.idtable_lines.specs.declared.arguments.Kind.{Kind}
use Rattle.idtable_lines.specs.declared.arguments.Kind.TheVariants.{Hash, Ord}

-- a name and its value; entries ascend by name, whose bytes are compared
abbrev pub Entry : Type 0
Entry = List ℕ × ℕ

abbrev pub name_of : Entry → List ℕ
name_of entry = entry.0

abbrev pub name_cmp : List ℕ → List ℕ → Ordering
name_cmp = slice_cmp nat_cmp

abbrev pub entry_named : List ℕ → List Entry → Option Entry
entry_named name entries = find_item name_of (bytes_eq name) entries

abbrev pub is_full : List Entry → Bool
is_full entries = length entries == max_items

-- the entries of a greater value
abbrev pub greater : ℕ → List Entry → List Entry
greater value entries = filter (λ entry. nat_lt value entry.1) entries

-- the entries with each pair at its place, one after the other
abbrev pub entries_with_all : List Entry → List Entry → List Entry
entries_with_all [] entries = entries
entries_with_all (pair ∷ pairs) entries = entries_with_all pairs (items_with name_of name_cmp pair entries)

-- how many of the pairs are inserted, one after another, up to one whose name exists by then, or a full map
abbrev pub how_many_fit : List Entry → List Entry → ℕ
how_many_fit [] entries = 0
how_many_fit (pair ∷ pairs) entries = option_map_or (λ _. 0) (entry_named (name_of pair) entries) (if is_full entries then 0 else suc (how_many_fit pairs (items_with name_of name_cmp pair entries)))

-- a map never has room to begin with: for all of the pairs in a map without entries, and for half of them, rounded up, in another
abbrev pub lacks_room : List Entry → List Entry → Bool
lacks_room pairs entries = nat_lt max_items (length entries + room_to_reserve (length entries) (length pairs))

-- how many of the pairs `addall` inserts
abbrev pub how_many_added : List Entry → List Entry → ℕ
how_many_added pairs entries = if lacks_room pairs entries then 0 else how_many_fit pairs entries

-- what is reported once this many pairs are in: that these were all, or that the next one's name exists, or else that the map is
-- full
abbrev pub added_text : ℕ → List Entry → List Entry → List ℕ
added_text count [] entries = codes "added " ++ decimal count
added_text count (pair ∷ pairs) entries = option_map_or (λ old. codes "duplicate " ++ name_of pair ++ codes " " ++ decimal old.1 ++ codes " after " ++ decimal count) (entry_named (name_of pair) entries) (codes "refused capacity")

-- each entry, after a space
abbrev pub list_text : List Entry → List ℕ
list_text entries = flat_map (λ entry. codes " " ++ name_of entry ++ codes "=" ++ decimal entry.1) entries

-- the entry at an end, if there is one
abbrev pub end_text : Option Entry → List ℕ
end_text None = codes "none"
end_text (Some entry) = name_of entry ++ codes " " ++ decimal entry.1

-- the number of entries, and each of them (`list`)
abbrev pub whole_list : List Entry → List ℕ
whole_list entries = codes "list " ++ decimal (length entries) ++ list_text entries

abbrev pub last_of : {T : Type 0} → List T → Option T
last_of xs = slice_get xs (length xs - 1)

abbrev pub without_last : {T : Type 0} → List T → List T
without_last xs = take (length xs - 1) xs

-- what is so of a kind that has no ends, or of one that has
abbrev pub by_ends : {A : Type 0} → Kind → A → A → A
by_ends Hash endless ended = endless
by_ends Ord endless ended = ended

module _ (kind : Kind) where
  -- the reply, without the byte that ends it
  abbrev pub line_reply : Request → List Entry → List ℕ
  line_reply (Add name value) entries = option_map_or (λ old. codes "duplicate " ++ name ++ codes " " ++ decimal old.1) (entry_named name entries) (if is_full entries then codes "refused capacity" else codes "added")
  line_reply (Put name value) entries = option_map_or (λ old. codes "replaced " ++ decimal old.1) (entry_named name entries) (if is_full entries then codes "refused capacity" else codes "new")
  line_reply (Get name) entries = option_map_or (λ old. decimal old.1) (entry_named name entries) (codes "none")
  line_reply (Del name) entries = option_map_or (λ old. codes "removed " ++ decimal old.1) (entry_named name entries) (codes "none")
  line_reply (Cost name) entries = codes "within"
  line_reply (Set name value) entries = option_map_or (λ old. codes "set " ++ decimal old.1) (entry_named name entries) (codes "none")
  line_reply (Keep value) entries = let kept = length (greater value entries) in codes "kept " ++ decimal kept ++ codes " dropped " ++ decimal (length entries - kept)
  line_reply (Reserve value) entries = if nat_lt max_items (length entries + value) then codes "refused capacity" else codes "ok"
  line_reply Shrink entries = codes "ok"
  line_reply (AddAll pairs) entries = if lacks_room pairs entries then codes "refused capacity" else (let count = how_many_fit pairs entries in added_text count (drop count pairs) (entries_with_all (take count pairs) entries))
  line_reply Len entries = decimal (length entries)
  line_reply ListAll entries = whole_list entries
  line_reply First entries = by_ends kind (codes "unsupported") (end_text (slice_get entries 0))
  line_reply Last entries = by_ends kind (codes "unsupported") (end_text (last_of entries))
  line_reply PopFirst entries = by_ends kind (codes "unsupported") (end_text (slice_get entries 0))
  line_reply PopLast entries = by_ends kind (codes "unsupported") (end_text (last_of entries))
  line_reply Bad entries = codes "bad"

  -- `add` leaves the entry of a name that is there, `put` replaces it; a full map takes no other. `set` writes one that is there
  abbrev pub entries_after : Request → List Entry → List Entry
  entries_after (Add name value) entries = option_map_or (λ _. entries) (entry_named name entries) (if is_full entries then entries else items_with name_of name_cmp (name, value) entries)
  entries_after (Put name value) entries = option_map_or (λ _. items_overwritten name_of (bytes_eq name) (name, value) entries) (entry_named name entries) (if is_full entries then entries else items_with name_of name_cmp (name, value) entries)
  entries_after (Get name) entries = entries
  entries_after (Del name) entries = items_without name_of (bytes_eq name) entries
  entries_after (Cost name) entries = entries
  entries_after (Set name value) entries = option_map_or (λ _. items_overwritten name_of (bytes_eq name) (name, value) entries) (entry_named name entries) entries
  entries_after (Keep value) entries = greater value entries
  entries_after (Reserve value) entries = entries
  entries_after Shrink entries = entries
  entries_after (AddAll pairs) entries = entries_with_all (take (how_many_added pairs entries) pairs) entries
  entries_after Len entries = entries
  entries_after ListAll entries = entries
  entries_after First entries = entries
  entries_after Last entries = entries
  entries_after PopFirst entries = by_ends kind entries (drop 1 entries)
  entries_after PopLast entries = by_ends kind entries (without_last entries)
  entries_after Bad entries = entries

  -- the replies to lines, from some entries on, each ended by the byte 10
  abbrev pub replies : List (List ℕ) → List Entry → List ℕ
  replies [] entries = []
  replies (line ∷ lines) entries = let request = request_of line in line_reply request entries ++ 10 ∷ replies lines (entries_after request entries)

  abbrev pub answer_text : List ℕ → List ℕ
  answer_text input = replies (lines_of input) []

  -- What a line leaves that is refused memory, if it needs any. A line that makes one item, sorts, makes room or gives it back
  -- leaves what was there; a reservation past the limit is never refused memory. A line that adds many leaves some of the first
  -- pairs.
  abbrev pub RefusedLeaves : Request → (old new : List Entry) → Type 0
  RefusedLeaves (Add name value) old new = new ≡ old
  RefusedLeaves (Put name value) old new = new ≡ old
  RefusedLeaves (Reserve value) old new = (length old + value ≤ max_items) × (new ≡ old)
  RefusedLeaves Shrink old new = new ≡ old
  RefusedLeaves (AddAll pairs) old new = (count : ℕ) × (count < length pairs) × (count ≤ how_many_added pairs old) × (new ≡ entries_with_all (take count pairs) old)
  RefusedLeaves ListAll old new = (kind ≡ Hash) × (new ≡ old)
  RefusedLeaves _ old new = ⊥

  -- the same replies, but for this many lines that are refused; the replies to later lines are from what such a line leaves
  abbrev pub RepliesWithRefusals : List (List ℕ) → List Entry → ℕ → List ℕ → Type 0
  RepliesWithRefusals [] entries refusals text = (refusals ≡ 0) × (text ≡ [])
  RepliesWithRefusals (line ∷ lines) entries refusals text = let request = request_of line in
      ((rest : List ℕ) × (text ≡ line_reply request entries ++ 10 ∷ rest) × RepliesWithRefusals lines (entries_after request entries) refusals rest)
      ⊎ ((left : List Entry) × RefusedLeaves request entries left × (fewer : ℕ) × (rest : List ℕ) × (refusals ≡ suc fewer) × (text ≡ codes "refused memory" ++ 10 ∷ rest) × RepliesWithRefusals lines left fewer rest)

  -- without a refusal it is *answer_text* itself
  pub record AnswersWithRefusals (input : List ℕ) (refusals : ℕ) (text : List ℕ) : Type 0 where
    pub replied : RepliesWithRefusals (lines_of input) [] refusals text
    pub whole : refusals ≡ 0 → text ≡ answer_text input
