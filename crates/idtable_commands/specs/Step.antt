-- The reply of a map to a command, and what it holds then. No pair of a command and a reply occurs but those with a case of their
-- own.
--     MapState      the items of a map, and its spare: how many new items it takes without a refusal
--     MapRule      what the two kinds of map differ in: whether a map keeps a spare, how its items lie, and in which order it
-- visits them
--     LieByRule      how the items of such a map lie
--     room_left, LeavesRoom      how much room a command leaves at least to a map that keeps a spare
--     MakesRoom, RefusesRoom      room is made, or refused
--     IsVisitOrder      in which order the items of a map are visited
--     VisitsItem, RetainsVisited      an item is visited; all are, in that order, and some stay
--     InsertsAbsent      an item is inserted whose key no other has
--     InsertsAll, StopsAt      items are inserted one after another; this many are, and the next one is not
--     MeetsAkin, FindsFull      why it is not
--     Answers      the reply to a command, and the items then
--     ShowsClone, Shows, ShowsClones      a reply that lacks no clone; if none can be refused; all of them
--     Does, Step, Run      one command and its reply; with how the items lie; a list of commands and their replies
use Rattle.std.specs.declared.cmp.Ordering.{Ordering}
use Rattle.std.specs.List.{AllZip}
use Rattle.std.specs.Prelude.{◌≡◌, ℕ, ◌+◌, ◌<◌, ◌≤◌, max, Bool, List, [], ◌∷◌, length, take, slice_get, Option, Some, None, IfSome, IsSome, IsPermutation, ⊤}
use Rattle.iddqd.specs.Collecting.{AddsAll, IsFirstConflict, room_to_reserve}
use Rattle.iddqd.specs.Contents.{Ascends, ClonesSucceed, find_item, IsAbsent, NoTwoAkin, items_overwritten, items_without, OverwritesItem}
use Rattle.iddqd.specs.Visiting.{kept_by, visitor_after}
use Rattle.iddqd.specs.Refusal.{FindsNoRoom, RefusalKind, memory_refused, reservation_kind}
use Rattle.idtable_commands.specs.declared.commands.Command.{Command}
use Rattle.idtable_commands.specs.declared.commands.Command.TheVariants.{InsertUnique, InsertOverwrite, Get, Remove, Visit, RetainMut, Clear, Reserve, Shrink, Len, ExtendUnique}
use Rattle.idtable_commands.specs.declared.commands.Reply.{Reply}
use Rattle.idtable_commands.specs.declared.commands.Reply.TheVariants.{Inserted, Duplicate, Replaced, Found, Removed, Absent, Visited, Kept, Done, Length, Refused, Extended, Conflict, Stopped}

pub record MapState (T : Type 0) : Type 0 where
  pub items : List T
  pub spare : ℕ

-- an ordered map visits its items in their order, and its spare is always 0; a hash map visits its items in any order, keeps a
-- spare, and loses room only by a shrink
pub data MapRule (K : Type 0) : Type 0 where
  Ordered : (compare : K → K → Ordering) → MapRule K
  Hashed : MapRule K

-- the items of an ordered map ascend strictly by key, and of a hash map no two have equal keys
abbrev pub LieByRule : {T K : Type 0} → (T → K) → (K → K → Bool) → MapRule K → List T → Type 0
LieByRule key eq (Ordered compare) items = Ascends key compare items
LieByRule key eq Hashed items = NoTwoAkin key eq items

-- a map with these items that keeps no spare
abbrev pub spareless : {T : Type 0} → List T → MapState T
spareless items = record { items = items; spare = 0 }

-- the room of a map: what is there and what is spare, together
abbrev pub room_of : {T : Type 0} → MapState T → ℕ
room_of m = m.spare + length m.items

-- so much room at least, and no more than the limit
pub record HasRoom {T : Type 0} (limit least : ℕ) (m : MapState T) : Type 0 where
  pub at_least : least ≤ room_of m
  pub in_limit : room_of m ≤ limit

-- after a call that may lower the room to so much, and no further
abbrev pub LeavesRoom : {T K : Type 0} → MapRule K → (limit least : ℕ) → (old new : MapState T) → Type 0
LeavesRoom (Ordered compare) limit least old new = (old.spare ≡ 0) × (new.spare ≡ 0)
LeavesRoom Hashed limit least old new = HasRoom limit least new

-- what a call that only reads tells of the room: it fits the limit
abbrev pub FitsRoom : {T K : Type 0} → MapRule K → (limit : ℕ) → MapState T → Type 0
FitsRoom (Ordered compare) limit m = m.spare ≡ 0
FitsRoom Hashed limit m = room_of m ≤ limit

-- after a call that lowers no room
abbrev pub KeepsRoom : {T K : Type 0} → MapRule K → (limit : ℕ) → (old new : MapState T) → Type 0
KeepsRoom rule limit old new = LeavesRoom rule limit (room_of old) old new

-- how much room there is at least after a command: a reservation makes it, a shrink may give all of it back, and no other command
-- lowers it
abbrev pub room_left : {T K V : Type 0} → Command T K V → Reply T → MapState T → ℕ
room_left (Reserve n) Done old = max (room_of old) (length old.items + n)
room_left Shrink _ old = 0
room_left _ _ old = room_of old

-- there is room for this many more items: the limit has it, and a map that keeps a spare has this much (`reserve`)
pub record MakesRoom {T K : Type 0} (rule : MapRule K) (limit n : ℕ) (old new : MapState T) : Type 0 where
  pub in_limit : length old.items + n ≤ limit
  pub room : LeavesRoom rule limit (length old.items + n) old new

-- room for this many more items was refused: the limit says which kind; it is never refused for as many as are spare
abbrev pub RefusesRoom : {T : Type 0} → (limit n : ℕ) → MapState T → RefusalKind → Type 0
RefusesRoom limit n old kind = (kind ≡ reservation_kind limit (length old.items + n)) × (old.spare < n)

module _ {T K : Type 0} (key : T → K) (eq : K → K → Bool) (limit : ℕ) where
  -- x is returned since there is no room; never if the spare is above 0
  abbrev pub RefusesItem : T → MapState T → Option T → RefusalKind → Type 0
  RefusesItem x old back kind = (back ≡ Some x) × FindsNoRoom key eq limit old.items x kind × (old.spare ≡ 0)

  -- x is inserted: no item has its key, and the map is not full
  abbrev pub InsertsAbsent : T → (old new : List T) → Type 0
  InsertsAbsent x old new = OverwritesItem key eq x limit old None new

  -- the limit has room for as many of the items as are likely new
  abbrev pub FitsLikely : (xs old : List T) → Type 0
  FitsLikely xs old = length old + room_to_reserve (length old) (length xs) ≤ limit

  -- the items are inserted one after another, and the limit has room for each (`extend_unique`)
  pub record InsertsAll (xs old new : List T) : Type 0 where
    pub added : AddsAll key eq xs old new
    pub room : 0 < length xs → length new ≤ limit

  -- the first of the items, this many, are inserted, and x comes next
  pub record StopsAt (xs : List T) (x : T) (after : ℕ) (old new : List T) : Type 0 where
    pub next : slice_get xs after ≡ Some x
    pub taken : InsertsAll (take after xs) old new

  -- x is the first of the items whose key one in the map has by then, an old one or one inserted before it
  pub record MeetsAkin (xs : List T) (x there : T) (after : ℕ) (old new : List T) : Type 0 where
    pub stops : StopsAt xs x after old new
    pub first : IsFirstConflict key eq old (take after xs) x there

  -- x is the first of the items that finds no room, and no item has its key; before it at least as many are inserted as were
  -- spare
  pub record FindsFull (xs : List T) (x : T) (kind : RefusalKind) (after : ℕ) (old : MapState T) (new : List T) : Type 0 where
    pub stops : StopsAt xs x after old.items new
    pub refused : FindsNoRoom key eq limit new x kind
    pub spare_first : old.spare ≤ after

-- the order in which a map with these items visits them
abbrev pub IsVisitOrder : {T K : Type 0} → MapRule K → (items order : List T) → Type 0
IsVisitOrder (Ordered compare) items order = order ≡ items
IsVisitOrder Hashed items order = IsPermutation items order

-- the item whose key passes the test is visited, and stays as the visit made it, whatever the visit returns (`visit`)
module _ {T K V : Type 0} (key : T → K) (visits : V → T → V × T × Bool) where
  abbrev pub VisitsItem : (K → Bool) → (old_visitor new_visitor : V) → Bool → (old new : List T) → Type 0
  VisitsItem test v w answer old new = (x y : T) × (find_item key test old ≡ Some x) × (visits v x ≡ (w, y, answer)) × (new ≡ items_overwritten key test y old)

-- each item is visited once, in the order in which the map visits them, and those stay whose visit returns true (`retain_mut`)
module _ {T K V : Type 0} (visits : V → T → V × T × Bool) where
  abbrev pub RetainsVisited : MapRule K → (old_visitor new_visitor : V) → (old new : List T) → Type 0
  RetainsVisited rule v w old new = (order : List T) × IsVisitOrder rule old order × (w ≡ visitor_after visits v order) × (new ≡ kept_by visits v order)

-- the reply shows the clone that the command asks for: of the item that a key finds, or of the one that has a new item's key
abbrev pub ShowsClone : {T K V : Type 0} → Command T K V → Reply T → Type 0
ShowsClone (InsertUnique x) (Duplicate back existing) = IsSome existing
ShowsClone (ExtendUnique xs) (Conflict back existing after) = IsSome existing
ShowsClone (Get k) (Refused back kind) = ⊥
ShowsClone _ _ = ⊤

-- it does, if no clone can be refused
abbrev pub Shows : {T K V : Type 0} → (T → Type 0) → Command T K V → Reply T → Type 0
Shows is_infallible command reply = ClonesSucceed is_infallible → ShowsClone command reply

-- each reply does, if no clone can be refused
pub record ShowsClones {T K V : Type 0} (is_infallible : T → Type 0) (commands : List (Command T K V)) (replies : List (Reply T)) : Type 0 where
  pub shown : ClonesSucceed is_infallible → AllZip ShowsClone commands replies

module _ {T K V : Type 0} (key : T → K) (eq : K → K → Bool) (visits : V → T → V × T × Bool) (limit : ℕ) (rule : MapRule K) where
  -- the reply to each command, and the items then; no other pair of a command and a reply occurs
  abbrev pub Answers : Command T K V → MapState T → Reply T → List T → Type 0
  -- the item is inserted: its key is absent and the map is not full
  Answers (InsertUnique x) old Inserted new = InsertsAbsent key eq limit x old.items new
  Answers (InsertUnique x) old (Duplicate back existing) new = (back ≡ x) × (y : T) × (find_item key (eq (key x)) old.items ≡ Some y) × IfSome existing (λ e. e ≡ y) × (new ≡ old.items)
  Answers (InsertUnique x) old (Refused back kind) new = RefusesItem key eq limit x old back kind × (new ≡ old.items)
  -- the same, and an existing item of an equal key is replaced whole and returned
  Answers (InsertOverwrite x) old Inserted new = InsertsAbsent key eq limit x old.items new
  Answers (InsertOverwrite x) old (Replaced y) new = OverwritesItem key eq x limit old.items (Some y) new
  Answers (InsertOverwrite x) old (Refused back kind) new = RefusesItem key eq limit x old back kind × (new ≡ old.items)
  -- a clone of the item is shown; only memory for the clone can be refused
  Answers (Get k) old (Found y) new = (find_item key (eq k) old.items ≡ Some y) × (new ≡ old.items)
  Answers (Get k) old Absent new = IsAbsent key (eq k) old.items × (new ≡ old.items)
  Answers (Get k) old (Refused back kind) new = (back ≡ None) × (kind ≡ memory_refused) × (y : T) × (find_item key (eq k) old.items ≡ Some y) × (new ≡ old.items)
  -- the item is taken out
  Answers (Remove k) old (Removed y) new = (find_item key (eq k) old.items ≡ Some y) × (new ≡ items_without key (eq k) old.items)
  Answers (Remove k) old Absent new = IsAbsent key (eq k) old.items × (new ≡ old.items)
  -- the item stays as the visit made it
  Answers (Visit k v) old (Visited answer) new = (w : V) × VisitsItem key visits (eq k) v w answer old.items new
  Answers (Visit k v) old Absent new = IsAbsent key (eq k) old.items × (new ≡ old.items)
  Answers (RetainMut v) old (Kept n) new = (w : V) × RetainsVisited visits rule v w old.items new × (n ≡ length new)
  Answers Clear old Done new = new ≡ []
  -- the items stay
  Answers (Reserve n) old Done new = (length old.items + n ≤ limit) × (new ≡ old.items)
  Answers (Reserve n) old (Refused back kind) new = (back ≡ None) × RefusesRoom limit n old kind × (new ≡ old.items)
  -- they stay, in whatever order, refused or not
  Answers Shrink old Done new = IsPermutation old.items new
  Answers Shrink old (Refused back kind) new = (back ≡ None) × (kind ≡ memory_refused) × IsPermutation old.items new
  Answers Len old (Length n) new = (n ≡ length old.items) × (new ≡ old.items)
  -- all of the items are inserted; or the first ones, up to one whose key one in the map has, or that finds no room; or none, if
  -- room to begin with is refused
  Answers (ExtendUnique xs) old (Extended n) new = (n ≡ length xs.items) × FitsLikely key eq limit xs.items old.items × InsertsAll key eq limit xs.items old.items new
  Answers (ExtendUnique xs) old (Conflict x existing after) new = (y : T) × FitsLikely key eq limit xs.items old.items × MeetsAkin key eq limit xs.items x y after old.items new × IfSome existing (λ e. e ≡ y)
  Answers (ExtendUnique xs) old (Stopped (Some x) kind after) new = FitsLikely key eq limit xs.items old.items × FindsFull key eq limit xs.items x kind after old new
  Answers (ExtendUnique xs) old (Stopped None kind after) new = RefusesRoom limit (room_to_reserve (length old.items) (length xs.items)) old kind × (after ≡ 0) × (new ≡ old.items)
  Answers _ _ _ _ = ⊥

  -- one command: the reply and the items then, and the room that is left
  pub record Does (old : MapState T) (command : Command T K V) (reply : Reply T) (new : MapState T) : Type 0 where
    pub answers : Answers command old reply new.items
    pub room : LeavesRoom rule limit (room_left command reply old) old new

  -- the same, and the items then lie as the map keeps them
  pub record Step (old : MapState T) (command : Command T K V) (reply : Reply T) (new : MapState T) : Type 0 where
    pub does : Does old command reply new
    pub lie : LieByRule key eq rule new.items

  -- a reply for each command, in order, each from where the one before ended
  abbrev pub Run : MapState T → List (Command T K V) → List (Reply T) → MapState T → Type 0
  Run old [] [] new = new ≡ old
  Run old [] (reply ∷ replies) new = ⊥
  Run old (command ∷ commands) [] new = ⊥
  Run old (command ∷ commands) (reply ∷ replies) new = (middle : MapState T) × Step old command reply middle × Run middle commands replies new
