-- What commands do to a map of either kind, over what the map shows of itself (`KeyedMap`).
--     Gives      the reply to a command, and the items then
--     DoesIn, RunsIn      with the room that is left; a list of commands and their replies
--     ShowsEach      the replies lack no clone, if none can be refused
--     InsertsOne, RefusesOneIn      an item is inserted, or returned
--     InsertsEach, RefusesEach      the same of many, up to the first that is returned
--     ends_extension      what the map is once the loan of an extension's result ends
use Rattle.std.specs.Prelude.{Bool, List, Result}
use Rattle.std.specs.Borrow.{Fml, RattleType, MutBor, unit}
use Rattle.std.specs.Global.{Vec}
use Rattle.iddqd.specs.declared.errors.ExtendUniqueError.{ExtendUniqueError}
use Rattle.idtable_commands.specs.KeyedMap.{InsertsIntoMap, RefusesAmong, RefusesOne, map_after_extension}
use Rattle.idtable_commands.specs.Step.{Answers, Does, InsertsAll, Run, ShowsClones}
use Rattle.idtable_commands.specs.declared.commands.Command.{Command}
use Rattle.idtable_commands.specs.declared.commands.Reply.{Reply}
use Rattle.idtable_commands.specs.declared.keyed_map.KeyedMap.{Ghosts}
use Rattle.idtable_commands.specs.declared.keyed_map.extend.NotInserted.{NotInserted}

module _ {M T K : Type 0} (map : Ghosts M T K) (eq : K → K → Bool) where
  -- the item was inserted: its key was absent and the map was not full
  abbrev pub InsertsOne : T → (old new : M) → Type 0
  InsertsOne x old new = InsertsIntoMap map.state map.limit map.rule map.keyed map.key eq x old new

  -- the item is returned since one of an equal key exists, or it finds no room
  abbrev pub RefusesOneIn : M → T → NotInserted T → Type 0
  RefusesOneIn old x back = RefusesOne map.key eq (map.limit old) (map.state old) x back

  -- all items are inserted, one after another
  abbrev pub InsertsEach : List T → (old new : M) → Type 0
  InsertsEach xs old new = InsertsAll map.key eq (map.limit old) xs (map.state old).items (map.state new).items

  -- the first item that is not inserted is returned, and those before it are in
  abbrev pub RefusesEach : List T → (old new : M) → NotInserted T → Type 0
  RefusesEach xs old new back = RefusesAmong map.key eq (map.limit old) xs (map.state old) (map.state new).items back

  module _ {V : Type 0} (visits : V → T → V × T × Bool) where
    -- to a command the map gives this reply, and it has these items then
    abbrev pub Gives : Command T K V → M → Reply T → M → Type 0
    Gives command old reply new = Answers map.key eq visits (map.limit old) map.rule command (map.state old) reply (map.state new).items

    -- the same, and the room that is left
    abbrev pub DoesIn : Command T K V → M → Reply T → M → Type 0
    DoesIn command old reply new = Does map.key eq visits (map.limit old) map.rule (map.state old) command reply (map.state new)

    -- a reply for each command, in order, each from where the one before ended
    abbrev pub RunsIn : Vec (Command T K V) → (old new : M) → Vec (Reply T) → Type 0
    RunsIn commands old new replies = Run map.key eq visits (map.limit old) map.rule (map.state old) commands.items replies.items (map.state new)

-- each reply shows the clone that its command asks for, if no clone can be refused
abbrev pub ShowsEach : {T K V : Type 0} → (T → Type 0) → Vec (Command T K V) → Vec (Reply T) → Type 0
ShowsEach is_infallible commands replies = ShowsClones is_infallible commands.items replies.items

-- at `Ok` all items are in; at `Err` the error says why not all are, and which
abbrev pub ends_extension : (M : RattleType) {T K : Type 0} (map : Ghosts M.Denot T K) (eq : K → K → Bool) → MutBor M.Denot → Result (MutBor unit.Denot) (ExtendUniqueError T) → List T → Fml
ends_extension M map eq = map_after_extension M map.state map.limit map.rule map.keyed map.key eq
