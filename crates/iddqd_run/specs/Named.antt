-- A map that is asked by names, in the words of its `KeyedMap`.
--     named_in own test m      the item whose key passes the test
--     Stays own old new      the map can be searched, under the same limit, and keeps its room
use Rattle.std.specs.Prelude.{Bool, Option}
use Rattle.idtable_commands.specs.KeyedMap.{StaysKeyed, find_in}
use Rattle.idtable_commands.specs.declared.keyed_map.KeyedMap as keyed_map

module _ {M T K : Type 0} (own : keyed_map.Ghosts M T K) where
  abbrev pub named_in : (K → Bool) → M → Option T
  named_in test m = find_in own.state own.key test m

  abbrev pub Stays : (old new : M) → Type 0
  Stays old new = StaysKeyed own.state own.limit own.rule own.keyed old new
