use Rattle.std.proofs.Common.{◌≡◌, ◌++◌}
use Rattle.idtable_commands.specs.KeyedMap.{StaysKeyed}
use Rattle.idtable_commands.specs.Step.{InsertsAll}
use Rattle.idtable_commands.proofs.keyed_map.extend.insert_each.Given as goal

-- the items so far are in, and the others are to come
abbrev pub invariant-loop-item : goal.invariant-loop-item
invariant-loop-item g l = record {
  left : l.fn.items.items ≡ l.yielded ++ l.item-iterator.rest.items;
  taken : InsertsAll g.M.KeyedMap.key g.M.Key.PartialEq.eq (g.M.KeyedMap.limit l.fn.map) l.yielded (g.M.KeyedMap.state l.fn.map).items (g.M.KeyedMap.state l.map).items;
  stays : StaysKeyed g.M.KeyedMap.state g.M.KeyedMap.limit g.M.KeyedMap.rule g.M.KeyedMap.keyed l.fn.map l.map;
}
