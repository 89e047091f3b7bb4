use Rattle.std.proofs.Common.{arith, rules}
use Rattle.std.proofs.lemmas.Grind.{common_steps}
use Rattle.idtable_commands.proofs.keyed_map.hash.IdHashMapKeyedMap.visit.Goals as goal

pub returns-clause-visited : goal.returns-clause-visited
returns-clause-visited g c = search rules

pub returns-clause-stays : goal.returns-clause-stays
returns-clause-stays g c = record { keyed = search rules; limit = search rules; room = grind (arith, common_steps) }
