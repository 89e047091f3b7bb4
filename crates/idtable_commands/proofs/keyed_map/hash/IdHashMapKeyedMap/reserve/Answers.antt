-- For speed alone: the prover finds these proofs by itself, but later.
use Rattle.std.proofs.Common.{rules}
use Rattle.idtable_commands.proofs.keyed_map.hash.IdHashMapKeyedMap.reserve.Goals as goal

pub returns-clause-made : goal.returns-clause-made
returns-clause-made g c = search rules
