-- For speed alone: the prover finds these proofs by itself, but later.
use Rattle.std.proofs.Common.{rules}
use Rattle.idtable_commands.proofs.keyed_map.hash.IdHashMapKeyedMap.len.Goals as goal

pub returns-clause-len : goal.returns-clause-len
returns-clause-len g c = search rules

pub returns-clause-room : goal.returns-clause-room
returns-clause-room g c = search rules
